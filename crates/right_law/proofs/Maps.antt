-- Lists of the same blocks, whose nodes are distinct, have the same map.
use Rattle.std.proofs.Common.{◌≡◌, Bool, true, false, List, [], ◌∷◌, map, refl, sym, ap, ◌∙◌}
use Rattle.std.specs.Prelude.{not, IsTrue, bytes_eq}
use Rattle.std.specs.List.{flat_map, list_any}
use Rattle.std.proofs.lemmas.Bool.{true≢false}
use Rattle.text_model.specs.Lists.{In, in_order}
use Rattle.text_model.specs.Text.{Bytes, line, spaced, is_below}
use Rattle.text_model.specs.Id.{Id, hex}
use Rattle.text_model.proofs.Elements.{each_from, each_in, in_map, none_in, none_all}
use Rattle.text_model.proofs.Options.{not_true}
use Rattle.text_model.proofs.TestLemmas.{both}
use Rattle.git_model.specs.Tree.{has_distinct}
use Rattle.git_model.proofs.RowOrder.{map_ordered}
use Rattle.git_model.proofs.SortLemmas.{of-order}
use Rattle.path_law.proofs.Order.{has, AreApart, same-rising, has-in_order, up-in_order}
use Rattle.pair_model.specs.Block.{Block, node_of, id_of}
use Rattle.saved_model.specs.Written.{has_node_below, map_text}
use Rattle.unmark_law.proofs.Tables.{map_one, one_for}
use Rattle.dump_law.proofs.Elements.{of-map}
use Rattle.frame_law.specs.Ground.{AreAmong}

-- what one list lacks, a list of some of its elements lacks
lacks : (xs ys : List Block) → AreAmong xs ys → (p : Bytes) → has (map node_of ys) p ≡ false → has (map node_of xs) p ≡ false
lacks xs ys among p none = none_all (bytes_eq p) (map node_of xs) (λ n i. absent n (of-map node_of n xs i))
  where
    absent : (n : Bytes) → (b : Block) × In b xs × (n ≡ node_of b) → bytes_eq p n ≡ false
    absent n b = ap (bytes_eq p) b.2 ∙ none_in (bytes_eq p) (map node_of ys) (node_of b.0) none (in_map node_of b.0 ys (each_in (λ d. In d ys) xs b.0 among b.1))

same_nodes : (xs ys : List Block) → AreAmong xs ys → AreAmong ys xs → (p : Bytes) → has (map node_of xs) p ≡ has (map node_of ys) p
same_nodes xs ys a b p = by (has (map node_of xs) p) (has (map node_of ys) p) refl refl
  where
    by : (s t : Bool) → has (map node_of xs) p ≡ s → has (map node_of ys) p ≡ t → has (map node_of xs) p ≡ has (map node_of ys) p
    by true true e f = e ∙ sym f
    by false false e f = e ∙ sym f
    by true false e f = absurd (true≢false (sym e ∙ lacks xs ys a p f))
    by false true e f = absurd (true≢false (sym f ∙ lacks ys xs b p e))

nodes_apart : (ns : List Id) → IsTrue (has_distinct ns) → AreApart ns
nodes_apart [] d = tt
nodes_apart (n ∷ ns) d =
    let parts = both (not (list_any (bytes_eq n) ns)) (has_distinct ns) d in
    (not_true (list_any (bytes_eq n) ns) parts.0, nodes_apart ns parts.1)

ordered_nodes : (xs : List Block) → map node_of (in_order has_node_below xs) ≡ in_order is_below (map node_of xs)
ordered_nodes xs = map_ordered node_of is_below xs

same_order : (xs ys : List Block) → IsTrue (has_distinct (map node_of xs)) → IsTrue (has_distinct (map node_of ys)) → AreAmong xs ys → AreAmong ys xs → in_order has_node_below xs ≡ in_order has_node_below ys
same_order xs ys d e a b =
    let up = up-in_order (map node_of xs) (nodes_apart (map node_of xs) d) in
    let other = up-in_order (map node_of ys) (nodes_apart (map node_of ys) e) in
    let has_same = λ (p : Bytes). has-in_order p (map node_of xs) ∙ same_nodes xs ys a b p ∙ sym (has-in_order p (map node_of ys)) in
    let nodes = ordered_nodes xs ∙ same-rising (in_order is_below (map node_of xs)) (in_order is_below (map node_of ys)) up other has_same ∙ sym (ordered_nodes ys) in
    let of_xs = each_from (λ x. In x ys) (in_order has_node_below xs) (λ x i. each_in (λ y. In y ys) xs x a (of-order has_node_below x xs i)) in
    let of_ys = each_from (λ x. In x ys) (in_order has_node_below ys) (λ x i. of-order has_node_below x ys i) in
    map_one node_of (λ x. In x ys) (λ x y i j. one_for node_of ys e x y i j) (in_order has_node_below xs) (in_order has_node_below ys) of_xs of_ys nodes

pub same_map : (xs ys : List Block) → IsTrue (has_distinct (map node_of xs)) → IsTrue (has_distinct (map node_of ys)) → AreAmong xs ys → AreAmong ys xs → map_text xs ≡ map_text ys
same_map xs ys d e a b = ap (flat_map (λ (x : Block). line (spaced (hex (id_of x) ∷ hex (node_of x) ∷ [])))) (same_order xs ys d e a b)
