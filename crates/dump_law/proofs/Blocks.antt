-- Blocks, and the changesets and the commits of which they are made.
use Rattle.std.proofs.Common.{◌≡◌, true, false, not, ◌&&◌, List, [], ◌∷◌, ◌++◌, map, refl, sym, ap, subst, ◌∙◌, append_assoc, inl, inr}
use Rattle.std.specs.Prelude.{bytes_eq, IsTrue}
use Rattle.std.specs.List.{list_any}
use Rattle.text_model.specs.Lists.{Each, In}
use Rattle.text_model.specs.Id.{Id}
use Rattle.text_model.proofs.Elements.{in_map, in_left, in_right, none_in, none_all, map_append}
use Rattle.text_model.proofs.TestLemmas.{both}
use Rattle.text_model.proofs.Options.{not_true}
use Rattle.git_model.specs.Tree.{has_distinct}
use Rattle.view_model.specs.View.{ChangesetView, changeset_node, commit_id}
use Rattle.pair_model.specs.Block.{Block, node_of, id_of, changesets_in, commits_in}
use Rattle.pair_model.specs.Octopus.{is_link_view}
use Rattle.state_model.specs.Text.{no_links}
use Rattle.state_model.specs.Saved.{AreBlocks}

-- ---- the changesets that are no links

none-of-links : (ls : List ChangesetView) (h : ChangesetView) (rest : List ChangesetView) → Each (λ l. IsTrue (is_link_view l)) ls → is_link_view h ≡ false
    → no_links ((ls ++ h ∷ []) ++ rest) ≡ h ∷ no_links rest
none-of-links [] h rest links none = rw none refl
none-of-links (l ∷ ls) h rest links none = rw links.0 (none-of-links ls h rest links.1 none)

pub no_links-blocks : (bs : List Block) → AreBlocks bs → no_links (changesets_in bs) ≡ map (λ b. b.changeset) bs
no_links-blocks [] are = refl
no_links-blocks (b ∷ bs) are =
    none-of-links b.links b.changeset (changesets_in bs) are.0.0 are.0.1 ∙ ap (λ (l : List ChangesetView). b.changeset ∷ l) (no_links-blocks bs are.1)

-- ---- ids

-- where all are distinct, those behind are
distinct-rest : (xs ys : List Id) → has_distinct (xs ++ ys) ≡ true → has_distinct ys ≡ true
distinct-rest [] ys h = h
distinct-rest (x ∷ xs) ys h = distinct-rest xs ys (both (not (list_any (bytes_eq x) (xs ++ ys))) (has_distinct (xs ++ ys)) h).1

-- and the first is none of the others
distinct-first : (x : Id) (ys : List Id) → has_distinct (x ∷ ys) ≡ true → (list_any (bytes_eq x) ys ≡ false) × (has_distinct ys ≡ true)
distinct-first x ys h = let b = both (not (list_any (bytes_eq x) ys)) (has_distinct ys) h in (not_true (list_any (bytes_eq x) ys) b.0, b.1)

-- the node of each block is one of the nodes of its changesets
node-in : (blocks : List Block) (node : Id) → In node (map node_of blocks) → In node (map changeset_node (changesets_in blocks))
node-in [] node i = absurd i
node-in (b ∷ blocks) node i = subst (In node) (sym (map_append changeset_node ((b.links ++ b.changeset ∷ [])) (changesets_in blocks))) (by i (node-in blocks node))
  where
    own : In (node_of b) (map changeset_node ((b.links ++ b.changeset ∷ [])))
    own = in_map changeset_node b.changeset ((b.links ++ b.changeset ∷ [])) (in_right b.changeset b.links (b.changeset ∷ []) (inl refl))

    by : In node (map node_of (b ∷ blocks)) → (In node (map node_of blocks) → In node (map changeset_node (changesets_in blocks)))
        → In node (map changeset_node ((b.links ++ b.changeset ∷ [])) ++ map changeset_node (changesets_in blocks))
    by (inl e) later = subst (λ (n : Id). In n (map changeset_node ((b.links ++ b.changeset ∷ [])) ++ map changeset_node (changesets_in blocks))) (sym e)
        (in_left (node_of b) (map changeset_node ((b.links ++ b.changeset ∷ []))) (map changeset_node (changesets_in blocks)) own)
    by (inr j) later = in_right node (map changeset_node ((b.links ++ b.changeset ∷ []))) (map changeset_node (changesets_in blocks)) (later j)

pub nodes-distinct : (blocks : List Block) → has_distinct (map changeset_node (changesets_in blocks)) ≡ true → has_distinct (map node_of blocks) ≡ true
nodes-distinct [] h = refl
nodes-distinct (b ∷ blocks) h =
    let rest = map changeset_node (changesets_in blocks) in
    let links = map changeset_node b.links in
    let split : map changeset_node (changesets_in (b ∷ blocks)) ≡ links ++ node_of b ∷ rest =
    map_append changeset_node ((b.links ++ b.changeset ∷ [])) (changesets_in blocks) ∙ ap (λ (l : List Id). l ++ rest) (map_append changeset_node b.links (b.changeset ∷ []))
    ∙ append_assoc links (node_of b ∷ []) rest in
    let first = distinct-first (node_of b) rest (distinct-rest links (node_of b ∷ rest) (sym (ap has_distinct split) ∙ h)) in
    let none = none_all (bytes_eq (node_of b)) (map node_of blocks) (λ n i. none_in (bytes_eq (node_of b)) rest n first.0 (node-in blocks n i)) in
    (λ i. not (none i) && nodes-distinct blocks first.1 i)

pub ids-blocks : (blocks : List Block) → map commit_id (commits_in blocks) ≡ map id_of blocks
ids-blocks [] = refl
ids-blocks (b ∷ blocks) = ap (λ (l : List Id). id_of b ∷ l) (ids-blocks blocks)
