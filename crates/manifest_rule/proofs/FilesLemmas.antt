-- What is listed among entries is what the rule lists.
use Rattle.std.proofs.Common.{◌≡◌, ◌++◌, Bool, true, false, List, [], ◌∷◌, map, Option, Some, None, refl, sym, ap, subst, ◌∙◌}
use Rattle.std.specs.Prelude.{IsTrue, option_map, not, ◌&&◌, filter, is_some, bytes_eq}
use Rattle.std.specs.List.{find, list_all}
use Rattle.std.proofs.lemmas.Bool.{and_parts}
use Rattle.text_model.specs.Lists.{first_of_each, in_order, rises}
use Rattle.text_model.specs.Text.{Bytes, is_below}
use Rattle.text_model.specs.Id.{Id, is_null}
use Rattle.text_model.proofs.EachLemmas.{Each-weaker}
use Rattle.text_model.proofs.OrderLemmas.{is_below-chain}
use Rattle.hg_model.specs.Manifest.{ManifestEntry, flag_text}
use Rattle.view_model.specs.View.{Row, file_node, entry_of_row, paths_of}
use Rattle.pair_model.specs.Block.{Parents}
use Rattle.pair_model.specs.Rule.{entry_at, same_entry, parents_rows, ruled_files}
use Rattle.pair_known.specs.Rows.{RowValue, row_value}
use Rattle.text_model.proofs.Search.{find-map}
use Rattle.path_law.proofs.Order.{IsUp}
use Rattle.manifest_rule.specs.Listed.{entry_of_value, entries_or_none, AreParentEntries, AreListed, AreListedBy}
use Rattle.manifest_rule.specs.Merged.{said, differs}
use Rattle.manifest_rule.proofs.MergeLemmas.{entry_paths, at_path, all_paths, is_listed_at, listed_among}

pub values-are : (hs : List Row) → map entry_of_value (map row_value hs) ≡ map entry_of_row hs
values-are [] = refl
values-are (h ∷ hs) = ap (λ (l : List ManifestEntry). entry_of_row h ∷ l) (values-are hs)

pub paths-are : (hs : List Row) → entry_paths (map entry_of_row hs) ≡ paths_of hs
paths-are [] = refl
paths-are (h ∷ hs) = ap (λ (l : List Bytes). h.path ∷ l) (paths-are hs)

pub said-at : (hs : List Row) (p : Bytes) → said (at_path (map entry_of_row hs) p) ≡ entry_at hs p
said-at hs p = ap said (find-map entry_of_row (λ e. bytes_eq e.path p) hs) ∙ by (find (λ row. bytes_eq row.path p) hs)
  where
    by : (o : Option Row) → said (option_map entry_of_row o) ≡ option_map (λ row. (file_node row.revision, flag_text row.flag)) o
    by None = refl
    by (Some h) = refl

pub up-of_rises : (xs : List Bytes) → rises is_below xs ≡ true → IsUp xs
up-of_rises [] h = tt
up-of_rises (x ∷ []) h = (tt, tt)
up-of_rises (x ∷ y ∷ ys) h =
    let parts = and_parts (is_below x y) _ h in
    let others = up-of_rises (y ∷ ys) parts.1 in
    ((parts.0, Each-weaker (λ z. is_below y z ≡ true) (λ z. is_below x z ≡ true) (λ z below. is_below-chain x y z parts.0 below) ys others.0), others)

there-are : (m : Option (List ManifestEntry)) (id : Id) (rows : List Row) → AreParentEntries m id rows → (is_null id ≡ not (is_some m)) × (entries_or_none m ≡ map entry_of_row rows)
there-are None id rows h = (h.0, ap (map entry_of_row) (sym h.1))
there-are (Some es) id rows h = (h.0, sym h.1)

-- where a parent has entries exactly if it is there
pub by-entries : (rows : List RowValue) (first second : Option (List ManifestEntry)) (ps : Parents) (hs : List Row) → AreListed rows first second ps hs → AreListedBy rows (is_some first) (is_some second) first second ps hs
by-entries rows first second ps hs are =
    let f = there-are first ps.p (ps.first).rows are.in_first in
    let g = there-are second ps.q (ps.second).rows are.in_second in
    record { of_rows = are.of_rows; rising = are.rising; there = (f.0, g.0); in_first = f.1; in_second = g.1 }

apart-at : (hs gs : List Row) (p : Bytes) → differs (at_path (map entry_of_row hs) p) (at_path (map entry_of_row gs) p) ≡ not (same_entry (entry_at hs p) (entry_at gs p))
apart-at hs gs p = λ i. not (same_entry (said-at hs p i) (said-at gs p i))

and-true : (b : Bool) → b ≡ (b && true)
and-true true = refl
and-true false = refl

listed-rule : (ps : Parents) (hs : List Row) (a b : Bool) → is_null ps.p ≡ not a → is_null ps.q ≡ not b → (p : Bytes)
    → is_listed_at a b (map entry_of_row hs) (map entry_of_row (ps.first).rows) (map entry_of_row (ps.second).rows) p
    ≡ list_all (λ other. not (same_entry (entry_at hs p) (entry_at other p))) (parents_rows ps)
listed-rule ps hs false b p_is q_is p = rw p_is refl
listed-rule ps hs true false p_is q_is p = rw (p_is, q_is) (apart-at hs (ps.first).rows p ∙ and-true (not (same_entry (entry_at hs p) (entry_at (ps.first).rows p))))
listed-rule ps hs true true p_is q_is p =
    rw (p_is, q_is) (λ i. apart-at hs (ps.first).rows p i && (apart-at hs (ps.second).rows p ∙ and-true (not (same_entry (entry_at hs p) (entry_at (ps.second).rows p)))) i)

filter-same : (s t : Bytes → Bool) (xs : List Bytes) → ((x : Bytes) → s x ≡ t x) → filter s xs ≡ filter t xs
filter-same s t [] h = refl
filter-same s t (x ∷ xs) h = by (t x) refl (filter-same s t xs h)
  where
    by : (b : Bool) → t x ≡ b → filter s xs ≡ filter t xs → filter s (x ∷ xs) ≡ filter t (x ∷ xs)
    by true e rest = rw (e, h x ∙ e) (ap (λ (l : List Bytes). x ∷ l) rest)
    by false e rest = rw (e, h x ∙ e) rest

pub listed-is : (rows : List RowValue) (a b : Bool) (first second : Option (List ManifestEntry)) (ps : Parents) (hs : List Row) → AreListedBy rows a b first second ps hs
    → listed_among a b (map entry_of_value rows) (entries_or_none first) (entries_or_none second) ≡ ruled_files ps hs
unfolding ruled_files
listed-is rows a b first second ps hs are =
    let es : map entry_of_value rows ≡ map entry_of_row hs = ap (map entry_of_value) are.of_rows ∙ values-are hs in
    (λ i. listed_among a b (es i) (are.in_first i) (are.in_second i))
    ∙ filter-same (is_listed_at a b (map entry_of_row hs) (map entry_of_row (ps.first).rows) (map entry_of_row (ps.second).rows))
    (λ path. list_all (λ other. not (same_entry (entry_at hs path) (entry_at other path))) (parents_rows ps))
    (all_paths (map entry_of_row hs) (map entry_of_row (ps.first).rows) (map entry_of_row (ps.second).rows))
    (listed-rule ps hs a b are.there.0 are.there.1)
    ∙ (λ i. filter (λ path. list_all (λ other. not (same_entry (entry_at hs path) (entry_at other path))) (parents_rows ps))
    (in_order is_below (first_of_each bytes_eq (paths-are hs i ++ paths-are (ps.first).rows i ++ paths-are (ps.second).rows i))))

pub up-rows : (rows : List RowValue) (hs : List Row) → rows ≡ map row_value hs → IsTrue (rises is_below (paths_of hs)) → IsUp (entry_paths (map entry_of_value rows))
up-rows rows hs of_rows rising =
    subst IsUp (sym (ap (λ (l : List RowValue). entry_paths (map entry_of_value l)) of_rows ∙ ap entry_paths (values-are hs) ∙ paths-are hs)) (up-of_rises (paths_of hs) rising)

pub some-map : {X Y : Type 0} (f : X → Y) (o : Option X) → is_some o ≡ is_some (option_map f o)
some-map f None = refl
some-map f (Some x) = refl
