-- What the rule gives for a manifest.
use Rattle.std.proofs.Common.{◌≡◌, ◌≤◌, ◌+◌, ℕ, zero, suc, Bool, true, false, true≢false, List, [], ◌∷◌, length, map, take, Some, refl, sym, ap, subst, ◌∙◌, bytes_eq, arith}
use Rattle.std.proofs.lemmas.Option.{same_Some, none-some}
use Rattle.std.specs.Prelude.{slice_get}
use Rattle.std.proofs.lemmas.Slice.Eq.{bytes_eq-Decides}
use Rattle.std.proofs.lemmas.List.{length-append}
use Rattle.text_model.specs.Text.{Bytes}
use Rattle.text_model.specs.Id.{Id, node_id}
use Rattle.text_model.proofs.Elements.{map_take_push}
use Rattle.text_model.proofs.TestLemmas.{bytes_eq-is}
use Rattle.hg_model.specs.Manifest.{ManifestEntry, entry_text, manifest_text, IsManifest}
use Rattle.hg_model.specs.FileText.{manifest_order}
use Rattle.hg_model.specs.Revision.{Revision, Manifests}
use Rattle.hg_model.proofs.ParentOrder.{manifest_order-node}
use Rattle.hg_model.proofs.ManifestLemmas.{one_manifest, manifest_text-push, manifest_text-none, manifest_text-cons}
use Rattle.hg_store.specs.Known.{AreAdded, manifest_text_of}
use Rattle.view_model.specs.View.{Row, ManifestParents, NoManifest, Over, ChangesetView, rows_text, manifest_node, entry_of_row}
use Rattle.view_model.specs.Held.{IsManifestHeld}
use Rattle.pair_model.specs.Block.{Parents}
use Rattle.pair_model.specs.Rule.{ruled_manifest, over_pair, one_or_two}
use Rattle.pair_known.specs.Rows.{RowValue, row_value}
use Rattle.manifest_rule.specs.Listed.{entry_of_value}
use Rattle.manifest_rule.proofs.FilesLemmas.{values-are}
use Rattle.pair_known.proofs.HeldViews.{manifest_of-held, held-as}
use Rattle.file_rule.specs.Parents.{IsParent}
use Rattle.file_rule.specs.declared.parents.Parent.{Parent}

module _ (known : List Revision) (added : AreAdded known) where
  -- the text that is held is that of the rows
  pub text-held : (node : Id) (m : ManifestParents) (rows : List Row) → IsManifestHeld known node m rows → manifest_text_of known node ≡ Some (rows_text rows)
  text-held node m rows h =
      let of = manifest_of-held known added node m rows h in
      of.is_held ∙ ap Some (of.spells).1

  -- the node of a manifest that is held, from lines that are its own
  pub node-held : (node : Id) (m : ManifestParents) (rows hs : List Row) → IsManifestHeld known node m rows → rows_text hs ≡ rows_text rows → node ≡ manifest_node m hs
  unfolding manifest_node
  node-held node NoManifest rows hs h same = h.0
  node-held node (Over p q) rows hs h same =
      let as' = held-as known added Manifests node h.revision h.is_held in
      let text : (h.revision).text ≡ rows_text hs = (h.text).1 ∙ sym same in
      as'.hash ∙ sym (manifest_order-node (h.revision).p (h.revision).q (h.revision).text) ∙ (λ i. node_id (sym h.parents i).0 (sym h.parents i).1 (text i))

pub ruled-first : (ps : Parents) (hs : List Row) → bytes_eq (rows_text hs) (rows_text (ps.first).rows) ≡ true → ruled_manifest ps hs ≡ (ps.first).manifest
unfolding ruled_manifest
ruled-first ps hs e = rw e refl

pub ruled-new : (known : List Revision) (first second : Parent) (ps : Parents) (hs : List Row) → IsParent known first ps.first → IsParent known second ps.second
    → bytes_eq (rows_text hs) (rows_text (ps.first).rows) ≡ false → (both : Id × Id) → both ≡ manifest_order (one_or_two first.manifest_node second.manifest_node).0 (one_or_two first.manifest_node second.manifest_node).1
    → Over both.0 both.1 ≡ ruled_manifest ps hs
unfolding ruled_manifest
ruled-new known first second ps hs in_first in_second e both is =
    rw e ((λ i. Over (is i).0 (is i).1) ∙ (λ i. over_pair (one_or_two (sym in_first.node i) (sym in_second.node i))))

-- a parent's manifest is held by the node that stands beside it
pub held-there : (known : List Revision) (parent : Parent) (v : ChangesetView) → IsParent known parent v → IsManifestHeld known parent.manifest_node v.manifest v.rows
held-there known parent v is = subst (λ (x : Id). IsManifestHeld known x v.manifest v.rows) is.node is.held

pub node-new : (p q : Id) (hs : List Row) → node_id p q (rows_text hs) ≡ manifest_node (Over p q) hs
unfolding manifest_node
node-new p q hs = refl

-- the lines of rows by their values
pub lines-are : (rows : List RowValue) (hs : List Row) → rows ≡ map row_value hs → manifest_text (map entry_of_value rows) ≡ rows_text hs
lines-are rows hs is = ap (λ (l : List RowValue). manifest_text (map entry_of_value l)) is ∙ ap manifest_text (values-are hs)

-- ---- how long lines are

abbrev pub lines : List RowValue → Bytes
lines rows = manifest_text (map entry_of_value rows)

-- the lines of one row more
pub lines-more : (rows : List RowValue) (i : ℕ) (row : RowValue) → slice_get rows i ≡ Some row → length (lines (take (i + 1) rows)) ≡ length (lines (take i rows)) + length (entry_text (entry_of_value row))
lines-more rows i row at =
    ap (λ (es : List ManifestEntry). length (manifest_text es)) (map_take_push entry_of_value rows i row at)
    ∙ ap length (manifest_text-push (map entry_of_value (take i rows)) (entry_of_value row))
    ∙ length-append (lines (take i rows)) (entry_text (entry_of_value row))

-- the first lines aren't longer than all
pub lines-within : (rows : List RowValue) (i : ℕ) → length (lines (take i rows)) ≤ length (lines rows)
lines-within [] i = omega (arith, ap (λ (xs : List RowValue). length (lines xs)) (take-none i))
  where
    take-none : (i : ℕ) → take {A = RowValue} i [] ≡ []
    take-none zero = refl
    take-none (suc i) = refl
lines-within (row ∷ rows) zero = omega (arith, ap length manifest_text-none)
lines-within (row ∷ rows) (suc i) =
    omega (
      arith,
      lines-within rows i,
      ap length (manifest_text-cons (entry_of_value row) (map entry_of_value (take i rows))),
      length-append (entry_text (entry_of_value row)) (lines (take i rows)),
      ap length (manifest_text-cons (entry_of_value row) (map entry_of_value rows)),
      length-append (entry_text (entry_of_value row)) (lines rows),
    )

-- ---- lines compared one by one

pub get-map : {X Y : Type 0} (f : X → Y) (xs : List X) (i : ℕ) (x : X) → slice_get xs i ≡ Some x → slice_get (map f xs) i ≡ Some (f x)
get-map f [] i x at = absurd (none-some _ at)
get-map f (y ∷ xs) zero x at = ap Some (ap f (same_Some _ _ at))
get-map f (y ∷ xs) (suc i) x at = get-map f xs i x at

pub take-more : (xs ys : List ManifestEntry) (i : ℕ) (x y : ManifestEntry) → slice_get xs i ≡ Some x → slice_get ys i ≡ Some y → x ≡ y → take i xs ≡ take i ys → take (i + 1) xs ≡ take (i + 1) ys
take-more [] ys i x y at to is before = absurd (none-some _ at)
take-more (a ∷ xs) [] i x y at to is before = absurd (none-some _ to)
take-more (a ∷ xs) (b ∷ ys) zero x y at to is before = ap (λ (z : ManifestEntry). z ∷ []) (same_Some _ _ at ∙ is ∙ sym (same_Some _ _ to))
take-more (a ∷ xs) (b ∷ ys) (suc i) x y at to is before =
    let plus : suc i + 1 ≡ suc (i + 1) = omega arith in
    let tail : take i xs ≡ take i ys = tails before in
    let head : a ≡ b = heads before in
    ap (λ (n : ℕ). take n (a ∷ xs)) plus ∙ (λ j. head j ∷ take-more xs ys i x y at to is tail j) ∙ ap (λ (n : ℕ). take n (b ∷ ys)) (sym plus)
  where
    heads : {a b : ManifestEntry} {us vs : List ManifestEntry} → a ∷ us ≡ b ∷ vs → a ≡ b
    heads e = cc

    tails : {a b : ManifestEntry} {us vs : List ManifestEntry} → a ∷ us ≡ b ∷ vs → us ≡ vs
    tails e = cc

entries-are : (rows : List RowValue) (hs : List Row) → rows ≡ map row_value hs → map entry_of_value rows ≡ map entry_of_row hs
entries-are rows hs is = ap (map entry_of_value) is ∙ values-are hs

pub same-lines : (rows : List RowValue) (hs gs : List Row) (es : List ManifestEntry) → rows ≡ map row_value hs → map entry_of_row gs ≡ es → map entry_of_value rows ≡ es
    → bytes_eq (rows_text hs) (rows_text gs) ≡ true
same-lines rows hs gs es is entries same =
    (bytes_eq-Decides (rows_text hs) (rows_text gs)).1 (ap manifest_text (sym (entries-are rows hs is) ∙ same ∙ sym entries))

pub other-lines : (rows : List RowValue) (hs gs : List Row) (es : List ManifestEntry) → rows ≡ map row_value hs → map entry_of_row gs ≡ es → IsManifest (map entry_of_row hs) → IsManifest es
    → (t : Bool) → (map entry_of_value rows ≡ es → t ≡ true) → t ≡ false → bytes_eq (rows_text hs) (rows_text gs) ≡ false
other-lines rows hs gs es is entries first second t back isnt = by (bytes_eq (rows_text hs) (rows_text gs)) refl
  where
    by : (b : Bool) → bytes_eq (rows_text hs) (rows_text gs) ≡ b → bytes_eq (rows_text hs) (rows_text gs) ≡ false
    by false e = e
    by true e =
        let text : rows_text hs ≡ manifest_text es = bytes_eq-is (rows_text hs) (rows_text gs) e ∙ ap manifest_text entries in
        let one : map entry_of_row hs ≡ es = one_manifest (manifest_text es) (map entry_of_row hs) es (first, sym text) (second, refl) in
        absurd (true≢false (sym (back (entries-are rows hs is ∙ one)) ∙ isnt))
