-- What a store lends as a view is a changeset with all that it stands for.
use Rattle.std.proofs.Common.{◌≡◌, ℕ, suc, ◌+◌, ltb, length, Bool, true, false, true≢false, not, if◌then◌else◌, List, [], ◌∷◌, map, Option, Some, None, refl, sym, ap, subst, ◌∙◌, arith, inl, inr}
use Rattle.std.proofs.lemmas.Bool.{cases_lt}
use Rattle.std.specs.Prelude.{position, is_some}
use Rattle.std.specs.List.{prefix_len}
use Rattle.std.proofs.lemmas.Slice.Eq.{bytes_eq-Decides}
use Rattle.text_model.specs.Lists.{Each}
use Rattle.text_model.specs.Text.{Bytes}
use Rattle.text_model.specs.Id.{Id, null, is_null, node_id}
use Rattle.text_model.proofs.Options.{none_some, not_false, some_is, some_none}
use Rattle.hg_model.proofs.ParentOrder.{file_order-node}
use Rattle.hg_model.specs.Changeset.{Changeset}
use Rattle.hg_model.specs.Manifest.{ManifestEntry, IsManifestText}
use Rattle.hg_model.specs.FileText.{file_order, manifest_order}
use Rattle.hg_model.specs.Revision.{Revision, Manifests, FilesAt, revision_of, knows}
use Rattle.hg_model.proofs.ManifestLemmas.{one_manifest, manifest_text-none}
use Rattle.hg_changeset.specs.Values.{changeset_value}
use Rattle.hg_store.specs.Known.{AreAdded}
use Rattle.hg_store.specs.declared.view.View.{View}
use Rattle.hg_store.specs.Views.{IsView, IsManifestOf, is_unknown, first_unknown}
use Rattle.hg_store.proofs.KnownLemmas.{file-splits}
use Rattle.view_model.specs.View.{Row, FileRevision, file_node, entry_of_row, ManifestParents, NoManifest, Over, ChangesetView}
use Rattle.view_model.specs.Held.{IsFileHeld, IsManifestHeld, IsChangesetHeld}
use Rattle.hg_view.proofs.FilePairs.{some_parts}
use Rattle.hg_store.proofs.Found.{found, node_is}

-- where no element passes, the first doesn't, and none of the others
if_none : (c : Bool) (n m : ℕ) → (if c then Some n else None) ≡ None → (if c then Some m else None) ≡ None
if_none true n m h = absurd cc
if_none false n m h = refl

one_less : (a b : ℕ) → ltb (1 + a) (suc b) ≡ ltb a b
one_less a b = elim (cases_lt a b) [
  | inl lt ↦ let here : ltb a b ≡ true = grind (arith, lt) in let there : ltb (1 + a) (suc b) ≡ true = grind (arith, lt) in there ∙ sym here
  | inr ge ↦ let here : ltb a b ≡ false = grind (arith, ge) in let there : ltb (1 + a) (suc b) ≡ false = grind (arith, ge) in there ∙ sym here
]

above : (n : ℕ) → ltb 0 (suc n) ≡ true
above n = grind arith

none_first : {X : Type 0} (test : X → Bool) (x : X) (xs : List X) → position test (x ∷ xs) ≡ None → (test x ≡ false) × (position test xs ≡ None)
none_first test x xs h = by (test x) refl
  where
    before : ℕ
    before = prefix_len (λ y. not (test y)) xs

    by : (t : Bool) → test x ≡ t → (test x ≡ false) × (position test xs ≡ None)
    by true t =
        let g : (if ltb 0 (suc (length xs)) then Some 0 else None) ≡ None = sym (rw t refl) ∙ h in
        absurd (some_none {x = 0} (ap (λ (c : Bool). if c then Some 0 else None) (sym (above (length xs))) ∙ g))
    by false t =
        let g : (if ltb (1 + before) (suc (length xs)) then Some (1 + before) else None) ≡ None = sym (rw t refl) ∙ h in
        (t, if_none (ltb before (length xs)) (1 + before) before (ap (λ (c : Bool). if c then Some (1 + before) else None) (sym (one_less before (length xs))) ∙ g))

-- ---- the row of an entry

record HasRow (known : List Revision) (e : ManifestEntry) : Type 0 where
  pub row : Row
  pub is : entry_of_row row ≡ e
  pub held : IsFileHeld known row

module _ (known : List Revision) (added : AreAdded known) where
  row_of : (e : ManifestEntry) (r : Revision) → revision_of known (FilesAt e.path) e.node ≡ Some r → HasRow known e
  row_of e r at =
      let of = found known (FilesAt e.path) e.node r added at in
      let parts = some_parts r.text (of.added).bytes (file-splits known e.path e.node r added at) in
      let order = file_order parts.meta r.p r.q in
      let revision : FileRevision = record { p = order.0; q = order.1; meta = parts.meta; body = parts.body } in
      let node : file_node revision ≡ e.node =
      ap (node_id order.0 order.1) (sym parts.spells.1) ∙ file_order-node parts.meta r.p r.q r.text ∙ sym (node_is of.before r of.added) ∙ of.node_is in
      record {
        row = record { path = e.path; flag = e.flag; revision = revision };
        is = (λ i. record { path = e.path; node = node i; flag = e.flag });
        held = record {
          revision = r;
          is_held = ap (revision_of known (FilesAt e.path)) node ∙ at;
          parents = refl;
          text = parts.spells;
        };
      }

  row_by : (e : ManifestEntry) (o : Option Revision) → revision_of known (FilesAt e.path) e.node ≡ o → is_some o ≡ true → HasRow known e
  row_by e None at some = absurd (true≢false (sym some))
  row_by e (Some r) at some = row_of e r at

  record HaveRows (entries : List ManifestEntry) : Type 0 where
    pub rows : List Row
    pub are : map entry_of_row rows ≡ entries
    pub held : Each (IsFileHeld known) rows

  knows_all : (e : ManifestEntry) (es : List ManifestEntry) → first_unknown known (e ∷ es) ≡ None → (knows known (FilesAt e.path) e.node ≡ true) × (first_unknown known es ≡ None)
  knows_all e es h = let parts = none_first (is_unknown known) e es h in (not_false (knows known (FilesAt e.path) e.node) parts.0, parts.1)

  rows_of : (entries : List ManifestEntry) → first_unknown known entries ≡ None → HaveRows entries
  rows_of [] h = record { rows = []; are = refl; held = tt }
  rows_of (e ∷ es) h =
      let both = knows_all e es h in
      let one = row_by e (revision_of known (FilesAt e.path) e.node) refl both.0 in
      let more = rows_of es both.1 in
      record { rows = one.row ∷ more.rows; are = (λ i. one.is i ∷ more.are i); held = (one.held, more.held) }

  -- ---- its manifest

  record HasManifest (node : Id) (rows : List Row) : Type 0 where
    pub parents : ManifestParents
    pub held : IsManifestHeld known node parents rows

  manifest_by : (node : Id) (entries : List ManifestEntry) (rows : List Row) → map entry_of_row rows ≡ entries → IsManifestOf known node entries → HasManifest node rows
  manifest_by node entries rows are of = by (is_null node) refl
    where
      no_rows : (rs : List Row) → map entry_of_row rs ≡ [] → rs ≡ []
      no_rows [] e = refl
      no_rows (r ∷ rs) e = absurd cc

      empty : of.text ≡ [] → entries ≡ []
      empty e = one_manifest [] entries [] (subst (λ (t : Bytes). IsManifestText t entries) e of.spells) ((tt, refl), sym manifest_text-none)

      some : (o : Option Revision) → revision_of known Manifests node ≡ o → is_null node ≡ false → HasManifest node rows
      some None at n = absurd (none_some (sym (rw (n, at) refl) ∙ of.is_held))
      some (Some r) at n =
          let text : r.text ≡ of.text = some_is (sym (rw (n, at) refl) ∙ of.is_held) in
          let order = manifest_order r.p r.q in
          record {
            parents = Over order.0 order.1;
            held = record {
              revision = r;
              is_held = at;
              parents = refl;
              text = subst (λ (es : List ManifestEntry). IsManifestText r.text es) (sym are) (subst (λ (t : Bytes). IsManifestText t entries) (sym text) of.spells);
            };
          }

      by : (t : Bool) → is_null node ≡ t → HasManifest node rows
      by true n =
          let text : of.text ≡ [] = some_is (sym of.is_held ∙ rw n refl) in
          record { parents = NoManifest; held = ((bytes_eq-Decides node null).0 n, no_rows rows (are ∙ empty text)) }
      by false n = some (revision_of known Manifests node) refl n

  -- ---- the whole

  pub view-is_held : (node : Id) (v : View) → IsView known node v → (h : ChangesetView) × IsChangesetHeld known node h
  view-is_held node v is =
      let fields : Changeset = changeset_value (v.changeset).now in
      let rows = rows_of (v.manifest).now is.files in
      let manifest = manifest_by v.manifest_node (v.manifest).now rows.rows rows.are is.manifest in
      let h : ChangesetView = record { p = v.p1; q = v.p2; fields = fields; manifest = manifest.parents; rows = rows.rows } in (
        h,
        record {
          revision = (is.changeset).revision;
          is_held = (is.changeset).is_held;
          parents = ((is.changeset).first, (is.changeset).second);
          fields = (is.changeset).fields;
          manifest = subst (λ (n : Id). IsManifestHeld known n manifest.parents rows.rows) is.manifest_node manifest.held;
          files = rows.held;
        },
      )
