-- Changesets that a store holds.
use Rattle.std.proofs.Common.{◌≡◌, ◌≤◌, ◌<◌, ◌++◌, ℕ, zero, suc, get_or, arith, true, false, true≢false, not, List, [], ◌∷◌, length, map, take, drop, ◌+◌, append-nil, Option, Some, None, refl, sym, ap, subst, inl, inr, ◌∙◌}
use Rattle.std.specs.Prelude.{slice_get, is_some, option_map, position, ◌==◌, nat_le}
use Rattle.std.proofs.lemmas.Bool.Decides.{nat_tests}
use Rattle.text_model.specs.Lists.{Each}
use Rattle.text_model.specs.Text.{Bytes}
use Rattle.text_model.specs.Id.{Id, null, is_null, node_id}
use Rattle.text_model.specs.Path.{is_fit_path}
use Rattle.text_model.proofs.TestLemmas.{both, bytes_eq-self}
use Rattle.text_model.proofs.Options.{none_some, some_is}
use Rattle.text_model.proofs.Elements.{flat_map_append, map_append, take_push}
use Rattle.hg_model.specs.Changeset.{Changeset, IsChangesetText}
use Rattle.hg_model.specs.Manifest.{ManifestEntry, IsManifestText, manifest_text}
use Rattle.hg_model.specs.Revision.{Group, Changesets, Manifests, FilesAt, Revision, revision_of}
use Rattle.hg_model.proofs.ChangesetLemmas.{one_changeset}
use Rattle.hg_model.proofs.ManifestLemmas.{one_manifest}
use Rattle.hg_store.specs.Known.{AreAdded, HasFitPath, text_limit, text_of, manifest_text_of}
use Rattle.hg_store.specs.Views.{IsChangesetOf, IsManifestOf, IsViewFault, HasNoManifest, is_unknown, first_unknown}
use Rattle.hg_store.specs.declared.fault.ViewFault.{ViewFault}
use Rattle.hg_store.specs.declared.fault.ViewFault.TheVariants.{ChangesetUnknown, ManifestUnknown, FileUnknown}
use Rattle.hg_store.proofs.Found.{Found, found, not_null}
use Rattle.hg_store.proofs.Found as store
use Rattle.hg_store.proofs.ViewLemmas.{position-none}
use Rattle.view_model.specs.View.{ChangesetView, Row, ManifestParents, NoManifest, Over, changeset_node, entry_of_row}
use Rattle.view_model.specs.Held.{IsFileHeld, IsManifestHeld, IsChangesetHeld, AreChangesetsHeld}
use Rattle.view_model.specs.Dump.{own_revision, manifest_revision, file_revision, revisions_of, revisions_in}
use Rattle.hg_dump.specs.Marks.{Mark, mark_of, own_mark, manifest_marks, file_mark, view_marks, marks_of, marks_in}
use Rattle.hg_dump.specs.Written.{IsHeldIn}
use Rattle.hg_dump.proofs.OnceLemmas.{Each-append}

-- ---- views of what is held

module _ (known : List Revision) (added : AreAdded known) (node : Id) (h : ChangesetView) (held : IsChangesetHeld known node h) where
  own-found : Found Changesets node held.revision
  own-found = found known Changesets node held.revision added held.is_held

  pub node-is : changeset_node h ≡ node
  unfolding changeset_node
  node-is = (λ i. node_id (held.parents.0 i) (held.parents.1 i) (sym held.fields.1 i)) ∙ sym (store.node_is own-found.before held.revision own-found.added) ∙ own-found.node_is

  pub held-changeset : IsChangesetOf known node h.p h.q h.fields
  held-changeset = record { revision = held.revision; is_held = held.is_held; first = held.parents.0; second = held.parents.1; fields = held.fields }

  -- the manifest that a view names
  manifest-of : (node : Id) (m : ManifestParents) (rows : List Row) → IsManifestHeld known node m rows → IsManifestOf known node (map entry_of_row rows)
  unfolding manifest_text
  manifest-of node NoManifest rows is =
      record { text = []; is_held = rw (ap is_null is.0 ∙ bytes_eq-self null) refl; spells = subst (λ (rs : List Row). IsManifestText [] (map entry_of_row rs)) {x = []} {y = rows} (sym is.1) ((tt, refl), refl) }
  manifest-of node (Over p q) rows is =
      let f = found known Manifests node is.revision added is.is_held in
      record { text = (is.revision).text; is_held = rw (ap is_null (sym f.node_is) ∙ not_null f.before is.revision f.added) (ap (option_map (λ r. r.text)) is.is_held); spells = is.text }

  pub held-manifest : IsManifestOf known (h.fields).manifest (map entry_of_row h.rows)
  held-manifest = manifest-of (h.fields).manifest h.manifest h.rows held.manifest

  same_fields : (p q : Id) (x : Changeset) → IsChangesetOf known node p q x → x ≡ h.fields
  same_fields p q x c = one_changeset (c.revision).text x h.fields c.fields (subst (λ (r : Revision). IsChangesetText r.text h.fields) (some_is (sym held.is_held ∙ c.is_held)) held.fields)

  same_entries : (n : Id) (es : List ManifestEntry) → n ≡ (h.fields).manifest → IsManifestOf known n es → es ≡ map entry_of_row h.rows
  same_entries n es same m =
      one_manifest m.text es (map entry_of_row h.rows) m.spells
      (subst (λ (t : Bytes). IsManifestText t (map entry_of_row h.rows)) (some_is (sym held-manifest.is_held ∙ ap (manifest_text_of known) (sym same) ∙ m.is_held)) held-manifest.spells)

  -- ---- the marks

  manifest-marks : (m : ManifestParents) → IsManifestHeld known (h.fields).manifest m h.rows → map mark_of (manifest_revision h m) ≡ manifest_marks (changeset_node h) (h.fields).manifest
  manifest-marks NoManifest is = rw (ap is_null is.0 ∙ bytes_eq-self null) refl
  manifest-marks (Over p q) is =
      let f = found known Manifests (h.fields).manifest is.revision added is.is_held in
      rw (ap is_null (sym f.node_is) ∙ not_null f.before is.revision f.added) refl

  file-marks : (link : Id) (rows : List Row) → map mark_of (map (file_revision link) rows) ≡ map (file_mark link) (map entry_of_row rows)
  file-marks link [] = refl
  file-marks link (row ∷ rows) = ap (λ (l : List Mark). file_mark link (entry_of_row row) ∷ l) (file-marks link rows)

  pub held-marks : (p q : Id) (x : Changeset) (es : List ManifestEntry) → IsChangesetOf known node p q x → IsManifestOf known x.manifest es → marks_of h ≡ view_marks node x.manifest es
  unfolding revisions_of
  held-marks p q x es changeset of =
      let manifest : x.manifest ≡ (h.fields).manifest = ap (λ (y : Changeset). y.manifest) (same_fields p q x changeset) in
      let entries = same_entries x.manifest es manifest of in
      ap (λ (l : List Mark). own_mark (changeset_node h) ∷ l)
      (map_append mark_of (manifest_revision h h.manifest) (map (file_revision (changeset_node h)) h.rows)
      ∙ (λ i. manifest-marks h.manifest held.manifest i ++ file-marks (changeset_node h) h.rows i))
      ∙ (λ i. view_marks (node-is i) (sym manifest i) (sym entries i))

  -- the lines of its manifest
  pub held-entries : (p q : Id) (x : Changeset) (es : List ManifestEntry) → IsChangesetOf known node p q x → IsManifestOf known x.manifest es → map entry_of_row h.rows ≡ es
  held-entries p q x es changeset of = sym (same_entries x.manifest es (ap (λ (y : Changeset). y.manifest) (same_fields p q x changeset)) of)

  -- ---- no fault

  known-at : (rows : List Row) → Each (IsFileHeld known) rows → (k : ℕ) (d : ManifestEntry) → k < length (map entry_of_row rows) → is_unknown known (get_or (map entry_of_row rows) k d) ≡ false
  known-at [] is k d below = absurd (omega (arith, below))
  known-at (row ∷ rows) is zero d below = ap (λ o. not (is_some o)) is.0.is_held
  known-at (row ∷ rows) is (suc k) d below = known-at rows is.1 k d (omega (arith, below))

  each-known : (rows : List Row) → Each (IsFileHeld known) rows → position (is_unknown known) (map entry_of_row rows) ≡ None
  each-known rows is = position-none (is_unknown known) (map entry_of_row rows) (known-at rows is)

  pub held-has_manifest : (p q : Id) (x : Changeset) → IsChangesetOf known node p q x → manifest_text_of known x.manifest ≡ None → ⊥
  held-has_manifest p q x changeset unknown =
      none_some (sym unknown ∙ ap (λ (y : Changeset). manifest_text_of known y.manifest) (same_fields p q x changeset) ∙ held-manifest.is_held)

  pub held-has_view : (e : ViewFault) → IsViewFault known node e → ⊥
  held-has_view ChangesetUnknown f = true≢false (sym (ap is_some held.is_held) ∙ f)
  held-has_view ManifestUnknown f = held-has_manifest f.p f.q f.fields f.changeset f.unknown
  held-has_view (FileUnknown line) f =
      let fields = same_fields f.p f.q f.fields f.changeset in
      let entries = same_entries (f.fields).manifest f.entries (ap (λ (x : Changeset). x.manifest) fields) f.manifest in
      none_some (sym (each-known h.rows held.files) ∙ ap (first_unknown known) (sym entries) ∙ f.first)

  pub held-names_manifest : HasNoManifest known node → ⊥
  held-names_manifest (inl unknown) = held-has_view ChangesetUnknown unknown
  held-names_manifest (inr lacks) = held-has_view ManifestUnknown lacks

-- ---- some views one by one

-- the view of the node at a place
pub record HeldAt (known : List Revision) (node : Id) (hs : List ChangesetView) (i : ℕ) : Type 0 where
  pub view : ChangesetView
  pub held : IsChangesetHeld known node view
  pub at_place : slice_get hs i ≡ Some view

pub held-at : (known : List Revision) (nodes : List Id) (hs : List ChangesetView) → AreChangesetsHeld known nodes hs → (i : ℕ) (node d : Id) → i < length nodes → node ≡ get_or nodes i d → HeldAt known node hs i
held-at known [] [] are i node d below is = absurd (omega (arith, below))
held-at known [] (h ∷ hs) are i node d below is = absurd are
held-at known (n ∷ nodes) [] are i node d below is = absurd are
held-at known (n ∷ nodes) (h ∷ hs) are zero node d below is = record { view = h; held = subst (λ (x : Id). IsChangesetHeld known x h) (sym is) are.0; at_place = refl }
held-at known (n ∷ nodes) (h ∷ hs) are (suc i) node d below is =
    let at = held-at known nodes hs are.1 i node d (omega (arith, below)) is in
    record { view = at.view; held = at.held; at_place = at.at_place }

pub held-length : (known : List Revision) (nodes : List Id) (hs : List ChangesetView) → AreChangesetsHeld known nodes hs → length hs ≡ length nodes
held-length known [] [] are = refl
held-length known [] (h ∷ hs) are = absurd are
held-length known (n ∷ nodes) [] are = absurd are
held-length known (n ∷ nodes) (h ∷ hs) are = ap suc (held-length known nodes hs are.1)

pub held-take : (known : List Revision) (nodes : List Id) (hs : List ChangesetView) (n : ℕ) → AreChangesetsHeld known nodes hs → AreChangesetsHeld known (take n nodes) (take n hs)
held-take known nodes hs zero are = tt
held-take known [] [] (suc n) are = tt
held-take known [] (h ∷ hs) (suc n) are = absurd are
held-take known (node ∷ nodes) [] (suc n) are = absurd are
held-take known (node ∷ nodes) (h ∷ hs) (suc n) are = (are.0, held-take known nodes hs n are.1)

pub held-drop : (known : List Revision) (nodes : List Id) (hs : List ChangesetView) (n : ℕ) → AreChangesetsHeld known nodes hs → AreChangesetsHeld known (drop n nodes) (drop n hs)
held-drop known nodes hs zero are = are
held-drop known [] [] (suc n) are = tt
held-drop known [] (h ∷ hs) (suc n) are = absurd are
held-drop known (node ∷ nodes) [] (suc n) are = absurd are
held-drop known (node ∷ nodes) (h ∷ hs) (suc n) are = held-drop known nodes hs n are.1

pub marks-push : (hs : List ChangesetView) (i : ℕ) (h : ChangesetView) → slice_get hs i ≡ Some h → marks_in (take (i + 1) hs) ≡ marks_in (take i hs) ++ marks_of h
marks-push hs i h at = ap marks_in (take_push hs i h at) ∙ flat_map_append marks_of (take i hs) (h ∷ []) ∙ ap (λ (l : List Mark). marks_in (take i hs) ++ l) (append-nil (marks_of h))

-- ---- texts

pub text-short : (known : List Revision) (group : Group) (node : Id) (text : Bytes) → AreAdded known → text_of known group node ≡ Some text → length text ≤ text_limit
text-short known group node text added is = by (revision_of known group node) refl is
  where
    by : (o : Option Revision) → revision_of known group node ≡ o → option_map (λ (r : Revision). r.text) o ≡ Some text → length text ≤ text_limit
    by None at e = absurd (none_some e)
    by (Some r) at e = subst (λ (t : Bytes). length t ≤ text_limit) (some_is e) ((found known group node r added at).added).short

pub held-text : (known : List Revision) (group : Group) (r : Revision) → IsHeldIn known group r → text_of known group r.node ≡ Some r.text
held-text known group r is = ap (option_map (λ (s : Revision). s.text)) is.is_held ∙ ap Some (sym is.text)

fit-size : (path : Bytes) → is_fit_path path ≡ true → (1 ≤ length path) × (length path ≤ 4096)
unfolding is_fit_path
fit-size path h =
    let parts = both _ _ (both _ _ (both _ _ (both _ _ (both _ _ (both _ _ h).0).0).0).0).0 in
    (some (length path) parts.0, few (length path) parts.1)
  where
    some : (n : ℕ) → not (n == 0) ≡ true → 1 ≤ n
    some zero e = absurd (true≢false (sym e))
    some (suc n) e = omega arith

    few : (n : ℕ) → nat_le n 4096 ≡ true → n ≤ 4096
    few n e = grind (arith, e, nat_tests)

-- the path of a file that is known
pub held-path : (known : List Revision) (path : Bytes) (r : Revision) → AreAdded known → IsHeldIn known (FilesAt path) r → (1 ≤ length path) × (length path ≤ 4096)
held-path known path r added is =
    let f = found known (FilesAt path) r.node is.revision added is.is_held in
    fit-size path (subst HasFitPath f.group_is (f.added).path)

-- ---- the revisions of a view are known

module _ (known : List Revision) (added : AreAdded known) (node : Id) (h : ChangesetView) (held : IsChangesetHeld known node h) where
  own-held : IsHeldIn known Changesets (own_revision h)
  own-held = record {
    group_is = refl;
    revision = held.revision;
    is_held = ap (revision_of known Changesets) (node-is known added node h held) ∙ held.is_held;
    text = sym held.fields.1;
    parents = (λ i. (held.parents.0 i, held.parents.1 i));
  }

  manifest-held : (m : ManifestParents) → IsManifestHeld known (h.fields).manifest m h.rows → Each (λ r. IsHeldIn known r.group r) (manifest_revision h m)
  unfolding manifest_text
  manifest-held NoManifest is = tt
  manifest-held (Over p q) is = (record { group_is = refl; revision = is.revision; is_held = is.is_held; text = sym is.text.1; parents = is.parents }, tt)

  rows-held : (link : Id) (rows : List Row) → Each (IsFileHeld known) rows → Each (λ r. IsHeldIn known r.group r) (map (file_revision link) rows)
  rows-held link [] are = tt
  rows-held link (row ∷ rows) are = (
    record {
      group_is = refl;
      revision = are.0.revision;
      is_held = are.0.is_held;
      text = sym are.0.text.1;
      parents = record { revision = are.0.revision; is_held = are.0.is_held; meta = (row.revision).meta; body = (row.revision).body; spells = are.0.text; in_order = are.0.parents };
    },
    rows-held link rows are.1,
  )

  view-held : Each (λ r. IsHeldIn known r.group r) (revisions_of h)
  unfolding revisions_of
  view-held = (own-held, Each-append (λ r. IsHeldIn known r.group r) (manifest_revision h h.manifest) (map (file_revision (changeset_node h)) h.rows) (manifest-held h.manifest held.manifest) (rows-held (changeset_node h) h.rows held.files))

pub held-revisions : (known : List Revision) → AreAdded known → (nodes : List Id) (hs : List ChangesetView) → AreChangesetsHeld known nodes hs → Each (λ r. IsHeldIn known r.group r) (revisions_in hs)
held-revisions known added [] [] are = tt
held-revisions known added [] (h ∷ hs) are = absurd are
held-revisions known added (n ∷ nodes) [] are = absurd are
held-revisions known added (n ∷ nodes) (h ∷ hs) are =
    Each-append (λ r. IsHeldIn known r.group r) (revisions_of h) (revisions_in hs) (view-held known added n h are.0) (held-revisions known added nodes hs are.1)

-- ---- one more view

pub held-push : (known : List Revision) (nodes : List Id) (hs : List ChangesetView) (node : Id) (h : ChangesetView) → AreChangesetsHeld known nodes hs → IsChangesetHeld known node h
    → AreChangesetsHeld known (nodes ++ node ∷ []) (hs ++ h ∷ [])
held-push known [] [] node h are is = (is, tt)
held-push known [] (x ∷ xs) node h are is = absurd are
held-push known (n ∷ nodes) [] node h are is = absurd are
held-push known (n ∷ nodes) (x ∷ xs) node h are is = (are.0, held-push known nodes xs node h are.1 is)
