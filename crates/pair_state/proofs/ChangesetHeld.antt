-- Changesets that a store holds with more revisions too, and one whose revisions have come.
use Rattle.std.proofs.Common.{◌≡◌, ◌⊎◌, Bool, true, false, not, ◌&&◌, ◌||◌, List, [], ◌∷◌, ◌++◌, map, Option, Some, None, refl, sym, ap, subst, ◌∙◌, inl, inr}
use Rattle.std.specs.Prelude.{bytes_eq, is_some, IsTrue, if◌then◌else◌}
use Rattle.std.specs.List.{find, list_any}
use Rattle.std.proofs.lemmas.Slice.Eq.{bytes_eq-Decides}
use Rattle.text_model.specs.Lists.{In, Each}
use Rattle.text_model.specs.Text.{IsBytes}
use Rattle.text_model.specs.Path.{is_fit_path}
use Rattle.text_model.specs.Id.{Id, null, is_null}
use Rattle.text_model.proofs.EachLemmas.{Each-front, Each-rest}
use Rattle.text_model.proofs.TestLemmas.{both, bytes_eq-self as self}
use Rattle.text_model.proofs.Elements.{none_in}
use Rattle.text_model.proofs.Options.{not_false, or_parts}
use Rattle.hg_model.specs.Changeset.{changeset_text}
use Rattle.hg_model.specs.FileText.{file_text, file_order, manifest_order}
use Rattle.hg_model.specs.Revision.{Revision, Group, Changesets, Manifests, FilesAt, is_of, revision_of, known_after, is_otherwise, same_parents, known_after_all}
use Rattle.hg_model.proofs.RevisionLemmas.{is_of-self}
use Rattle.hg_model.proofs.ParentOrder.{manifest_order-turned, file_order-turned}
use Rattle.pair_known.specs.Ruled.{IsLooseView}
use Rattle.view_model.specs.View.{Row, ChangesetView, IsRevision, AreManifestParents, ManifestParents, NoManifest, Over, changeset_node, manifest_node, rows_text}
use Rattle.view_model.specs.Held.{IsFileHeld, IsManifestHeld, IsChangesetHeld, AreChangesetsHeld}
use Rattle.view_model.specs.Dump.{own_revision, manifest_revision, file_revision, revisions_of}
use Rattle.hg_view.proofs.Grown.{view-more}
use Rattle.pair_state.specs.Came.{is_bad, AreClean, IsWithinHg}
use Rattle.pair_state.proofs.CameLemmas.{within-all}
use Rattle.pair_state.proofs.ManifestLemmas.{rows-manifest}

-- ---- what is held stays held

module _ (old new : List Revision) (within : IsWithinHg old new) where
  pub changesets-on : (nodes : List Id) (vs : List ChangesetView) → AreChangesetsHeld old nodes vs → AreChangesetsHeld new nodes vs
  changesets-on [] [] h = tt
  changesets-on [] (v ∷ vs) h = absurd h
  changesets-on (n ∷ nodes) [] h = absurd h
  changesets-on (n ∷ nodes) (v ∷ vs) h = (view-more old new within n v h.0, changesets-on nodes vs h.1)

-- ---- a revision that came is there

abbrev alike : Revision → Revision → Bool
alike r x = bytes_eq r.text x.text && same_parents r.group r.p r.q x.p x.q

pub record CameAs (known : List Revision) (r : Revision) : Type 0 where
  pub found : Revision
  pub at : revision_of known r.group r.node ≡ Some found
  pub like : alike r found ≡ true

pub same-parents : (g : Group) (p q : Id) → same_parents g p q p q ≡ true
same-parents Changesets p q = rw (self p, self q) refl
same-parents Manifests p q = rw (self p, self q) refl
same-parents (FilesAt path) p q = rw (self p, self q) refl

pub found-of : (test : Revision → Bool) (xs : List Revision) (x : Revision) → find test xs ≡ Some x → In x xs × (test x ≡ true)
found-of test [] x e = cc
found-of test (y ∷ xs) x e = by (test y) refl e (found-of test xs x)
  where
    by : (t : Bool) → test y ≡ t → (if t then Some y else find test xs) ≡ Some x → (find test xs ≡ Some x → In x xs × (test x ≡ true)) → In x (y ∷ xs) × (test x ≡ true)
    by true t is later = let q : y ≡ x = cc in (inl (sym q), sym (ap test q) ∙ t)
    by false t is later = let l = later is in (inr l.0, l.1)

find-last : (known : List Revision) (r : Revision) → revision_of known r.group r.node ≡ None → revision_of (known ++ r ∷ []) r.group r.node ≡ Some r
find-last [] r h = ap (λ (t : Bool). if t then Some r else None) (is_of-self r)
find-last (x ∷ known) r h = by (is_of r.group r.node x) h (find-last known r)
  where
    by : (t : Bool) → (if t then Some x else revision_of known r.group r.node) ≡ None → (revision_of known r.group r.node ≡ None → revision_of (known ++ r ∷ []) r.group r.node ≡ Some r) → (if t then Some x else revision_of (known ++ r ∷ []) r.group r.node) ≡ Some r
    by true is later = cc
    by false is later = later is

came-as : (known : List Revision) (r : Revision) → is_bad known r ≡ false → CameAs (known_after known r) r
came-as known r clean = by (revision_of known r.group r.node) refl
  where
    by : (o : Option Revision) → revision_of known r.group r.node ≡ o → CameAs (known_after known r) r
    by None e = subst (λ (l : List Revision). CameAs l r) (sym (ap (λ (o : Option Revision). if is_some o then known else known ++ r ∷ []) e))
        (record { found = r; at = find-last known r e; like = rw (self r.text, same-parents r.group r.p r.q) refl })
    by (Some x) e =
        let of = found-of (is_of r.group r.node) known x e in
        let none = none_in (is_otherwise r) known x (or_parts (is_null r.node) (list_any (is_otherwise r) known) clean).1 of.0 in
        subst (λ (l : List Revision). CameAs l r) (sym (ap (λ (o : Option Revision). if is_some o then known else known ++ r ∷ []) e))
        (record { found = x; at = e; like = not_false (alike r x) (sym (ap (λ (t : Bool). t && not (alike r x)) of.1) ∙ none) })

pub all-as : (known rs : List Revision) → AreClean known rs → Each (CameAs (known_after_all known rs)) rs
all-as known [] clean = tt
all-as known (r ∷ rs) clean =
    let c = came-as known r clean.0 in
    (record { found = c.found; at = within-all (known_after known r) rs r.group r.node c.found c.at; like = c.like }, all-as (known_after known r) rs clean.1)

-- ---- the order of two parents

null-is : (p : Id) → is_null p ≡ true → p ≡ null
null-is p h = (bytes_eq-Decides p null).0 h

-- ---- a changeset whose revisions came is held

pub either-way : (p q p' q' : Id) → ((bytes_eq p p' && bytes_eq q q') || (bytes_eq p q' && bytes_eq q p')) ≡ true → ((p ≡ p') × (q ≡ q')) ⊎ ((p ≡ q') × (q ≡ p'))
either-way p q p' q' h = by (bytes_eq p p' && bytes_eq q q') refl h
  where
    by : (t : Bool) → (bytes_eq p p' && bytes_eq q q') ≡ t → (t || (bytes_eq p q' && bytes_eq q p')) ≡ true → ((p ≡ p') × (q ≡ q')) ⊎ ((p ≡ q') × (q ≡ p'))
    by true e i = let b = both (bytes_eq p p') (bytes_eq q q') e in inl ((bytes_eq-Decides p p').0 b.0, (bytes_eq-Decides q q').0 b.1)
    by false e i = let b = both (bytes_eq p q') (bytes_eq q p') i in inr ((bytes_eq-Decides p q').0 b.0, (bytes_eq-Decides q p').0 b.1)

ordered : (order : Id → Id → Id × Id) → ((p q : Id) → order p q ≡ order q p) → (p q p' q' : Id) → order p q ≡ (p, q) → ((p ≡ p') × (q ≡ q')) ⊎ ((p ≡ q') × (q ≡ p')) → (p, q) ≡ order p' q'
ordered order turn p q p' q' is (inl s) = sym is ∙ (λ i. order (s.0 i) (s.1 i))
ordered order turn p q p' q' is (inr s) = sym is ∙ (λ i. order (s.0 i) (s.1 i)) ∙ turn q' p'

module _ (known : List Revision) (k : ChangesetView) (view : IsLooseView k) (all : Each (CameAs known) (revisions_of k)) where
  whole : Each (CameAs known) (own_revision k ∷ manifest_revision k k.manifest ++ map (file_revision (changeset_node k)) k.rows)
  unfolding revisions_of
  whole = all

  files-held : (rows : List Row) → Each (CameAs known) (map (file_revision (changeset_node k)) rows) → Each (λ (row : Row). IsTrue (is_fit_path row.path) × IsBytes row.path × IsRevision row.revision) rows → Each (IsFileHeld known) rows
  files-held [] a h = tt
  files-held (row ∷ rows) a h =
      let r = both (bytes_eq (file_text (row.revision).meta (row.revision).body) a.0.found.text) _ a.0.like in
      let text = (bytes_eq-Decides (file_text (row.revision).meta (row.revision).body) a.0.found.text).0 r.0 in (
        record {
          revision = a.0.found;
          is_held = a.0.at;
          parents = ordered (file_order (row.revision).meta) (file_order-turned (row.revision).meta) (row.revision).p (row.revision).q a.0.found.p a.0.found.q h.0.2.3 (either-way (row.revision).p (row.revision).q a.0.found.p a.0.found.q r.1);
          text = (h.0.2.2, sym text);
        },
        files-held rows a.1 h.1,
      )

  manifest-held : (m : ManifestParents) → k.manifest ≡ m → Each (CameAs known) (manifest_revision k m) → IsManifestHeld known (k.fields).manifest m k.rows
  unfolding manifest_node
  manifest-held NoManifest e a = (view.agrees ∙ ap (λ (m : ManifestParents). manifest_node m k.rows) e, subst (λ (m : ManifestParents). AreManifestParents m k.rows) e view.manifest)
  manifest-held (Over p q) e a =
      let r = both (bytes_eq (rows_text k.rows) a.0.found.text) _ a.0.like in
      let order = subst (λ (m : ManifestParents). AreManifestParents m k.rows) e view.manifest in
      record {
        revision = a.0.found;
        is_held = a.0.at;
        parents = ordered manifest_order manifest_order-turned p q a.0.found.p a.0.found.q order.2 (either-way p q a.0.found.p a.0.found.q r.1);
        text = (rows-manifest k view, sym ((bytes_eq-Decides (rows_text k.rows) a.0.found.text).0 r.0));
      }

  pub new-changeset : IsChangesetHeld known (changeset_node k) k
  new-changeset =
      let c = whole.0 in
      let r = both (bytes_eq (changeset_text k.fields) c.found.text) _ c.like in
      let pq = both (bytes_eq k.p c.found.p) (bytes_eq k.q c.found.q) r.1 in
      let rest = whole.1 in
      record {
        revision = c.found;
        is_held = c.at;
        parents = ((bytes_eq-Decides k.p c.found.p).0 pq.0, (bytes_eq-Decides k.q c.found.q).0 pq.1);
        fields = (view.fields, sym ((bytes_eq-Decides (changeset_text k.fields) c.found.text).0 r.0));
        manifest = manifest-held k.manifest refl (Each-front (CameAs known) (manifest_revision k k.manifest) (map (file_revision (changeset_node k)) k.rows) rest);
        files = files-held k.rows (Each-rest (CameAs known) (manifest_revision k k.manifest) (map (file_revision (changeset_node k)) k.rows) rest) view.rows;
      }
