-- Changesets whose revisions have come are known.
use Rattle.std.proofs.Common.{◌≡◌, ◌⊎◌, Bool, true, false, not, ◌&&◌, ◌||◌, List, [], ◌∷◌, ◌++◌, map, Option, Some, None, refl, sym, ap, subst, ◌∙◌, append_assoc, append-nil, inl, inr}
use Rattle.std.specs.Prelude.{bytes_eq, is_some, IsTrue, if◌then◌else◌}
use Rattle.std.specs.List.{find, list_any}
use Rattle.std.proofs.lemmas.Slice.Eq.{bytes_eq-Decides}
use Rattle.text_model.specs.Lists.{In, Each, rises}
use Rattle.text_model.specs.Text.{Bytes, IsBytes, is_below}
use Rattle.text_model.specs.Path.{is_fit_path}
use Rattle.text_model.specs.Id.{Id, IsId}
use Rattle.text_model.proofs.Digests.{IsId-node_id}
use Rattle.text_model.proofs.EachLemmas.{Each-front, Each-rest}
use Rattle.text_model.proofs.Elements.{none_in}
use Rattle.text_model.proofs.TestLemmas.{both}
use Rattle.text_model.proofs.Options.{not_false}
use Rattle.hg_model.specs.Manifest.{ManifestEntry, IsManifest}
use Rattle.hg_model.specs.FileText.{file_order, manifest_order}
use Rattle.hg_model.specs.Revision.{Revision, is_of, revision_of, knows, known_after, known_after_all, is_otherwise, same_parents}
use Rattle.hg_model.proofs.RevisionLemmas.{is_of-self}
use Rattle.hg_model.proofs.ParentOrder.{manifest_order-turned, file_order-turned}
use Rattle.view_model.specs.View.{Row, ChangesetView, IsChangesetView, IsRevision, AreManifestParents, ManifestParents, NoManifest, Over, changeset_node, manifest_node, entry_of_row, paths_of}
use Rattle.view_model.specs.Held.{IsFileHeld, IsManifestHeld, IsChangesetHeld}
use Rattle.view_model.specs.Dump.{own_revision, manifest_revision, file_revision, revisions_of}
use Rattle.hg_view.proofs.Grown.{more-all}

-- ---- a revision that came is known

-- the revision is known, up to its link and the order of a manifest's or a file's parents
pub record IsLike (known : List Revision) (r : Revision) : Type 0 where
  pub revision : Revision
  pub is_held : revision_of known r.group r.node ≡ Some revision
  pub text : revision.text ≡ r.text
  pub parents : same_parents r.group r.p r.q revision.p revision.q ≡ true

pub find-in : {X : Type 0} (test : X → Bool) (xs : List X) (x : X) → find test xs ≡ Some x → In x xs × (test x ≡ true)
find-in test [] x h = absurd cc
find-in test (z ∷ xs) x h = by (test z) refl h (find-in test xs x)
  where
    by : (t : Bool) → test z ≡ t → (if t then Some z else find test xs) ≡ Some x → (find test xs ≡ Some x → In x xs × (test x ≡ true)) → In x (z ∷ xs) × (test x ≡ true)
    by true t h later = let is : z ≡ x = cc in (inl (sym is), ap test (sym is) ∙ t)
    by false t h later = let l = later h in (inr l.0, l.1)

-- what is known behind others is one of these or of those before
all-in : (known rs : List Revision) (x : Revision) → In x (known_after_all known rs) → In x (known ++ rs)
all-in known [] x i = subst (λ (l : List Revision). In x l) (sym (append-nil known)) i
all-in known (r ∷ rs) x i = by (knows known r.group r.node) (all-in (known_after known r) rs x i)
  where
    skip : (ks : List Revision) → In x (ks ++ rs) → In x (ks ++ r ∷ rs)
    skip [] i = inr i
    skip (k ∷ ks) (inl e) = inl e
    skip (k ∷ ks) (inr i) = inr (skip ks i)

    by : (t : Bool) → In x ((if t then known else known ++ r ∷ []) ++ rs) → In x (known ++ r ∷ rs)
    by true i = skip known i
    by false i = subst (λ (l : List Revision). In x l) (append_assoc known (r ∷ []) rs) i

find-last : (known : List Revision) (r : Revision) → (x : Revision) × (revision_of (known ++ r ∷ []) r.group r.node ≡ Some x)
find-last [] r = (r, ap (λ (t : Bool). if t then Some r else None) (is_of-self r))
find-last (z ∷ known) r = by (is_of r.group r.node z) (find-last known r)
  where
    by : (t : Bool) → (x : Revision) × (revision_of (known ++ r ∷ []) r.group r.node ≡ Some x)
        → (x : Revision) × ((if t then Some z else revision_of (known ++ r ∷ []) r.group r.node) ≡ Some x)
    by true later = (z, refl)
    by false later = later

there-one : (known : List Revision) (r : Revision) → (x : Revision) × (revision_of (known_after known r) r.group r.node ≡ Some x)
there-one known r = by (revision_of known r.group r.node) refl
  where
    by : (o : Option Revision) → revision_of known r.group r.node ≡ o → (x : Revision) × (revision_of (if is_some o then known else known ++ r ∷ []) r.group r.node ≡ Some x)
    by None e = find-last known r
    by (Some x) e = (x, e)

there-all : (known rs : List Revision) (r : Revision) → In r rs → (x : Revision) × (revision_of (known_after_all known rs) r.group r.node ≡ Some x)
there-all known [] r i = absurd i
there-all known (z ∷ rs) r (inl e) =
    let one = there-one known z in
    subst (λ (y : Revision). (x : Revision) × (revision_of (known_after_all known (z ∷ rs)) y.group y.node ≡ Some x)) (sym e)
    (one.0, more-all (known_after known z) rs z.group z.node one.0 one.1)
there-all known (z ∷ rs) r (inr i) = there-all (known_after known z) rs r i

pub is-like : (known rs : List Revision) (r : Revision) → In r rs → list_any (is_otherwise r) (known ++ rs) ≡ false → IsLike (known_after_all known rs) r
is-like known rs r i none =
    let x = there-all known rs r i in
    let at = find-in (is_of r.group r.node) (known_after_all known rs) x.0 x.1 in
    let other : is_otherwise r x.0 ≡ false = none_in (is_otherwise r) (known ++ rs) x.0 none (all-in known rs x.0 at.0) in
    let alike = both (bytes_eq r.text (x.0).text) (same_parents r.group r.p r.q (x.0).p (x.0).q)
    (not_false _ (sym (ap (λ (t : Bool). t && not (bytes_eq r.text (x.0).text && same_parents r.group r.p r.q (x.0).p (x.0).q)) at.1) ∙ other)) in
    record { revision = x.0; is_held = x.1; text = sym ((bytes_eq-Decides r.text (x.0).text).0 alike.0); parents = alike.1 }

-- ---- the order of two parents

abbrev AreSamePair : Id → Id → Id → Id → Type 0
AreSamePair p q p' q' = ((p ≡ p') × (q ≡ q')) ⊎ ((p ≡ q') × (q ≡ p'))

same-pair : (p q p' q' : Id) → ((bytes_eq p p' && bytes_eq q q') || (bytes_eq p q' && bytes_eq q p')) ≡ true → AreSamePair p q p' q'
same-pair p q p' q' h = by (bytes_eq p p' && bytes_eq q q') refl h
  where
    by : (t : Bool) → (bytes_eq p p' && bytes_eq q q') ≡ t → (t || (bytes_eq p q' && bytes_eq q p')) ≡ true → AreSamePair p q p' q'
    by true e i = let b = both (bytes_eq p p') (bytes_eq q q') e in inl ((bytes_eq-Decides p p').0 b.0, (bytes_eq-Decides q q').0 b.1)
    by false e i = let b = both (bytes_eq p q') (bytes_eq q p') i in inr ((bytes_eq-Decides p q').0 b.0, (bytes_eq-Decides q p').0 b.1)

ordered : (order : Id → Id → Id × Id) → ((p q : Id) → order p q ≡ order q p) → (p q p' q' : Id) → order p q ≡ (p, q) → AreSamePair p q p' q' → (p, q) ≡ order p' q'
ordered order turn p q p' q' is (inl s) = sym is ∙ (λ i. order (s.0 i) (s.1 i))
ordered order turn p q p' q' is (inr s) = sym is ∙ (λ i. order (s.0 i) (s.1 i)) ∙ turn q' p'

-- ---- a changeset whose revisions have come is known

is-manifest : (h : ChangesetView) → IsChangesetView h → IsManifest (map entry_of_row h.rows)
is-manifest h view = (each h.rows view.rows, ap (rises is_below) (paths h.rows) ∙ view.in_order)
  where
    each : (rows : List Row) → Each (λ row. IsTrue (is_fit_path row.path) × IsBytes row.path × IsRevision row.revision) rows
        → Each (λ e. IsTrue (is_fit_path e.path) × IsBytes e.path × IsId e.node) (map entry_of_row rows)
    each [] fit = tt
    each (row ∷ rows) fit = ((fit.0.0, fit.0.1, IsId-node_id (row.revision).p (row.revision).q _), each rows fit.1)

    paths : (rows : List Row) → map (λ (e : ManifestEntry). e.path) (map entry_of_row rows) ≡ paths_of rows
    paths [] = refl
    paths (row ∷ rows) = ap (λ (l : List Bytes). row.path ∷ l) (paths rows)

module _ (known : List Revision) (h : ChangesetView) (view : IsChangesetView h) (all : Each (IsLike known) (revisions_of h)) where
  parts : Each (IsLike known) (own_revision h ∷ manifest_revision h h.manifest ++ map (file_revision (changeset_node h)) h.rows)
  unfolding revisions_of
  parts = all

  files-held : (rows : List Row) → Each (IsLike known) (map (file_revision (changeset_node h)) rows)
      → Each (λ (row : Row). IsTrue (is_fit_path row.path) × IsBytes row.path × IsRevision row.revision) rows → Each (IsFileHeld known) rows
  files-held [] like fit = tt
  files-held (row ∷ rows) like fit =
      let r = row.revision in
      let of = (like.0).revision in (
        record {
          revision = of;
          is_held = (like.0).is_held;
          parents = ordered (file_order r.meta) (file_order-turned r.meta) r.p r.q of.p of.q fit.0.2.3 (same-pair r.p r.q of.p of.q (like.0).parents);
          text = (fit.0.2.2, (like.0).text);
        },
        files-held rows like.1 fit.1,
      )

  manifest-held : (m : ManifestParents) → h.manifest ≡ m → Each (IsLike known) (manifest_revision h m) → IsManifestHeld known (h.fields).manifest m h.rows
  unfolding manifest_node
  manifest-held NoManifest e like =
      (view.agrees ∙ ap (λ (m : ManifestParents). manifest_node m h.rows) e, subst (λ (m : ManifestParents). AreManifestParents m h.rows) e view.manifest)
  manifest-held (Over p q) e like =
      let of = (like.0).revision in
      let are = subst (λ (m : ManifestParents). AreManifestParents m h.rows) e view.manifest in
      record {
        revision = of;
        is_held = (like.0).is_held;
        parents = ordered manifest_order manifest_order-turned p q of.p of.q are.2 (same-pair p q of.p of.q (like.0).parents);
        text = (is-manifest h view, (like.0).text);
      }

  pub come-held : IsChangesetHeld known (changeset_node h) h
  come-held =
      let own = parts.0 in
      let rest = parts.1 in
      let pq = both (bytes_eq h.p (own.revision).p) (bytes_eq h.q (own.revision).q) own.parents in
      record {
        revision = own.revision;
        is_held = own.is_held;
        parents = ((bytes_eq-Decides h.p (own.revision).p).0 pq.0, (bytes_eq-Decides h.q (own.revision).q).0 pq.1);
        fields = (view.fields, own.text);
        manifest = manifest-held h.manifest refl (Each-front (IsLike known) (manifest_revision h h.manifest) (map (file_revision (changeset_node h)) h.rows) rest);
        files = files-held h.rows (Each-rest (IsLike known) (manifest_revision h h.manifest) (map (file_revision (changeset_node h)) h.rows) rest) view.rows;
      }
