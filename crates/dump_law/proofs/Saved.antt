-- A dump is that of one list of changesets: they are held in the revisions to which they refer, and of these the dump tells all.
use Rattle.std.proofs.Common.{◌≡◌, ◌&&◌, Bool, true, false, true≢false, not, List, [], ◌∷◌, map, Some, None, refl, sym, ap, subst, ◌∙◌, inl, inr}
use Rattle.std.specs.Prelude.{bytes_eq, IsTrue}
use Rattle.std.specs.List.{find, list_any}
use Rattle.std.proofs.lemmas.Slice.Eq.{bytes_eq-Decides}
use Rattle.text_model.specs.Lists.{Each, In, rises}
use Rattle.text_model.specs.Text.{Bytes, IsBytes, is_below}
use Rattle.text_model.specs.Id.{Id, IsId, null}
use Rattle.text_model.specs.Path.{is_fit_path}
use Rattle.text_model.proofs.TestLemmas.{both, bytes_eq-self}
use Rattle.text_model.proofs.Digests.{IsId-node_id}
use Rattle.text_model.proofs.Elements.{in_left, in_right, none_in}
use Rattle.hg_model.specs.Manifest.{ManifestEntry}
use Rattle.hg_model.specs.FileText.{manifest_order, file_order}
use Rattle.hg_model.specs.Revision.{Group, Changesets, Manifests, FilesAt, Revision, is_of, revision_of, same_parents, same_revision, is_otherwise}
use Rattle.hg_model.proofs.RevisionLemmas.{same_group-self}
use Rattle.hg_model.proofs.ParentOrder.{manifest_order-turned, file_order-turned}
use Rattle.view_model.specs.View.{ChangesetView, IsChangesetView, IsRevision, AreManifestParents, Row, ManifestParents, NoManifest, Over, changeset_node, manifest_node, entry_of_row, file_node, rows_text, paths_of}
use Rattle.view_model.specs.Held.{IsFileHeld, IsManifestHeld, IsChangesetHeld, AreChangesetsHeld}
use Rattle.view_model.specs.Dump.{own_revision, manifest_revision, file_revision, revisions_of, revisions_in}
use Rattle.state_model.specs.Saved.{has_otherwise}
use Rattle.hg_view.proofs.One.{one_held}
use Rattle.hg_dump_law.proofs.Written.{IsSamePair, pair-is}

-- ---- elements

pub record Finds {X : Type 0} (p : X → Bool) (xs : List X) : Type 0 where
  pub it : X
  pub is : find p xs ≡ Some it
  pub passes : p it ≡ true
  pub there : In it xs

pub finds : {X : Type 0} (p : X → Bool) (x : X) (xs : List X) → In x xs → p x ≡ true → Finds p xs
finds p x [] i h = absurd i
finds p x (y ∷ ys) i h = by (p y) refl i (finds p x ys)
  where
    by : (t : Bool) → p y ≡ t → In x (y ∷ ys) → (In x ys → p x ≡ true → Finds p ys) → Finds p (y ∷ ys)
    by true e j go = record { it = y; is = rw e refl; passes = e; there = inl refl }
    by false e (inl q) go = absurd (true≢false (sym (sym (ap p q) ∙ h) ∙ e))
    by false e (inr j) go = let f = go j h in record { it = f.it; is = rw e f.is; passes = f.passes; there = inr f.there }

-- ---- what the revisions of changesets hold

-- a revision is known, up to its link and the order of a manifest's or a file's parents
record IsLike (known : List Revision) (r : Revision) : Type 0 where
  pub revision : Revision
  pub is_held : revision_of known r.group r.node ≡ Some revision
  pub text : revision.text ≡ r.text
  pub parents : same_parents r.group r.p r.q revision.p revision.q ≡ true

is-like : (known : List Revision) → has_otherwise known ≡ false → (r : Revision) → In r known → IsLike known r
is-like known one r i =
    let self : is_of r.group r.node r ≡ true = rw (same_group-self r.group, bytes_eq-self r.node) refl in
    let f = finds (is_of r.group r.node) r known i self in
    let none : is_otherwise r f.it ≡ false = none_in (is_otherwise r) known f.it (none_in (λ x. list_any (is_otherwise x) known) known r one i) f.there in
    let alike = both (bytes_eq r.text (f.it).text) (same_parents r.group r.p r.q (f.it).p (f.it).q) (not-and (same_revision r f.it) _ f.passes none) in
    record { revision = f.it; is_held = f.is; text = sym ((bytes_eq-Decides r.text (f.it).text).0 alike.0); parents = alike.1 }
  where
    not-and : (a b : Bool) → a ≡ true → (a && not b) ≡ false → b ≡ true
    not-and true true e h = refl
    not-and true false e h = absurd (true≢false h)
    not-and false b e h = absurd (true≢false (sym e))

pub pair-order : (f : Id → Id → Id × Id) → ((p q : Id) → f p q ≡ f q p) → (a b c d : Id) → IsSamePair a b c d → f a b ≡ f c d
pair-order f one a b c d (inl e) = (λ i. f (e.0 i) (e.1 i))
pair-order f one a b c d (inr e) = (λ i. f (e.0 i) (e.1 i)) ∙ one d c

none-node : (rows : List Row) → manifest_node NoManifest rows ≡ null
unfolding manifest_node
none-node rows = refl

module _ (known : List Revision) (one : has_otherwise known ≡ false) where
  rows-held : (link : Id) (rows : List Row) → Each (λ row. IsTrue (is_fit_path row.path) × IsBytes row.path × IsRevision row.revision) rows
      → ((r : Revision) → In r (map (file_revision link) rows) → In r known) → Each (IsFileHeld known) rows
  rows-held link [] fit all = tt
  rows-held link (row ∷ rows) fit all =
      let like = is-like known one (file_revision link row) (all (file_revision link row) (inl refl)) in (
        record {
          revision = like.revision;
          is_held = like.is_held;
          parents = sym (fit.0.2.3) ∙ pair-order (file_order (row.revision).meta) (file_order-turned (row.revision).meta) (row.revision).p (row.revision).q (like.revision).p (like.revision).q (pair-is (row.revision).p (row.revision).q (like.revision).p (like.revision).q like.parents);
          text = (fit.0.2.2, like.text);
        },
        rows-held link rows fit.1 (λ r i. all r (inr i)),
      )

  entries-are : (rows : List Row) → Each (λ row. IsTrue (is_fit_path row.path) × IsBytes row.path × IsRevision row.revision) rows → Each (λ (e : ManifestEntry). IsTrue (is_fit_path e.path) × IsBytes e.path × IsId e.node) (map entry_of_row rows)
  entries-are [] fit = tt
  entries-are (row ∷ rows) fit = ((fit.0.0, fit.0.1, IsId-node_id (row.revision).p (row.revision).q _), entries-are rows fit.1)

  paths-are : (rows : List Row) → map (λ (e : ManifestEntry). e.path) (map entry_of_row rows) ≡ paths_of rows
  paths-are [] = refl
  paths-are (row ∷ rows) = ap (λ l. row.path ∷ l) (paths-are rows)

  manifest-held : (h : ChangesetView) → IsChangesetView h → (m : ManifestParents) → h.manifest ≡ m → ((r : Revision) → In r (manifest_revision h m) → In r known)
      → IsManifestHeld known (h.fields).manifest m h.rows
  manifest-held h v NoManifest e all = (v.agrees ∙ ap (λ (m : ManifestParents). manifest_node m h.rows) e ∙ none-node h.rows, subst (λ (m : ManifestParents). AreManifestParents m h.rows) e v.manifest)
  manifest-held h v (Over p q) e all =
      let like = is-like known one (record { group = Manifests; node = (h.fields).manifest; p = p; q = q; link = changeset_node h; text = rows_text h.rows }) (all _ (inl refl)) in
      let are = subst (λ (m : ManifestParents). AreManifestParents m h.rows) e v.manifest in
      record {
        revision = like.revision;
        is_held = like.is_held;
        parents = sym are.2 ∙ pair-order manifest_order manifest_order-turned p q (like.revision).p (like.revision).q (pair-is p q (like.revision).p (like.revision).q like.parents);
        text = ((entries-are h.rows v.rows, subst (λ (l : List Bytes). IsTrue (rises is_below l)) (sym (paths-are h.rows)) v.in_order), like.text);
      }

  pub view-held : (h : ChangesetView) → IsChangesetView h → ((r : Revision) → In r (revisions_of h) → In r known) → IsChangesetHeld known (changeset_node h) h
  unfolding revisions_of
  view-held h v all =
      let like = is-like known one (own_revision h) (all (own_revision h) (inl refl)) in
      let same = both (bytes_eq h.p (like.revision).p) (bytes_eq h.q (like.revision).q) like.parents in
      record {
        revision = like.revision;
        is_held = like.is_held;
        parents = ((bytes_eq-Decides h.p (like.revision).p).0 same.0, (bytes_eq-Decides h.q (like.revision).q).0 same.1);
        fields = (v.fields, like.text);
        manifest = manifest-held h v h.manifest refl (λ r i. all r (inr (in_left r (manifest_revision h h.manifest) (map (file_revision (changeset_node h)) h.rows) i)));
        files = rows-held (changeset_node h) h.rows v.rows (λ r i. all r (inr (in_right r (manifest_revision h h.manifest) (map (file_revision (changeset_node h)) h.rows) i)));
      }

  pub views-held : (hs : List ChangesetView) → Each IsChangesetView hs → ((r : Revision) → In r (revisions_in hs) → In r known) → AreChangesetsHeld known (map changeset_node hs) hs
  views-held [] vs all = tt
  views-held (h ∷ hs) vs all = (
    view-held h vs.0 (λ r i. all r (in_left r (revisions_of h) (revisions_in hs) i)),
    views-held hs vs.1 (λ r i. all r (in_right r (revisions_of h) (revisions_in hs) i)),
  )

pub saved-held : (hs : List ChangesetView) → Each IsChangesetView hs → has_otherwise (revisions_in hs) ≡ false → AreChangesetsHeld (revisions_in hs) (map changeset_node hs) hs
saved-held hs views one = views-held (revisions_in hs) one hs views (λ r i. i)

-- ---- what is held in equal revisions

module _ (known other : List Revision) (same : (group : Group) (node : Id) → revision_of known group node ≡ revision_of other group node) where
  files-moved : (rows : List Row) → Each (IsFileHeld known) rows → Each (IsFileHeld other) rows
  files-moved [] h = tt
  files-moved (row ∷ rows) h = (record { revision = (h.0).revision; is_held = sym (same (FilesAt row.path) (file_node row.revision)) ∙ (h.0).is_held; parents = (h.0).parents; text = (h.0).text }, files-moved rows h.1)

  manifest-moved : (node : Id) (m : ManifestParents) (rows : List Row) → IsManifestHeld known node m rows → IsManifestHeld other node m rows
  manifest-moved node NoManifest rows h = h
  manifest-moved node (Over p q) rows h = record { revision = h.revision; is_held = sym (same Manifests node) ∙ h.is_held; parents = h.parents; text = h.text }

  pub view-moved : (node : Id) (h : ChangesetView) → IsChangesetHeld known node h → IsChangesetHeld other node h
  view-moved node h x = record {
    revision = x.revision;
    is_held = sym (same Changesets node) ∙ x.is_held;
    parents = x.parents;
    fields = x.fields;
    manifest = manifest-moved (h.fields).manifest h.manifest h.rows x.manifest;
    files = files-moved h.rows x.files;
  }

  pub views-moved : (nodes : List Id) (hs : List ChangesetView) → AreChangesetsHeld known nodes hs → AreChangesetsHeld other nodes hs
  views-moved [] [] h = tt
  views-moved [] (v ∷ vs) h = absurd h
  views-moved (n ∷ nodes) [] h = absurd h
  views-moved (n ∷ nodes) (v ∷ vs) h = (view-moved n v h.0, views-moved nodes vs h.1)

-- ---- a node has one held changeset, where no manifest has the null id

module _ (known : List Revision) (no_null : revision_of known Manifests null ≡ None) where
  pub one_list : (nodes : List Id) (hs ks : List ChangesetView) → AreChangesetsHeld known nodes hs → AreChangesetsHeld known nodes ks → hs ≡ ks
  one_list [] [] [] x y = refl
  one_list [] (h ∷ hs) ks x y = absurd x
  one_list [] [] (k ∷ ks) x y = absurd y
  one_list (n ∷ nodes) [] ks x y = absurd x
  one_list (n ∷ nodes) (h ∷ hs) [] x y = absurd y
  one_list (n ∷ nodes) (h ∷ hs) (k ∷ ks) x y = (λ i. one_held known no_null n h k x.0 y.0 i ∷ one_list nodes hs ks x.1 y.1 i)
