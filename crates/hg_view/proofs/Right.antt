-- A held changeset is a right view: all its ids agree.
use Rattle.std.proofs.Common.{◌≡◌, false, List, [], ◌∷◌, map, Some, refl, sym, ap, subst, ◌∙◌}
use Rattle.std.specs.Prelude.{IsTrue}
use Rattle.text_model.specs.Lists.{Each, rises}
use Rattle.text_model.specs.Text.{Bytes, IsBytes, is_below}
use Rattle.text_model.specs.Id.{Id, IsId, node_id}
use Rattle.text_model.specs.Path.{is_fit_path}
use Rattle.hg_model.proofs.ParentOrder.{file_order-again, file_order-ids, manifest_order-again, manifest_order-ids, manifest_order-node}
use Rattle.hg_model.specs.Manifest.{IsManifest}
use Rattle.hg_model.specs.FileText.{file_order, manifest_order}
use Rattle.hg_model.specs.Revision.{Group, Revision, Changesets, Manifests, FilesAt, revision_of, has_bad_order}
use Rattle.hg_store.specs.Known.{AreAdded}
use Rattle.view_model.specs.View.{Row, file_node, entry_of_row, paths_of, IsRevision, ManifestParents, NoManifest, Over, manifest_node, AreManifestParents, ChangesetView, changeset_node, IsChangesetView}
use Rattle.view_model.specs.Held.{IsFileHeld, IsManifestHeld, IsChangesetHeld}
use Rattle.hg_store.proofs.Found.{found, node_is, good_order, first_null, one_parent_twice}

-- a revision with its own node, and ids for parents
pub record IsNamed (node : Id) (r : Revision) : Type 0 where
  pub parents : IsId r.p × IsId r.q
  pub hash : node ≡ node_id r.p r.q r.text

-- whoever holds the revisions: each has its own node and ids for parents, and those of changesets stand in order
module _ (known : List Revision)
    (named : (group : Group) (node : Id) (r : Revision) → revision_of known group node ≡ Some r → IsNamed node r)
    (in-order : (node : Id) (r : Revision) → revision_of known Changesets node ≡ Some r → has_bad_order r ≡ false) where
  -- ---- files

  revision-is : (row : Row) → IsFileHeld known row → IsRevision row.revision
  revision-is row held =
      let r = held.revision in
      let of = named (FilesAt row.path) (file_node row.revision) r held.is_held in
      let ids = file_order-ids (row.revision).meta r.p r.q (of.parents).0 (of.parents).1 in
      let first : (row.revision).p ≡ (file_order (row.revision).meta r.p r.q).0 = ap (λ (x : Id × Id). x.0) held.parents in
      let second : (row.revision).q ≡ (file_order (row.revision).meta r.p r.q).1 = ap (λ (x : Id × Id). x.1) held.parents in (
        subst IsId (sym first) ids.0,
        subst IsId (sym second) ids.1,
        (held.text).0,
        (λ i. file_order (row.revision).meta (first i) (second i)) ∙ file_order-again (row.revision).meta r.p r.q ∙ sym held.parents,
      )

  rows-are : (rows : List Row) → Each (λ e. IsTrue (is_fit_path e.path) × IsBytes e.path × IsId e.node) (map entry_of_row rows) → Each (IsFileHeld known) rows
      → Each (λ row. IsTrue (is_fit_path row.path) × IsBytes row.path × IsRevision row.revision) rows
  rows-are [] entries held = tt
  rows-are (row ∷ rows) entries held = ((entries.0.0, entries.0.1, revision-is row held.0), rows-are rows entries.1 held.1)

  paths-same : (rows : List Row) → map (λ e. e.path) (map entry_of_row rows) ≡ paths_of rows
  paths-same [] = refl
  paths-same (row ∷ rows) = ap (λ (x : List Bytes). row.path ∷ x) (paths-same rows)

  -- ---- the manifest

  -- the lines of the manifest, be it the null one or another
  lines-are : (m : ManifestParents) (node : Id) (rows : List Row) → IsManifestHeld known node m rows → IsManifest (map entry_of_row rows)
  lines-are NoManifest node rows held = subst (λ (x : List Row). IsManifest (map entry_of_row x)) (sym held.1) (tt, refl)
  lines-are (Over p q) node rows held = (held.text).0

  parents-are : (m : ManifestParents) (node : Id) (rows : List Row) → IsManifestHeld known node m rows → AreManifestParents m rows
  parents-are NoManifest node rows held = held.1
  parents-are (Over p q) node rows held =
      let r = held.revision in
      let of = named Manifests node r held.is_held in
      let ids = manifest_order-ids r.p r.q (of.parents).0 (of.parents).1 in
      let first : p ≡ (manifest_order r.p r.q).0 = ap (λ (x : Id × Id). x.0) held.parents in
      let second : q ≡ (manifest_order r.p r.q).1 = ap (λ (x : Id × Id). x.1) held.parents in
      (subst IsId (sym first) ids.0, subst IsId (sym second) ids.1, (λ i. manifest_order (first i) (second i)) ∙ manifest_order-again r.p r.q ∙ sym held.parents)

  node-agrees : (m : ManifestParents) (node : Id) (rows : List Row) → IsManifestHeld known node m rows → node ≡ manifest_node m rows
  unfolding manifest_node
  node-agrees NoManifest node rows held = held.0
  node-agrees (Over p q) node rows held =
      let r = held.revision in
      let of = named Manifests node r held.is_held in
      let first : p ≡ (manifest_order r.p r.q).0 = ap (λ (x : Id × Id). x.0) held.parents in
      let second : q ≡ (manifest_order r.p r.q).1 = ap (λ (x : Id × Id). x.1) held.parents in
      of.hash ∙ sym (manifest_order-node r.p r.q r.text) ∙ (λ i. node_id (sym first i) (sym second i) ((held.text).1 i))

  -- ---- the whole

  pub named-is_view : (node : Id) (h : ChangesetView) → IsChangesetHeld known node h → IsChangesetView h
  named-is_view node h held =
      let r = held.revision in
      let ids = (named Changesets node r held.is_held).parents in
      let order = in-order node r held.is_held in
      let lines = lines-are h.manifest (h.fields).manifest h.rows held.manifest in
      let first = held.parents.0 in
      let second = held.parents.1 in
      record {
        parents = (subst IsId (sym first) ids.0, subst IsId (sym second) ids.1);
        first = λ e. second ∙ first_null r order (sym first ∙ e);
        distinct = λ e. first ∙ one_parent_twice r order (sym first ∙ e ∙ second);
        fields = (held.fields).0;
        manifest = parents-are h.manifest (h.fields).manifest h.rows held.manifest;
        rows = rows-are h.rows lines.0 held.files;
        in_order = subst (λ (paths : List Bytes). IsTrue (rises is_below paths)) (paths-same h.rows) lines.1;
        agrees = node-agrees h.manifest (h.fields).manifest h.rows held.manifest;
      }

-- ---- in a store

module _ (known : List Revision) (added : AreAdded known) where
  is-named : (group : Group) (node : Id) (r : Revision) → revision_of known group node ≡ Some r → IsNamed node r
  is-named group node r at =
      let of = found known group node r added at in
      record { parents = (of.added).parents; hash = sym of.node_is ∙ node_is of.before r of.added }

  stands-in-order : (node : Id) (r : Revision) → revision_of known Changesets node ≡ Some r → has_bad_order r ≡ false
  stands-in-order node r at = let of = found known Changesets node r added at in good_order of.before r of.added of.group_is

  pub held-is_view : (node : Id) (h : ChangesetView) → IsChangesetHeld known node h → IsChangesetView h
  held-is_view = named-is_view known is-named stands-in-order

  pub held-node : (node : Id) (h : ChangesetView) → IsChangesetHeld known node h → changeset_node h ≡ node
  unfolding changeset_node
  held-node node h held =
      let r = held.revision in
      let of = found known Changesets node r added held.is_held in
      (λ i. node_id (held.parents.0 i) (held.parents.1 i) (sym (held.fields).1 i)) ∙ sym (node_is of.before r of.added) ∙ of.node_is
