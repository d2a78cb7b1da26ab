-- What is known of a state that has all its blocks: just what the blocks have, so just what is late isn't known.
use Rattle.std.proofs.Common.{◌≡◌, ◌&&◌, ◌||◌, Bool, true, false, not, List, [], ◌∷◌, map, inl, inr, refl, sym, ap, subst, ◌∙◌}
use Rattle.std.specs.Prelude.{◌↔◌, IsTrue}
use Rattle.text_model.specs.Lists.{Each, In}
use Rattle.text_model.specs.Text.{Bytes}
use Rattle.text_model.specs.Id.{Id, is_null}
use Rattle.text_model.proofs.EachLemmas.{Each-weaker}
use Rattle.text_model.proofs.Elements.{each_from, in_map, in_right}
use Rattle.text_model.proofs.Options.{not_false, or_parts, or_neither}
use Rattle.text_model.proofs.TestLemmas.{same_bool}
use Rattle.tree_shape.proofs.Elements.{in-flat}
use Rattle.hg_model.specs.Revision.{Group, Changesets, Manifests, FilesAt, Revision, knows, is_known_parent}
use Rattle.view_model.specs.View.{ChangesetView, ManifestParents, NoManifest, Over, Row, changeset_node, file_node}
use Rattle.view_model.specs.Held.{IsFileHeld, IsChangesetHeld, AreChangesetsHeld}
use Rattle.view_model.specs.Dump.{own_revision, manifest_revision, file_revision, revisions_of, revisions_in}
use Rattle.pair_model.specs.Block.{Block, changesets_in}
use Rattle.partner_model.specs.Given.{has_file, is_late_file, has_late_file, is_late_manifest, has_late_manifest}
use Rattle.pair_known.specs.Ruled.{HasFileParents, HasManifestParents}
use Rattle.pair_state.specs.AllBlocks.{HasAllBlocks, is_referred, stands_in}
use Rattle.pair_state.specs.declared.state_parts.StateParts.{StateParts}
use Rattle.pair_state.proofs.BlockLemmas.{has-view, parts_of}
use Rattle.pair_state.proofs.KnownParents.{file-parents}
use Rattle.pair_state.proofs.Refers.{changesets-referred, files-referred, manifests-referred, referred-known, known-all, knows-in}

-- two tests of which one is the other's opposite
opposite : (a b : Bool) → a ≡ not b → (a ≡ false) ↔ (b ≡ true)
opposite a b e = ((λ h. not_false b (sym e ∙ h)), (λ h. e ∙ ap not h))

neither : (a b : Bool) → (not a && not b) ≡ not (a || b)
neither true b = refl
neither false b = refl

held-at : (known : List Revision) (vs : List ChangesetView) (v : ChangesetView) → AreChangesetsHeld known (map changeset_node vs) vs → In v vs → IsChangesetHeld known (changeset_node v) v
held-at known [] v held i = absurd i
held-at known (x ∷ vs) v held (inl e) = subst (λ (w : ChangesetView). IsChangesetHeld known (changeset_node w) w) (sym e) held.0
held-at known (x ∷ vs) v held (inr i) = held-at known vs v held.1 i

module _ (s : StateParts) (blocks : List Block) (all : HasAllBlocks s blocks) where
  held : AreChangesetsHeld s.known.hg (map changeset_node (changesets_in blocks)) (changesets_in blocks)
  held = all.state.held.held.changesets

  -- just that is known to which the history refers
  pub known-is : (group : Group) (node : Id) → knows s.known.hg group node ≡ knows (revisions_in (changesets_in blocks)) group node
  known-is group node =
      let rs = revisions_in (changesets_in blocks) in
      same_bool (knows s.known.hg group node) (knows rs group node)
      (known-all s.known.hg rs all.saved group node)
      (known-all rs s.known.hg (referred-known s.known.hg (changesets_in blocks) held) group node)

  -- ---- changesets

  -- a changeset that is known stands in a block
  pub stands-saved : Each (λ r. r.group ≡ Changesets → IsTrue (stands_in blocks r.node)) s.known.hg
  stands-saved = Each-weaker (λ r. IsTrue (is_referred blocks r)) (λ r. r.group ≡ Changesets → IsTrue (stands_in blocks r.node)) stands s.known.hg all.saved
    where
      stands : (r : Revision) → is_referred blocks r ≡ true → r.group ≡ Changesets → stands_in blocks r.node ≡ true
      stands r h e =
          sym (changesets-referred r.node (changesets_in blocks) ∙ has-view (changesets_in blocks) r.node) ∙ ap (λ (g : Group). knows (revisions_in (changesets_in blocks)) g r.node) (sym e) ∙ h

  -- ---- parents of file revisions

  pub late-file-is : (path : Bytes) (parent : Id) → is_late_file blocks path parent ≡ not (is_known_parent s.known.hg (FilesAt path) parent)
  late-file-is path parent =
      neither (is_null parent) (has_file blocks path parent)
      ∙ ap (λ (b : Bool). not (is_null parent || b)) (sym (known-is (FilesAt path) parent ∙ files-referred path parent (changesets_in blocks)))

  file-in-time : (path : Bytes) (parent : Id) → (is_late_file blocks path parent ≡ false) ↔ IsTrue (is_known_parent s.known.hg (FilesAt path) parent)
  file-in-time path parent = opposite (is_late_file blocks path parent) (is_known_parent s.known.hg (FilesAt path) parent) (late-file-is path parent)

  pub files-late-is : (rows : List Row) → (has_late_file blocks rows ≡ false) ↔ Each (HasFileParents s.known.hg) rows
  files-late-is rows = (known rows, in-time rows)
    where
      known : (rows : List Row) → has_late_file blocks rows ≡ false → Each (HasFileParents s.known.hg) rows
      known [] h = tt
      known (row ∷ rows) h =
          let p = is_late_file blocks row.path (row.revision).p in
          let q = is_late_file blocks row.path (row.revision).q in
          let parts = or_parts (p || q) (has_late_file blocks rows) h in
          let two = or_parts p q parts.0 in
          (((file-in-time row.path (row.revision).p).0 two.0, (file-in-time row.path (row.revision).q).0 two.1), known rows parts.1)

      in-time : (rows : List Row) → Each (HasFileParents s.known.hg) rows → has_late_file blocks rows ≡ false
      in-time [] h = refl
      in-time (row ∷ rows) h =
          let p = is_late_file blocks row.path (row.revision).p in
          let q = is_late_file blocks row.path (row.revision).q in
          or_neither (p || q) (has_late_file blocks rows)
          (or_neither p q ((file-in-time row.path (row.revision).p).1 h.0.0) ((file-in-time row.path (row.revision).q).1 h.0.1)) (in-time rows h.1)

  -- ---- parents of manifests

  pub late-manifest-is : (parent : Id) → is_late_manifest blocks parent ≡ not (is_known_parent s.known.hg Manifests parent)
  late-manifest-is parent = by (is_null parent) refl
    where
      by : (t : Bool) → is_null parent ≡ t → is_late_manifest blocks parent ≡ not (is_known_parent s.known.hg Manifests parent)
      by true t = rw t refl
      by false t = rw t (ap not (sym (known-is Manifests parent ∙ manifests-referred s.known.hg parent t (map changeset_node (changesets_in blocks)) (changesets_in blocks) held)))

  manifest-in-time : (parent : Id) → (is_late_manifest blocks parent ≡ false) ↔ IsTrue (is_known_parent s.known.hg Manifests parent)
  manifest-in-time parent = opposite (is_late_manifest blocks parent) (is_known_parent s.known.hg Manifests parent) (late-manifest-is parent)

  pub manifest-late-is : (m : ManifestParents) → (has_late_manifest blocks m ≡ false) ↔ HasManifestParents s.known.hg m
  manifest-late-is NoManifest = ((λ h. tt), (λ h. refl))
  manifest-late-is (Over p q) = (
    (λ h. let two = or_parts (is_late_manifest blocks p) (is_late_manifest blocks q) h in ((manifest-in-time p).0 two.0, (manifest-in-time q).0 two.1)),
    (λ h. or_neither (is_late_manifest blocks p) (is_late_manifest blocks q) ((manifest-in-time p).1 h.0) ((manifest-in-time q).1 h.1)),
  )

  -- ---- the changesets of the blocks

  -- none has a file whose parent is late
  pub in-time : Each (λ b. has_late_file blocks (b.changeset).rows ≡ false) blocks
  in-time = each_from (λ b. has_late_file blocks (b.changeset).rows ≡ false) blocks (λ b i.
      let there = in-flat parts_of blocks b b.changeset i (in_right b.changeset b.links (b.changeset ∷ []) (inl refl)) in
      let files = (held-at s.known.hg (changesets_in blocks) b.changeset held there).files in
      (files-late-is (b.changeset).rows).1 (Each-weaker (IsFileHeld s.known.hg) (HasFileParents s.known.hg) (file-parents s.known.hg all.state.held.added) (b.changeset).rows files))

-- the file revisions of a changeset are among those to which it and others refer
pub has-files-of : (vs : List ChangesetView) (v : ChangesetView) → In v vs → Each (λ row. IsTrue (knows (revisions_in vs) (FilesAt row.path) (file_node row.revision))) v.rows
unfolding revisions_of
has-files-of vs v there =
    each_from (λ row. IsTrue (knows (revisions_in vs) (FilesAt row.path) (file_node row.revision))) v.rows (λ row i.
    let own = own_revision v ∷ manifest_revision v v.manifest in
    let r = file_revision (changeset_node v) row in
    knows-in (revisions_in vs) r (in-flat revisions_of vs v r there (in_right r own (map (file_revision (changeset_node v)) v.rows) (in_map (file_revision (changeset_node v)) row v.rows i))))
