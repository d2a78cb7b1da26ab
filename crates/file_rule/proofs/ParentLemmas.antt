-- A parent, and the manifest that the store lends for it.
use Rattle.std.proofs.Common.{◌≡◌, List, [], map, None, refl, sym, subst, ◌∙◌}
use Rattle.std.proofs.lemmas.Option.{same_Some, none-some}
use Rattle.text_model.specs.Text.{Bytes}
use Rattle.text_model.specs.Id.{Id, null}
use Rattle.hg_model.specs.Changeset.{Changeset, IsChangesetText}
use Rattle.hg_model.specs.Manifest.{ManifestEntry, IsManifestText}
use Rattle.hg_model.specs.Revision.{Revision}
use Rattle.hg_model.proofs.ChangesetLemmas.{one_changeset}
use Rattle.hg_model.proofs.ManifestLemmas.{one_manifest}
use Rattle.hg_store.specs.Known.{AreAdded, manifest_text_of}
use Rattle.hg_store.specs.Views.{IsChangesetOf, IsManifestOf}
use Rattle.view_model.specs.View.{Row, ManifestParents, NoManifest, ChangesetView, entry_of_row}
use Rattle.view_model.specs.Held.{IsManifestHeld, IsChangesetHeld}
use Rattle.pair_model.specs.Block.{no_changeset}
use Rattle.pair_known.proofs.HeldViews.{manifest_of-held}
use Rattle.file_rule.specs.Parents.{IsParent}
use Rattle.file_rule.specs.declared.parents.Parent.{Parent}

module _ (known : List Revision) (added : AreAdded known) where
  -- a node names one list of entries
  same-entries : (node : Id) (m : ManifestParents) (rows : List Row) (es : List ManifestEntry) → IsManifestHeld known node m rows → IsManifestOf known node es → map entry_of_row rows ≡ es
  same-entries node m rows es held of =
      let h = manifest_of-held known added node m rows held in
      let text : h.text ≡ of.text = same_Some _ _ (sym h.is_held ∙ of.is_held) in
      one_manifest of.text (map entry_of_row rows) es (subst (λ (t : Bytes). IsManifestText t (map entry_of_row rows)) text h.spells) of.spells

  pub no-parent : (parent : Parent) → parent.manifest_node ≡ null → IsManifestOf known null (parent.manifest).now → IsParent known parent no_changeset
  no-parent parent node of = record {
    node = sym node;
    entries = same-entries null NoManifest [] (parent.manifest).now (refl, refl) of;
    held = (refl, refl);
    files = tt;
  }

  pub parent-there : (parent : Parent) (node : Id) (v : ChangesetView) → IsChangesetHeld known node v → parent.manifest_node ≡ (v.fields).manifest → IsManifestOf known parent.manifest_node (parent.manifest).now → IsParent known parent v
  parent-there parent node v held is of = record {
    node = sym is;
    entries = same-entries (v.fields).manifest v.manifest v.rows (parent.manifest).now held.manifest (subst (λ (x : Id). IsManifestOf known x (parent.manifest).now) is of);
    held = held.manifest;
    files = held.files;
  }

  -- what a view has, a manifest has too
  pub manifest-there : (node : Id) (m : ManifestParents) (rows : List Row) → IsManifestHeld known node m rows → manifest_text_of known node ≡ None → ⊥
  manifest-there node m rows held none = none-some _ (sym none ∙ (manifest_of-held known added node m rows held).is_held)

  pub fields-are : (node p q : Id) (x : Changeset) (v : ChangesetView) → IsChangesetHeld known node v → IsChangesetOf known node p q x → x ≡ v.fields
  fields-are node p q x v held of =
      one_changeset (held.revision).text x v.fields (subst (λ (r : Revision). IsChangesetText r.text x) (same_Some _ _ (sym of.is_held ∙ held.is_held)) of.fields) held.fields
