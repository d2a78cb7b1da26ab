-- A changeset that has a view lacks nothing.
use Rattle.std.proofs.Common.{◌≡◌, true≢false, List, sym, ap, subst, ◌∙◌}
use Rattle.std.specs.Prelude.{is_some}
use Rattle.std.proofs.lemmas.Option.{same_Some, none-some}
use Rattle.text_model.specs.Text.{Bytes}
use Rattle.text_model.specs.Id.{Id}
use Rattle.hg_model.specs.Changeset.{Changeset, IsChangesetText}
use Rattle.hg_model.specs.Manifest.{ManifestEntry, IsManifestText}
use Rattle.hg_model.specs.Revision.{Revision}
use Rattle.hg_model.proofs.ChangesetLemmas.{one_changeset}
use Rattle.hg_model.proofs.ManifestLemmas.{one_manifest}
use Rattle.hg_changeset.specs.Values.{changeset_value}
use Rattle.hg_store.specs.Known.{manifest_text_of}
use Rattle.hg_store.specs.Views.{IsChangesetOf, IsManifestOf, IsView, IsViewFault, first_unknown}
use Rattle.hg_store.specs.declared.view.View.{View}
use Rattle.hg_store.specs.declared.fault.ViewFault.{ViewFault}
use Rattle.hg_store.specs.declared.fault.ViewFault.TheVariants.{ChangesetUnknown, ManifestUnknown, FileUnknown}

module _ (known : List Revision) (node : Id) (v : View) (is : IsView known node v) where
  same_manifest : {p q : Id} {x : Changeset} → IsChangesetOf known node p q x → x.manifest ≡ v.manifest_node
  same_manifest {x = x} of =
      let revision : of.revision ≡ (is.changeset).revision = same_Some _ _ (sym of.is_held ∙ (is.changeset).is_held) in
      let fields = one_changeset ((is.changeset).revision).text x (changeset_value (v.changeset).now) (subst (λ (r : Revision). IsChangesetText r.text x) revision of.fields) (is.changeset).fields in
      ap (λ (c : Changeset). c.manifest) fields ∙ sym is.manifest_node

  same_entries : (n : Id) (entries : List ManifestEntry) → n ≡ v.manifest_node → IsManifestOf known n entries → entries ≡ (v.manifest).now
  same_entries n entries same of =
      let text : of.text ≡ (is.manifest).text = same_Some _ _ (sym of.is_held ∙ ap (manifest_text_of known) same ∙ (is.manifest).is_held) in
      one_manifest (is.manifest).text entries (v.manifest).now (subst (λ (t : Bytes). IsManifestText t entries) text of.spells) (is.manifest).spells

  pub viewed-there : (e : ViewFault) → IsViewFault known node e → ⊥
  viewed-there ChangesetUnknown f = true≢false (sym (ap is_some (is.changeset).is_held) ∙ f)
  viewed-there ManifestUnknown f = none-some _ (sym f.unknown ∙ ap (manifest_text_of known) (same_manifest f.changeset) ∙ (is.manifest).is_held)
  viewed-there (FileUnknown line) f =
      let entries = same_entries (f.fields).manifest f.entries (same_manifest f.changeset) f.manifest in
      none-some _ (sym is.files ∙ sym (ap (first_unknown known) entries) ∙ f.first)
