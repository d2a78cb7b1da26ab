-- A node has one view or one fault.
use Rattle.std.proofs.Common.{◌≡◌, ℕ, true, false, true≢false, List, None, refl, sym, ap, subst, ◌∙◌}
use Rattle.std.specs.Prelude.{is_some}
use Rattle.text_model.specs.Text.{Bytes}
use Rattle.text_model.specs.Id.{Id}
use Rattle.text_model.proofs.Options.{none_some, some_is}
use Rattle.hg_model.specs.Changeset.{Changeset, IsChangesetText}
use Rattle.hg_model.specs.Manifest.{ManifestEntry, IsManifestText}
use Rattle.hg_model.specs.Revision.{Revision, Changesets, knows}
use Rattle.hg_model.proofs.ChangesetLemmas.{one_changeset}
use Rattle.hg_model.proofs.ManifestLemmas.{one_manifest}
use Rattle.hg_store.specs.Known.{manifest_text_of}
use Rattle.hg_store.specs.declared.view.View.{View}
use Rattle.hg_store.specs.declared.fault.ViewFault.{ViewFault}
use Rattle.hg_store.specs.declared.fault.ViewFault.TheVariants.{ChangesetUnknown, ManifestUnknown, FileUnknown}
use Rattle.hg_store.specs.Views.{IsChangesetOf, IsManifestOf, IsView, IsSameView, LacksManifest, LacksFile, IsViewFault, first_unknown}

module _ {known : List Revision} {node : Id} where
  same_fields : {p q p' q' : Id} {x y : Changeset} → IsChangesetOf known node p q x → IsChangesetOf known node p' q' y → x ≡ y
  same_fields {x = x} {y = y} c d =
      one_changeset (c.revision).text x y c.fields (subst (λ (r : Revision). IsChangesetText r.text y) (some_is (sym d.is_held ∙ c.is_held)) d.fields)

  is_known : {p q : Id} {x : Changeset} → IsChangesetOf known node p q x → knows known Changesets node ≡ true
  is_known c = ap is_some c.is_held

  same_entries : {es fs : List ManifestEntry} → IsManifestOf known node es → IsManifestOf known node fs → es ≡ fs
  same_entries {es = es} {fs = fs} m n =
      one_manifest m.text es fs m.spells (subst (λ (t : Bytes). IsManifestText t fs) (some_is (sym n.is_held ∙ m.is_held)) n.spells)

module _ (known : List Revision) (node : Id) where
  pub one_view : (v w : View) → IsView known node v → IsView known node w → IsSameView v w
  one_view v w a b =
      let fields = same_fields a.changeset b.changeset in
      let manifest : v.manifest_node ≡ w.manifest_node = a.manifest_node ∙ ap (λ (x : Changeset). x.manifest) fields ∙ sym b.manifest_node in
      let revision = some_is (sym (a.changeset).is_held ∙ (b.changeset).is_held) in
      record {
        parents = ((a.changeset).first ∙ ap (λ (r : Revision). r.p) revision ∙ sym (b.changeset).first, (a.changeset).second ∙ ap (λ (r : Revision). r.q) revision ∙ sym (b.changeset).second);
        fields = fields;
        manifest_node = manifest;
        entries = same_entries (subst (λ (n : Id). IsManifestOf known n (v.manifest).now) manifest a.manifest) b.manifest;
      }

  unknown_known : {p q : Id} {x : Changeset} → knows known Changesets node ≡ false → IsChangesetOf known node p q x → ⊥
  unknown_known h c = true≢false (sym (is_known c) ∙ h)

  no_manifest : {es : List ManifestEntry} (m n : Id) → m ≡ n → manifest_text_of known m ≡ None → IsManifestOf known n es → ⊥
  no_manifest m n same none is = none_some (sym none ∙ ap (manifest_text_of known) same ∙ is.is_held)

  lacks_both : (i : ℕ) → LacksManifest known node → LacksFile known node i → ⊥
  lacks_both i a b = no_manifest (a.fields).manifest (b.fields).manifest (ap (λ (x : Changeset). x.manifest) (same_fields a.changeset b.changeset)) a.unknown b.manifest

  same_line : (i j : ℕ) → LacksFile known node i → LacksFile known node j → i ≡ j
  same_line i j a b =
      let same : (a.fields).manifest ≡ (b.fields).manifest = ap (λ (x : Changeset). x.manifest) (same_fields a.changeset b.changeset) in
      let entries = same_entries (subst (λ (n : Id). IsManifestOf known n a.entries) same a.manifest) b.manifest in
      some_is (sym a.first ∙ ap (first_unknown known) entries ∙ b.first)

  pub one_fault : (e f : ViewFault) → IsViewFault known node e → IsViewFault known node f → e ≡ f
  one_fault ChangesetUnknown ChangesetUnknown a b = refl
  one_fault ChangesetUnknown ManifestUnknown a b = absurd (unknown_known a b.changeset)
  one_fault ChangesetUnknown (FileUnknown j) a b = absurd (unknown_known a b.changeset)
  one_fault ManifestUnknown ChangesetUnknown a b = absurd (unknown_known b a.changeset)
  one_fault ManifestUnknown ManifestUnknown a b = refl
  one_fault ManifestUnknown (FileUnknown j) a b = absurd (lacks_both j a b)
  one_fault (FileUnknown i) ChangesetUnknown a b = absurd (unknown_known b a.changeset)
  one_fault (FileUnknown i) ManifestUnknown a b = absurd (lacks_both i b a)
  one_fault (FileUnknown i) (FileUnknown j) a b = ap FileUnknown (same_line i j a b)

  pub view_or_fault : (v : View) (e : ViewFault) → IsView known node v → IsViewFault known node e → ⊥
  view_or_fault v ChangesetUnknown a b = unknown_known b a.changeset
  view_or_fault v ManifestUnknown a b =
      no_manifest (b.fields).manifest v.manifest_node (ap (λ (x : Changeset). x.manifest) (same_fields b.changeset a.changeset) ∙ sym a.manifest_node) b.unknown a.manifest
  view_or_fault v (FileUnknown i) a b =
      let same : v.manifest_node ≡ (b.fields).manifest = a.manifest_node ∙ ap (λ (x : Changeset). x.manifest) (same_fields a.changeset b.changeset) in
      let entries = same_entries (subst (λ (n : Id). IsManifestOf known n (v.manifest).now) same a.manifest) b.manifest in
      none_some (sym a.files ∙ ap (first_unknown known) entries ∙ b.first)
