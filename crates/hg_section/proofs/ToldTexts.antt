-- The texts that a bundle's deltas make are those that are known once it is read.
use Rattle.std.proofs.Common.{◌≡◌, ℕ, ◌+◌, ◌&&◌, ◌||◌, Bool, true, false, not, List, [], ◌∷◌, ◌++◌, length, Option, Some, None, refl, sym, ap, subst, ◌∙◌}
use Rattle.std.specs.Prelude.{bytes_eq}
use Rattle.std.specs.List.{list_any}
use Rattle.std.proofs.lemmas.Slice.Eq.{bytes_eq-Decides}
use Rattle.text_model.specs.Lists.{Each}
use Rattle.text_model.specs.Text.{Bytes}
use Rattle.text_model.specs.Id.{is_null}
use Rattle.text_model.specs.Fault as fault
use Rattle.text_model.proofs.EachLemmas.{Each-front, Each-rest}
use Rattle.text_model.proofs.Elements.{find-more}
use Rattle.text_model.proofs.Options.{some_is, or_parts, not_false}
use Rattle.text_model.proofs.TestLemmas.{both}
use Rattle.hg_model.proofs.RevisionLemmas.{first_name-two, first_name-three, named_if-None, is_of-self}
use Rattle.hg_model.specs.Bundle.{BundleEntry, FileGroup}
use Rattle.hg_model.specs.Reading.{AreTextsFrom}
use Rattle.hg_model.specs.Revision.{Group, Changesets, Manifests, FilesAt, Revision, is_of, revision_of, same_revision, same_parents, is_otherwise, ancestry_fault, text_fault, addition_fault, known_after, known_after_all}
use Rattle.hg_view.proofs.Grown.{more-all}
use Rattle.hg_bundle.specs.declared.arrival.Arrival.{Arrival}
use Rattle.hg_bundle.specs.Brought.{revisions_with, AreOfGroup, AreOfFiles, AreAdditions, BringsBundle}
use Rattle.hg_dump.specs.Told.{TellsText, TellsTexts}

-- ---- one revision

-- what is known under the revision's node has its text
record HasText (known : List Revision) (r : Revision) : Type 0 where
  pub revision : Revision
  pub is_held : revision_of known r.group r.node ≡ Some revision
  pub text : revision.text ≡ r.text

-- a revision that is added is known under its node with no other text
not-otherwise : (known : List Revision) (r : Revision) → addition_fault known r ≡ None → list_any (is_otherwise r) known ≡ false
unfolding text_fault
not-otherwise known r added =
    let parts = first_name-three _ _ _ (first_name-two (ancestry_fault known r) (text_fault known r) added).1 in
    (or_parts (is_null r.node) (list_any (is_otherwise r) known) (named_if-None (is_null r.node || list_any (is_otherwise r) known) fault.Collision parts.2)).1

-- the first of the revision's node, or the revision itself behind those known
found-text : (known : List Revision) (r : Revision) → list_any (is_otherwise r) known ≡ false → HasText (known ++ r ∷ []) r
found-text [] r none = record { revision = r; is_held = rw (is_of-self r) refl; text = refl }
found-text (x ∷ xs) r none = by (same_revision r x) refl (or_parts (is_otherwise r x) (list_any (is_otherwise r) xs) none) (found-text xs r)
  where
    by : (t : Bool) → same_revision r x ≡ t → (is_otherwise r x ≡ false) × (list_any (is_otherwise r) xs ≡ false) → (list_any (is_otherwise r) xs ≡ false → HasText (xs ++ r ∷ []) r)
        → HasText (x ∷ xs ++ r ∷ []) r
    by true t parts later =
        let same = bytes_eq r.text x.text && same_parents r.group r.p r.q x.p x.q in
        let is = both (bytes_eq r.text x.text) _ (not_false same (sym (ap (λ (b : Bool). b && not same) t) ∙ parts.0)) in
        record { revision = x; is_held = rw t refl; text = sym ((bytes_eq-Decides r.text x.text).0 is.0) }
    by false t parts later =
        let h = later parts.1 in
        record { revision = h.revision; is_held = rw t h.is_held; text = h.text }

added-text : (known : List Revision) (r : Revision) → addition_fault known r ≡ None → HasText (known_after known r) r
added-text known r added = by (revision_of known r.group r.node) refl (found-text known r (not-otherwise known r added))
  where
    by : (o : Option Revision) → revision_of known r.group r.node ≡ o → HasText (known ++ r ∷ []) r → HasText (known_after known r) r
    by None e h = rw e h
    by (Some s) e h =
        let same : s ≡ h.revision = some_is (sym (find-more (is_of r.group r.node) known (r ∷ []) s e) ∙ h.is_held) in
        rw e (record { revision = s; is_held = e; text = ap (λ (x : Revision). x.text) same ∙ h.text })

-- each of those that are added has its text, whatever comes behind it
added-texts : (known : List Revision) (sum : ℕ) (rs : List Revision) → AreAdditions known sum rs → Each (HasText (known_after_all known rs)) rs
added-texts known sum [] are = tt
added-texts known sum (r ∷ rs) are =
    let h = added-text known r are.0 in (
      record { revision = h.revision; is_held = more-all (known_after known r) rs r.group r.node h.revision h.is_held; text = h.text },
      added-texts (known_after known r) (sum + length r.text) rs are.2,
    )

-- ---- groups

module _ (store : List Revision) where
  told-from : (group : Group) (base : Bytes) (es : List BundleEntry) (ts : List Bytes) → AreTextsFrom base es ts → Each (HasText store) (revisions_with group es ts) → Each (TellsText store group) es
  told-from group base [] ts made have = tt
  told-from group base (e ∷ es) [] made have = absurd made
  told-from group base (e ∷ es) (t ∷ ts) made have = (
    record { base = base; text = t; makes = made.0; known_is = λ r at. ap (λ (x : Revision). x.text) (some_is (sym at ∙ have.0.is_held)) ∙ have.0.text },
    told-from group t es ts made.1 have.1,
  )

  told-group : (known : List Revision) (group : Group) (es : List BundleEntry) (rs : List Revision) → AreOfGroup known group es rs → Each (HasText store) rs → Each (TellsText store group) es
  told-group known group [] rs are have = tt
  told-group known group (e ∷ es) rs are have =
      let made = are.made in
      told-from group made.0 (e ∷ es) are.texts made.2 (subst (Each (HasText store)) are.are have)

  told-files : (known : List Revision) (fs : List FileGroup) (rs : List Revision) → AreOfFiles known fs rs → Each (HasText store) rs
      → Each (λ f. Each (TellsText store (FilesAt f.path)) f.entries) fs
  told-files known [] rs are have = tt
  told-files known (f ∷ fs) rs (front, later, same, fit, group, others) have =
      let each = subst (Each (HasText store)) same have in (
        told-group known (FilesAt f.path) f.entries front group (Each-front (HasText store) front later each),
        told-files (known_after_all known front) fs later others (Each-rest (HasText store) front later each),
      )

-- ---- the bundle

-- each entry of a bundle that was read makes the text that is known under its node
pub told : (known : List Revision) (bytes : Bytes) (store : List Revision) (listed : List Arrival) → BringsBundle known bytes store listed → TellsTexts store bytes
told known bytes store listed brings =
    let b = brings.are in
    let have = subst (Each (HasText store)) b.all (subst (λ (s : List Revision). Each (HasText s) brings.revisions) (sym brings.added) (added-texts known 0 brings.revisions b.additions)) in
    let behind = Each-rest (HasText store) b.changesets (b.manifests ++ b.files) have in
    let first = known_after_all known b.changesets in
    record {
      bundle = brings.bundle;
      is = brings.is;
      changesets = told-group store known Changesets (brings.bundle).changesets b.changesets b.are_changesets (Each-front (HasText store) b.changesets (b.manifests ++ b.files) have);
      manifests = told-group store first Manifests (brings.bundle).manifests b.manifests b.are_manifests (Each-front (HasText store) b.manifests b.files behind);
      files = told-files store (known_after_all first b.manifests) (brings.bundle).files b.files b.are_files (Each-rest (HasText store) b.manifests b.files behind);
    }
