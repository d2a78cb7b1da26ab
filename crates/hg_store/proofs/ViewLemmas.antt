-- Manifests in views.
use Rattle.std.proofs.Common.{◌≡◌, ◌<◌, ℕ, Bool, true, false, ltb, List, [], ◌∷◌, length, get_or, Some, None, refl, sym, ap, subst, ◌∙◌, ◌+◌, arith, inl, inr}
use Rattle.std.specs.Prelude.{position, slice_get, option_map}
use Rattle.std.proofs.lemmas.List.Sums.{position_or_len_is}
use Rattle.std.proofs.lemmas.Bool.{cases_lt}
use Rattle.std.proofs.lemmas.Option.{get_or_from_slice_get}
use Rattle.text_model.specs.Text.{Bytes}
use Rattle.text_model.specs.Id.{Id, is_null}
use Rattle.text_model.proofs.Options.{some_is}
use Rattle.hg_model.specs.Revision.{Revision, Manifests, revision_of}
use Rattle.hg_model.specs.Manifest.{ManifestEntry, manifest_text, IsManifestText}
use Rattle.hg_model.proofs.ManifestLemmas.{one_manifest}
use Rattle.hg_store.specs.Known.{AreAdded, manifest_text_of}
use Rattle.hg_store.specs.Views.{IsManifestOf}
use Rattle.hg_store.proofs.Found.{found, not_null}

-- a manifest that is known has its text: no revision has the null id
pub text-there : (known : List Revision) (node : Id) (r : Revision) → AreAdded known → revision_of known Manifests node ≡ Some r → manifest_text_of known node ≡ Some r.text
text-there known node r added at =
    let f = found known Manifests node r added at in
    let some : is_null node ≡ false = ap is_null (sym f.node_is) ∙ not_null f.before r f.added in
    rw some (ap (option_map (λ (x : Revision). x.text)) at)

-- the null id has the empty manifest
pub null-has_none : (known : List Revision) (node : Id) (entries : List ManifestEntry) → is_null node ≡ true → entries ≡ [] → IsManifestOf known node entries
unfolding manifest_text
null-has_none known node entries null none =
    subst (IsManifestOf known node) (sym none) (record { text = []; is_held = rw null refl; spells = ((tt, refl), refl) })

-- a node has one manifest
pub one-list : (known : List Revision) (node : Id) (es fs : List ManifestEntry) → IsManifestOf known node es → IsManifestOf known node fs → es ≡ fs
one-list known node es fs a b = one_manifest a.text es fs a.spells (subst (λ (t : Bytes). IsManifestText t fs) (some_is (sym b.is_held ∙ a.is_held)) b.spells)

module _ {X : Type 0} (test : X → Bool) (xs : List X) where
  -- the first place that passes
  pub position-first : (i : ℕ) (d : X) → i < length xs → test (get_or xs i d) ≡ true → ((k : ℕ) → k < i → test (get_or xs k d) ≡ false) → position test xs ≡ Some i
  position-first i d within at before =
      let is = position_or_len_is test xs i d (omega (arith, within)) before (λ _. at) in
      rw (is) (rw (lt_true i (length xs) within) refl)
    where
      lt_true : (a b : ℕ) → a < b → ltb a b ≡ true
      lt_true a b h = grind (arith, h)

  pub position-none : ((k : ℕ) (d : X) → k < length xs → test (get_or xs k d) ≡ false) → position test xs ≡ None
  position-none before = by xs refl
    where
      by : (ys : List X) → xs ≡ ys → position test xs ≡ None
      by [] e = ap (position test) e
      by (y ∷ ys) e =
          let is = position_or_len_is test xs (length xs) y (omega arith) (λ k. before k y) (λ h. absurd (omega (arith, h))) in
          rw (is) (rw (lt_false (length xs)) refl)
        where
          lt_false : (a : ℕ) → ltb a a ≡ false
          lt_false a = grind arith

  -- one place more that fails
  pub one_more : (i : ℕ) (e : X) → slice_get xs i ≡ Some e → test e ≡ false → ((k : ℕ) (d : X) → k < i → test (get_or xs k d) ≡ false)
      → (k : ℕ) (d : X) → k < i + 1 → test (get_or xs k d) ≡ false
  one_more i e at fails before k d below =
      elim (cases_lt k i) [
        | inl lt ↦ before k d lt
        | inr ge ↦ let same : k ≡ i = omega (arith, below, ge) in
            ap (λ (n : ℕ). test (get_or xs n d)) same ∙ ap test (get_or_from_slice_get xs i e d at) ∙ fails
      ]
