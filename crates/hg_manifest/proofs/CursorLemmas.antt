-- The entry at a place of a list whose paths rise is the one that its path finds, and what is found stands in the list.
use Rattle.std.proofs.Common.{◌≡◌, ℕ, zero, suc, Bool, true, false, List, [], ◌∷◌, map, Some, refl, sym, ap, subst, ◌∙◌, inl, inr, bytes_eq, find}
use Rattle.std.specs.Prelude.{IsTrue, slice_get}
use Rattle.std.proofs.lemmas.Slice.Eq.{bytes_eq-Decides}
use Rattle.text_model.specs.Lists.{rises}
use Rattle.text_model.specs.Text.{Bytes, is_below}
use Rattle.text_model.specs.Id.{Id}
use Rattle.text_model.proofs.Options.{some_is, none_some}
use Rattle.text_model.proofs.Elements.{each_at}
use Rattle.text_model.proofs.Search.{IsRising, rising, apart}
use Rattle.text_model.proofs.TestLemmas.{bytes_eq-is, bytes_eq-other}
use Rattle.hg_model.specs.Manifest.{ManifestEntry}
use Rattle.hg_manifest.specs.Lines.{HasLine}

module _ {X : Type 0} (path : X → Bytes) where
  found-there : (xs : List X) (i : ℕ) (x : X) → IsRising path xs → slice_get xs i ≡ Some x → Some x ≡ find (λ y. bytes_eq (path y) (path x)) xs
  found-there [] i x h at = absurd (none_some at)
  found-there (y ∷ ys) zero x h at = subst (λ (z : X). Some z ≡ find (λ w. bytes_eq (path w) (path z)) (y ∷ ys)) (some_is at) (rw ((bytes_eq-Decides (path y) (path y)).1 refl) refl)
  found-there (y ∷ ys) (suc i) x h at =
      let other = bytes_eq-other (path y) (path x) (apart (path y) (path x) (each_at (λ z. is_below (path y) (path z) ≡ true) ys i x at h.0)) in
      rw (other) (found-there ys i x h.1 at)

  pub find-there : (xs : List X) (i : ℕ) (x : X) → IsTrue (rises is_below (map path xs)) → slice_get xs i ≡ Some x → Some x ≡ find (λ y. bytes_eq (path y) (path x)) xs
  find-there xs i x h at = found-there xs i x (rising path xs h) at

-- ---- a line with the path and the node

pub line-found : (lines : List ManifestEntry) (path : Bytes) (node : Id) (o : ManifestEntry) → Some o ≡ find (λ e. bytes_eq e.path path) lines → bytes_eq o.node node ≡ true → HasLine path node lines
line-found [] path node o at same = absurd (none_some (sym at))
line-found (e ∷ lines) path node o at same = by (bytes_eq e.path path) refl (line-found lines path node o)
  where
    by : (t : Bool) → bytes_eq e.path path ≡ t → (Some o ≡ find (λ x. bytes_eq x.path path) lines → bytes_eq o.node node ≡ true → HasLine path node lines) → HasLine path node (e ∷ lines)
    by true t later =
        let is : o ≡ e = some_is (at ∙ rw t refl) in
        inl (bytes_eq-is e.path path t, bytes_eq-is e.node node (ap (λ (x : ManifestEntry). bytes_eq x.node node) (sym is) ∙ same))
    by false t later = inr (later (at ∙ rw t refl) same)
