-- Paths that are put into a set.
use Rattle.std.proofs.Common.{◌≡◌, ◌≢◌, ◌++◌, ℕ, Bool, true, false, List, [], ◌∷◌, Some, refl, sym, ap, ◌∙◌, append-nil}
use Rattle.std.specs.Prelude.{AllPairs, slice_get, option_map, bytes_eq}
use Rattle.std.specs.List.{list_any, IsDistinct, AllByRecursion}
use Rattle.std.specs.Global.{Vec}
use Rattle.std.proofs.lemmas.Option.{slice_get-map}
use Rattle.std.proofs.lemmas.Map.Made.{AllPairs-from_IsDistinct}
use Rattle.std.proofs.lemmas.Slice.Eq.{bytes_eq-Decides}
use Rattle.indexmap.specs.IndexSet.{insert_key}
use Rattle.text_model.specs.Text.{Bytes}
use Rattle.hg_store.specs.Groups.{paths_in, AreGrown}

-- the path at a number is that of the key there
pub path-at : (keys : List (Vec ℕ)) (i : ℕ) (k : Vec ℕ) (path : Bytes) → slice_get keys i ≡ Some k → bytes_eq path k.items ≡ true → slice_get (paths_in keys) i ≡ Some path
path-at keys i k path at same =
    slice_get-map (λ (x : Vec ℕ). x.items) keys i ∙ ap (option_map (λ (x : Vec ℕ). x.items)) at ∙ ap Some (sym ((bytes_eq-Decides path k.items).0 same))

module _ (eq : Vec ℕ → Vec ℕ → Bool) (by_items : (a b : Vec ℕ) → eq a b ≡ bytes_eq a.items b.items) where
  no_equal : (k : Vec ℕ) (ks : List (Vec ℕ)) → AllByRecursion (λ y. eq k y ≡ false) ks → AllByRecursion (λ y. bytes_eq k.items y ≡ false) (paths_in ks)
  no_equal k [] h = tt
  no_equal k (x ∷ xs) h = (sym (by_items k x) ∙ h.0, no_equal k xs h.1)

  distinct : (ks : List (Vec ℕ)) → IsDistinct eq ks → IsDistinct bytes_eq (paths_in ks)
  unfolding IsDistinct
  distinct [] h = tt
  distinct (k ∷ ks) h = (no_equal k ks h.0, distinct ks h.1)

  push : (ks : List (Vec ℕ)) (k : Vec ℕ) → paths_in (ks ++ k ∷ []) ≡ paths_in ks ++ k.items ∷ []
  push [] k = refl
  push (x ∷ xs) k = ap (λ (l : List Bytes). x.items ∷ l) (push xs k)

  -- a key that is inserted stays, or comes last
  pub grown-by_insert : (ks : List (Vec ℕ)) (k : Vec ℕ) (new : List (Vec ℕ)) → new ≡ insert_key eq ks k → IsDistinct eq new → AreGrown (paths_in ks) (paths_in new)
  grown-by_insert ks k new is h = by (list_any (eq k) ks) refl
    where
      apart : AllPairs (λ x y. x ≢ y) (paths_in new)
      apart = AllPairs-from_IsDistinct bytes_eq-Decides (paths_in new) (distinct new h)

      by : (t : Bool) → list_any (eq k) ks ≡ t → AreGrown (paths_in ks) (paths_in new)
      by true t = record { more = []; whole = ap paths_in (is ∙ rw t refl) ∙ sym (append-nil (paths_in ks)); apart = λ _. apart }
      by false t = record { more = k.items ∷ []; whole = ap paths_in (is ∙ rw t refl) ∙ push ks k; apart = λ _. apart }
