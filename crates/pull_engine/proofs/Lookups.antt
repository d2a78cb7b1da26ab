-- What stands in a list is found there.
use Rattle.std.proofs.Common.{◌≡◌, ◌<◌, ℕ, suc, Bool, true, false, true≢false, List, [], ◌∷◌, length, Some, refl, sym, ap, ◌∙◌, inl, inr, arith}
use Rattle.std.specs.Prelude.{slice_get}
use Rattle.std.specs.List.{find}
use Rattle.std.proofs.lemmas.Slice.Eq.{bytes_eq-Decides}
use Rattle.text_model.specs.Lists.{In}
use Rattle.git_model.specs.Object.{Object, object_at, has_id}
use Rattle.git_model.specs.Tree.{has_distinct}
use Rattle.git_store.specs.Growth.{IsWithin}
use Rattle.git_store.proofs.FindLemmas.{find-passes, find-among}
use Rattle.git_store.proofs.Places.{found-one}
use Rattle.state_model.specs.Kept.{ids_of}

-- where one passes, one is found
pub some-found : {X : Type 0} (p : X → Bool) (xs : List X) (x : X) → In x xs → p x ≡ true → (y : X) × (find p xs ≡ Some y)
some-found p [] x i h = absurd i
some-found {X = X} p (z ∷ xs) x i h = by (p z) refl i (some-found p xs x)
  where
    by : (t : Bool) → p z ≡ t → In x (z ∷ xs) → (In x xs → p x ≡ true → (y : X) × (find p xs ≡ Some y)) → (y : X) × (find p (z ∷ xs) ≡ Some y)
    by true e j later = (z, rw e refl)
    by false e (inl is) later = absurd (true≢false (sym h ∙ ap p is ∙ e))
    by false e (inr j) later = let f = later j h in (f.0, rw e f.1)

-- where nothing is lost, what was found is found
pub within-of : (old new : List Object) → has_distinct (ids_of new) ≡ true → ((o : Object) → In o old → In o new) → IsWithin old new
within-of old new distinct more id o at =
    let same : id ≡ o.id = (bytes_eq-Decides id o.id).0 (find-passes (has_id id) old o at) in
    ap (object_at new) same ∙ found-one new distinct o (more o (find-among (has_id id) old o at))

-- an element stands at a place
pub at-place : {X : Type 0} (xs : List X) (x : X) → In x xs → (i : ℕ) × (i < length xs) × (slice_get xs i ≡ Some x)
at-place [] x i = absurd i
at-place (y ∷ xs) x (inl is) = (0, omega arith, ap (λ z. Some z) (sym is))
at-place (y ∷ xs) x (inr j) = let r = at-place xs x j in (suc r.0, omega (arith, r.1), r.2)
