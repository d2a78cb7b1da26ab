-- The first place of a byte, as the search says it.
use Rattle.std.proofs.Common.{◌≡◌, ◌<◌, ◌==◌, ℕ, Bool, true, false, List, length, get_or, Option, Some, None, position, refl, arith, ltb, ltb-true, lt-ltb, lt_irrefl}
use Rattle.std.specs.List.{position_or_len}
use Rattle.std.proofs.lemmas.List.Sums.{position_or_len_is}
use Rattle.bstr.specs.Find.{IsFirstByte, is_byte}

fails : (t : Bool) → (t ≡ true → ⊥) → t ≡ false
fails true h = absurd (h refl)
fails false h = refl

not_below : (n : ℕ) → ltb n n ≡ false
not_below n = fails (ltb n n) (λ h. lt_irrefl n (ltb-true n n h))

pub position-first : (b : ℕ) (bytes : List ℕ) (r : Option ℕ) → IsFirstByte (is_byte b) bytes r → r ≡ position (λ x. x == b) bytes
position-first b bytes None h =
    let place : position_or_len (λ x. x == b) bytes ≡ length bytes =
    position_or_len_is (λ x. x == b) bytes (length bytes) 0 (omega arith) (λ k lt. fails (get_or bytes k 0 == b) (h k (omega arith) lt)) (λ lt. absurd (omega (arith, lt))) in
    rw (place, not_below (length bytes)) refl
position-first b bytes (Some k) h =
    let lt : k < length bytes = h.0.high in
    let place : position_or_len (λ x. x == b) bytes ≡ k =
    position_or_len_is (λ x. x == b) bytes k 0 (omega (arith, lt)) (λ i less. fails (get_or bytes i 0 == b) (h.0.before i (omega arith) less)) (λ _. h.1) in
    rw (place, lt-ltb k (length bytes) lt) refl
