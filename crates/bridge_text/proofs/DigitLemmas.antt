-- The bytes that pairs of hex digits name, one by one.
use Rattle.std.proofs.Common.{◌≡◌, ◌<◌, ◌+◌, ◌*◌, ◌%◌, ℕ, zero, suc, [], ◌∷◌, length, take, slice_index_or, slice_set, refl, sym, ap, ◌∙◌, arith}
use Rattle.std.proofs.Math.Seq.{take-suc}
use Rattle.std.proofs.lemmas.List.{take_more_set}
use Rattle.text_model.specs.Text.{Bytes}
use Rattle.text_model.specs.Id.{digit_value, bytes_of_digits}

pub length-bytes_of_digits : (text : Bytes) → length text % 2 ≡ 0 → 2 * length (bytes_of_digits text) ≡ length text
length-bytes_of_digits [] even = refl
length-bytes_of_digits (high ∷ []) even = absurd (omega (arith, even))
length-bytes_of_digits (high ∷ low ∷ rest) even = omega (arith, length-bytes_of_digits rest (omega (arith, even)))

pub byte_of_digits : (text : Bytes) (i : ℕ) → 2 * i + 1 < length text
    → slice_index_or (bytes_of_digits text) i 0 ≡ digit_value (slice_index_or text (2 * i) 0) * 16 + digit_value (slice_index_or text (2 * i + 1) 0)
byte_of_digits [] i lt = absurd (omega (arith, lt))
byte_of_digits (high ∷ []) i lt = absurd (omega (arith, lt))
byte_of_digits (high ∷ low ∷ rest) zero lt = refl
byte_of_digits (high ∷ low ∷ rest) (suc i) lt =
    let first : 2 * suc i ≡ suc (suc (2 * i)) = omega arith in
    let second : 2 * suc i + 1 ≡ suc (suc (2 * i + 1)) = omega arith in
    rw (second, first) (byte_of_digits rest i (omega (arith, lt)))

-- one byte more was put behind those that stand there
pub one_more : (text bytes : Bytes) (i value : ℕ) → length text % 2 ≡ 0 → 2 * i + 1 < length text → i < length bytes
    → take i bytes ≡ take i (bytes_of_digits text) → value ≡ digit_value (slice_index_or text (2 * i) 0) * 16 + digit_value (slice_index_or text (2 * i + 1) 0)
    → take (i + 1) (slice_set bytes i value) ≡ take (i + 1) (bytes_of_digits text)
one_more text bytes i value even lt within so_far is =
    let long : i < length (bytes_of_digits text) = omega (arith, lt, length-bytes_of_digits text even) in
    let here : value ≡ slice_index_or (bytes_of_digits text) i 0 = is ∙ sym (byte_of_digits text i lt) in
    let next : i + 1 ≡ suc i = omega arith in
    take_more_set bytes i value within ∙ rw (so_far, here) (sym (ap (λ n. take n (bytes_of_digits text)) next ∙ take-suc (bytes_of_digits text) i 0 long))
