-- Ids and their hex digits.
use Rattle.std.proofs.Common.{◌≡◌, ◌<◌, ◌+◌, ◌*◌, ◌/◌, ◌%◌, ◌==◌, eqb-true, ℕ, zero, suc, Bool, true, false, [], ◌∷◌, length, replicate, Some, Ok, refl, sym, ap, subst, ◌∙◌, arith}
use Rattle.std.specs.Prelude.{if◌then◌else◌, nat_le, slice_index}
use Rattle.std.specs.List.{list_all}
use Rattle.std.proofs.lemmas.Bool.Decides.{nat_tests}
use Rattle.hex.specs.Hex.{hex_digit_value, value_at, digit_or_error, pair_value, encode_with, lower_digits, decode_pairs, decode_sized}
use Rattle.hex.proofs.HexLemmas.{length-encode_with}
use Rattle.text_model.proofs.TestLemmas.{both, below, below-at}
use Rattle.text_model.specs.Text.{Bytes, IsBytes}
use Rattle.text_model.specs.Cuts.{Lacks}
use Rattle.text_model.specs.Id.{Id, IsId, null, hex, is_lower_digit, is_hex_id, digit_value, bytes_of_digits, id_of_hex}
use Rattle.text_model.proofs.Options.{some_is, none_some}

hex_digit_value-lower : (c : ℕ) → is_lower_digit c ≡ true → hex_digit_value c ≡ Some (digit_value c)
hex_digit_value-lower c h = grind (arith, nat_tests)

two_values : (i high low : ℕ) → is_lower_digit high ≡ true → is_lower_digit low ≡ true → pair_value high low i ≡ Ok (digit_value high * 16 + digit_value low)
two_values i high low h l =
    let a : value_at high i ≡ Ok (digit_value high) = ap (digit_or_error high i) (hex_digit_value-lower high h) in
    let b : value_at low (i + 1) ≡ Ok (digit_value low) = ap (digit_or_error low (i + 1)) (hex_digit_value-lower low l) in
    rw (a, b) refl

-- pairs of lower case digits decode as the bytes that they name
pub decode_pairs-lower : (i : ℕ) (text : Bytes) → length text % 2 ≡ 0 → list_all is_lower_digit text ≡ true → decode_pairs i text ≡ Ok (bytes_of_digits text)
unfolding decode_pairs
decode_pairs-lower i [] even h = refl
decode_pairs-lower i (high ∷ []) even h = absurd (omega (arith, even))
decode_pairs-lower i (high ∷ low ∷ rest) even h =
    let first = both (is_lower_digit high) _ h in
    let others = both (is_lower_digit low) _ first.1 in
    rw (two_values i high low first.0 others.0, decode_pairs-lower (i + 2) rest (omega (arith, even)) others.1) refl

-- what the crate `hex` reads of 40 lower case digits
pub decode_sized-hex_id : (text : Bytes) → is_hex_id text ≡ true → decode_sized text 20 ≡ Ok (bytes_of_digits text)
decode_sized-hex_id text h =
    let parts = both (length text == 40) _ h in
    let long : length text ≡ 40 = eqb-true (length text) 40 parts.0 in
    rw long (decode_pairs-lower 0 text (omega (arith, long)) parts.1)

pub id_of_hex-some : (text : Bytes) → is_hex_id text ≡ true → id_of_hex text ≡ Some (bytes_of_digits text)
id_of_hex-some text h = rw h refl

-- ---- both ways

-- the digit of a value
glyph : ℕ → ℕ
glyph v = if nat_le v 9 then v + 48 else v + 87

digit_at : (v : ℕ) → v < 16 → slice_index lower_digits v ≡ glyph v
unfolding below glyph
digit_at v lt = eqb-true (slice_index lower_digits v) (glyph v) (below-at 16 (λ i. slice_index lower_digits i == glyph i) refl v lt)

is_lower_digit-glyph : (v : ℕ) → v < 16 → is_lower_digit (glyph v) ≡ true
unfolding glyph
is_lower_digit-glyph v lt = grind (arith, lt, nat_tests)

digit_value-glyph : (v : ℕ) → v < 16 → digit_value (glyph v) ≡ v
unfolding glyph
digit_value-glyph v lt = grind (arith, lt, nat_tests)

digit_value-lt : (c : ℕ) → is_lower_digit c ≡ true → digit_value c < 16
digit_value-lt c h = grind (arith, h, nat_tests)

glyph-digit_value : (c : ℕ) → is_lower_digit c ≡ true → glyph (digit_value c) ≡ c
unfolding glyph
glyph-digit_value c h = grind (arith, h, nat_tests)

pub length-hex : (id : Id) → length (hex id) ≡ 2 * length id
length-hex id = length-encode_with lower_digits id

lower-hex : (bytes : Bytes) → IsBytes bytes → list_all is_lower_digit (hex bytes) ≡ true
unfolding encode_with
lower-hex [] h = refl
lower-hex (b ∷ bytes) h =
    let high : is_lower_digit (slice_index lower_digits (b / 16)) ≡ true = ap is_lower_digit (digit_at (b / 16) (omega (arith, h.0))) ∙ is_lower_digit-glyph (b / 16) (omega (arith, h.0)) in
    let low : is_lower_digit (slice_index lower_digits (b % 16)) ≡ true = ap is_lower_digit (digit_at (b % 16) (omega (arith, h.0))) ∙ is_lower_digit-glyph (b % 16) (omega (arith, h.0)) in
    rw (high, low, lower-hex bytes h.1) refl

bytes_of_digits-hex : (bytes : Bytes) → IsBytes bytes → bytes_of_digits (hex bytes) ≡ bytes
unfolding encode_with
bytes_of_digits-hex [] h = refl
bytes_of_digits-hex (b ∷ bytes) h =
    let high : digit_value (slice_index lower_digits (b / 16)) ≡ b / 16 = ap digit_value (digit_at (b / 16) (omega (arith, h.0))) ∙ digit_value-glyph (b / 16) (omega (arith, h.0)) in
    let low : digit_value (slice_index lower_digits (b % 16)) ≡ b % 16 = ap digit_value (digit_at (b % 16) (omega (arith, h.0))) ∙ digit_value-glyph (b % 16) (omega (arith, h.0)) in
    let whole : b / 16 * 16 + b % 16 ≡ b = omega arith in
    rw (high, low, whole, bytes_of_digits-hex bytes h.1) refl

pub is_hex_id-hex : (id : Id) → IsId id → is_hex_id (hex id) ≡ true
is_hex_id-hex id is =
    let long : length (hex id) ≡ 40 = omega (arith, length-hex id, is.0) in
    rw (long, lower-hex id is.1) refl

-- the digits of an id read as the id
pub id_of_hex-hex : (id : Id) → IsId id → id_of_hex (hex id) ≡ Some id
id_of_hex-hex id is = id_of_hex-some (hex id) (is_hex_id-hex id is) ∙ ap (λ (x : Bytes). Some x) (bytes_of_digits-hex id is.1)

-- what pairs of digits name
record Names (text : Bytes) : Type 0 where
  long : 2 * length (bytes_of_digits text) ≡ length text
  bytes : IsBytes (bytes_of_digits text)
  shows : hex (bytes_of_digits text) ≡ text

names : (text : Bytes) → length text % 2 ≡ 0 → list_all is_lower_digit text ≡ true → Names text
unfolding encode_with
names [] even h = record { long = refl; bytes = tt; shows = refl }
names (high ∷ []) even h = absurd (omega (arith, even))
names (high ∷ low ∷ rest) even h =
    let first = both (is_lower_digit high) _ h in
    let second = both (is_lower_digit low) _ first.1 in
    let others = names rest (omega (arith, even)) second.1 in
    let x : digit_value high < 16 = digit_value-lt high first.0 in
    let y : digit_value low < 16 = digit_value-lt low second.0 in
    let front : (digit_value high * 16 + digit_value low) / 16 ≡ digit_value high = omega (arith, y) in
    let end : (digit_value high * 16 + digit_value low) % 16 ≡ digit_value low = omega (arith, y) in
    let a : slice_index lower_digits (digit_value high) ≡ high = digit_at (digit_value high) x ∙ glyph-digit_value high first.0 in
    let b : slice_index lower_digits (digit_value low) ≡ low = digit_at (digit_value low) y ∙ glyph-digit_value low second.0 in
    record {
      long = omega (arith, others.long);
      bytes = (omega (arith, x, y), others.bytes);
      shows = rw (front, end, a, b, others.shows) refl;
    }

-- what reads as an id is its digits
pub id_of_hex-takes : (text : Bytes) (id : Id) → id_of_hex text ≡ Some id → IsId id × (text ≡ hex id)
id_of_hex-takes text id e = by (is_hex_id text) refl
  where
    by : (t : Bool) → is_hex_id text ≡ t → IsId id × (text ≡ hex id)
    by true t =
        let parts = both (length text == 40) _ t in
        let long : length text ≡ 40 = eqb-true (length text) 40 parts.0 in
        let it = names text (omega (arith, long)) parts.1 in
        let is : bytes_of_digits text ≡ id = some_is (sym (rw t refl) ∙ e) in
        subst (λ (x : Bytes). IsId x × (text ≡ hex x)) is ((omega (arith, long, it.long), it.bytes), sym it.shows)
    by false t = absurd (none_some (sym (rw t refl) ∙ e))

-- ids with the same digits are one
pub hex-injective : (id other : Id) → IsId id → IsId other → hex id ≡ hex other → id ≡ other
hex-injective id other is os e = some_is (sym (id_of_hex-hex id is) ∙ ap id_of_hex e ∙ id_of_hex-hex other os)

-- a byte below the digits stands nowhere in them, as NUL, LF and the space
pub hex-lacks : (b : ℕ) (bytes : Bytes) → b < 48 → IsBytes bytes → Lacks b (hex bytes)
hex-lacks b bytes lt h = by (hex bytes) (lower-hex bytes h)
  where
    by : (text : Bytes) → list_all is_lower_digit text ≡ true → Lacks b text
    by [] all = tt
    by (c ∷ text) all =
        let first = both (is_lower_digit c) _ all in
        (λ e. above c first.0 (omega (arith, e, lt)), by text first.1)
      where
        above : (d : ℕ) → is_lower_digit d ≡ true → d < 48 → ⊥
        above d is less = grind (arith, is, less, nat_tests)

zeros : (n : ℕ) → IsBytes (replicate n 0)
zeros zero = tt
zeros (suc n) = (omega arith, zeros n)

-- the null id is an id
pub IsId-null : IsId null
IsId-null = (refl, zeros 20)
