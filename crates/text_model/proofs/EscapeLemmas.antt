-- Escapes: each is read in one way, and a text is the escape of nothing exactly where a byte can't stand.
use Rattle.std.proofs.Common.{◌≡◌, ◌≢◌, ◌⊎◌, ◌<◌, ◌≤◌, ◌+◌, ◌-◌, ◌*◌, ◌/◌, ◌%◌, ◌&&◌, ◌==◌, ℕ, zero, suc, Bool, true, false, [], ◌∷◌, ◌++◌, length, Option, Some, None, refl, sym, ap, subst, ◌∙◌, arith, eqb-true, leb-true, append_assoc, append-nil, length-append, inl, inr}
use Rattle.std.specs.Prelude.{nat_le, if◌then◌else◌, slice_index, ⊤}
use Rattle.std.proofs.lemmas.List.Concat.{flat_map-append}
use Rattle.std.proofs.lemmas.Bool.Decides.{nat_tests}
use Rattle.hex.specs.Hex.{upper_digits}
use Rattle.text_model.specs.Lists.{Each}
use Rattle.text_model.specs.Cuts.{Lacks}
use Rattle.text_model.specs.Text.{Bytes, IsBytes}
use Rattle.text_model.specs.Escape.{is_plain, escaped_byte, escape, IsEscapeOf, IsBadEscapeAt}
use Rattle.text_model.specs.Unescape.{digit_value, hex_byte, after_percent, first_byte}
use Rattle.text_model.specs.Items.{ReadsItems, Follow}
use Rattle.text_model.proofs.TestLemmas.{both, below, below-at}
use Rattle.text_model.proofs.EachLemmas.{Each-append, Each-push, Each-weaker}
use Rattle.text_model.proofs.ItemLemmas.{one_list, continues}
use Rattle.text_model.proofs.Options.{some_is, none_some}

-- ---- the sixteen digits

-- the digit of a value
glyph : ℕ → ℕ
glyph v = if nat_le v 9 then v + 48 else v + 55

digit_at : (v : ℕ) → v < 16 → slice_index upper_digits v ≡ glyph v
unfolding below glyph
digit_at v lt = eqb-true (slice_index upper_digits v) (glyph v) (below-at 16 (λ i. slice_index upper_digits i == glyph i) refl v lt)

digit_value-glyph : (v : ℕ) → v < 16 → digit_value (glyph v) ≡ Some v
unfolding glyph
digit_value-glyph v lt = grind (arith, lt, nat_tests)

digit_value-takes : (c v : ℕ) → digit_value c ≡ Some v → (v < 16) × (glyph v ≡ c)
unfolding glyph
digit_value-takes c v e = by (nat_le 48 c && nat_le c 57) refl (nat_le 65 c && nat_le c 70) refl
  where
    by : (s : Bool) → (nat_le 48 c && nat_le c 57) ≡ s → (t : Bool) → (nat_le 65 c && nat_le c 70) ≡ t → (v < 16) × (glyph v ≡ c)
    by true s t f =
        let p = both (nat_le 48 c) (nat_le c 57) s in
        let is : c - 48 ≡ v = some_is (sym (rw s refl) ∙ e) in
        let low = leb-true 48 c p.0 in
        let high = leb-true c 57 p.1 in
        (omega (arith, is, low, high), grind (arith, is, low, high, nat_tests))
    by false s true t =
        let p = both (nat_le 65 c) (nat_le c 70) t in
        let is : c - 65 + 10 ≡ v = some_is (sym (rw (s, t) refl) ∙ e) in
        let low = leb-true 65 c p.0 in
        let high = leb-true c 70 p.1 in
        (omega (arith, is, low, high), grind (arith, is, low, high, nat_tests))
    by false s false t = absurd (none_some (sym (rw (s, t) refl) ∙ e))

-- ---- the two digits of a byte

digits_of_byte : (b : ℕ) → b < 256 → is_plain b ≡ false → hex_byte (slice_index upper_digits (b / 16)) (slice_index upper_digits (b % 16)) ≡ Some b
digits_of_byte b lt plain =
    let high : digit_value (slice_index upper_digits (b / 16)) ≡ Some (b / 16) = ap digit_value (digit_at (b / 16) (omega (arith, lt))) ∙ digit_value-glyph (b / 16) (omega (arith, lt)) in
    let low : digit_value (slice_index upper_digits (b % 16)) ≡ Some (b % 16) = ap digit_value (digit_at (b % 16) (omega (arith, lt))) ∙ digit_value-glyph (b % 16) (omega (arith, lt)) in
    let whole : b / 16 * 16 + b % 16 ≡ b = omega arith in
    rw (high, low, whole, plain) refl

-- what the two digits of a byte that is not plain are
record IsDigitsOf (high low b : ℕ) : Type 0 where
  lt : b < 256
  plain : is_plain b ≡ false
  high_is : slice_index upper_digits (b / 16) ≡ high
  low_is : slice_index upper_digits (b % 16) ≡ low

hex_byte-takes : (high low b : ℕ) → hex_byte high low ≡ Some b → IsDigitsOf high low b
hex_byte-takes high low b e = by (digit_value high) refl (digit_value low) refl
  where
    by : (s : Option ℕ) → digit_value high ≡ s → (t : Option ℕ) → digit_value low ≡ t → IsDigitsOf high low b
    by None s t f = absurd (none_some (sym (rw s refl) ∙ e))
    by (Some h) s None t = absurd (none_some (sym (rw (s, t) refl) ∙ e))
    by (Some h) s (Some l) t = value (is_plain (h * 16 + l)) refl
      where
        value : (p : Bool) → is_plain (h * 16 + l) ≡ p → IsDigitsOf high low b
        value true p = absurd (none_some (sym (rw (s, t, p) refl) ∙ e))
        value false p =
            let is : h * 16 + l ≡ b = some_is (sym (rw (s, t, p) refl) ∙ e) in
            let upper = digit_value-takes high h s in
            let lower = digit_value-takes low l t in
            let front : b / 16 ≡ h = omega (arith, is, lower.0) in
            let end : b % 16 ≡ l = omega (arith, is, lower.0) in
            record {
              lt = omega (arith, is, upper.0, lower.0);
              plain = sym (ap is_plain is) ∙ p;
              high_is = ap (slice_index upper_digits) front ∙ digit_at h upper.0 ∙ upper.1;
              low_is = ap (slice_index upper_digits) end ∙ digit_at l lower.0 ∙ lower.1;
            }

-- ---- the first byte

some_pair_is : (x y : ℕ × Bytes) → Some x ≡ Some y → x ≡ y
some_pair_is x y h = cc

plain_byte-lt : (b : ℕ) → is_plain b ≡ true → b < 256
plain_byte-lt b h = grind (arith, h, nat_tests)

-- each byte has an escape
pub escaped_byte-some : (b : ℕ) → 0 < length (escaped_byte b)
escaped_byte-some b = by (is_plain b) refl
  where
    by : (t : Bool) → is_plain b ≡ t → 0 < length (escaped_byte b)
    by true t = rw t (omega arith)
    by false t = rw t (omega arith)

-- what is read stands there
pub first_byte-takes : (text : Bytes) (b : ℕ) (rest : Bytes) → first_byte text ≡ Some (b, rest) → (text ≡ escaped_byte b ++ rest) × (b < 256)
first_byte-takes [] b rest e = absurd (none_some e)
first_byte-takes (c ∷ text) b rest e = by (is_plain c) refl (c == 37) refl
  where
    digits : (text : Bytes) → c ≡ 37 → after_percent text ≡ Some (b, rest) → (c ∷ text ≡ escaped_byte b ++ rest) × (b < 256)
    digits [] is a = absurd (none_some a)
    digits (high ∷ []) is a = absurd (none_some a)
    digits (high ∷ low ∷ after) is a = read (hex_byte high low) refl
      where
        read : (r : Option ℕ) → hex_byte high low ≡ r → (c ∷ high ∷ low ∷ after ≡ escaped_byte b ++ rest) × (b < 256)
        read None r = absurd (none_some (sym (rw r refl) ∙ a))
        read (Some x) r =
            let same : (x, after) ≡ (b, rest) = some_pair_is (x, after) (b, rest) (sym (rw r refl) ∙ a) in
            let it = hex_byte-takes high low b (r ∙ ap (λ (p : ℕ × Bytes). Some p.0) same) in
            let tail : after ≡ rest = ap (λ (p : ℕ × Bytes). p.1) same in
            (rw (it.plain, it.high_is, it.low_is, is, tail) refl, it.lt)

    by : (s : Bool) → is_plain c ≡ s → (t : Bool) → (c == 37) ≡ t → (c ∷ text ≡ escaped_byte b ++ rest) × (b < 256)
    by true s t f =
        let same : (c, text) ≡ (b, rest) = some_pair_is (c, text) (b, rest) (sym (rw s refl) ∙ e) in
        let is : c ≡ b = ap (λ (p : ℕ × Bytes). p.0) same in
        let tail : text ≡ rest = ap (λ (p : ℕ × Bytes). p.1) same in
        (rw (← is, s, tail) refl, subst (λ (x : ℕ). x < 256) is (plain_byte-lt c s))
    by false s true t = digits text (eqb-true c 37 t) (sym (rw (s, t) refl) ∙ e)
    by false s false t = absurd (none_some (sym (rw (s, t) refl) ∙ e))

-- what stands there is read
pub first_byte-again : (b : ℕ) (rest : Bytes) → b < 256 → first_byte (escaped_byte b ++ rest) ≡ Some (b, rest)
first_byte-again b rest lt = by (is_plain b) refl
  where
    by : (s : Bool) → is_plain b ≡ s → first_byte (escaped_byte b ++ rest) ≡ Some (b, rest)
    by true s = rw (s, s) refl
    by false s = rw (s, digits_of_byte b lt s) refl

-- escapes are bytes read one after the other, each of which may come anywhere
stays : Unit {0} → ℕ → Unit {0}
stays s b = s

Anywhere : Unit {0} → ℕ → Type 0
Anywhere s b = ⊤

reads : ReadsItems escaped_byte (λ b. b < 256) stays Anywhere first_byte
reads = record { takes = λ text b rest is e. first_byte-takes text b rest e; again = first_byte-again; ends = refl }

-- bytes have one escape, and a text is the escape of one list of bytes
pub escape-injective : (raw other : Bytes) → IsBytes raw → IsBytes other → escape raw ≡ escape other → raw ≡ other
escape-injective raw other r o e = one_list escaped_byte (λ b. b < 256) stays Anywhere first_byte reads raw other r o e

-- where nothing is read, no byte's escape begins the rest
pub no_byte-from_none : (rest : Bytes) → first_byte rest ≡ None → (b : ℕ) (after : Bytes) → b < 256 → rest ≢ escaped_byte b ++ after
no_byte-from_none rest none b after lt e = none_some (sym none ∙ ap first_byte e ∙ first_byte-again b after lt)

-- a text with a byte that can't stand where it stands is the escape of nothing
pub bad_escape-is_no_escape : (text raw : Bytes) (place : ℕ) → IsEscapeOf text raw → IsBadEscapeAt text place → ⊥
unfolding Anywhere
bad_escape-is_no_escape text raw place is bad =
    let c = continues escaped_byte (λ b. b < 256) stays Anywhere first_byte reads tt bad.before raw bad.rest bad.bytes is.0 (anywhere raw) (sym is.1 ∙ bad.splits) in
    ended bad.rest c.ys bad.more bad.bad c.each c.rest_is
  where
    anywhere : (xs : Bytes) → Follow escaped_byte (λ b. b < 256) stays Anywhere tt xs
    anywhere [] = tt
    anywhere (x ∷ xs) = (tt, anywhere xs)

    ended : (rest ys : Bytes) → rest ≢ [] → ((b : ℕ) (after : Bytes) → b < 256 → rest ≢ escaped_byte b ++ after) → IsBytes ys → rest ≡ escape ys → ⊥
    ended rest [] more bad each is = more is
    ended rest (y ∷ ys) more bad each is = bad y (escape ys) each.0 is

-- there is one such place
pub bad_escape-place_is : (text : Bytes) (place other : ℕ) → IsBadEscapeAt text place → IsBadEscapeAt text other → place ≡ other
bad_escape-place_is text place other p o = p.at ∙ by p.before o.before p.rest o.rest p.bytes o.bytes (sym p.splits ∙ o.splits) p.bad o.bad ∙ sym o.at
  where
    by : (xs ys r s : Bytes) → IsBytes xs → IsBytes ys → escape xs ++ r ≡ escape ys ++ s
        → ((b : ℕ) (after : Bytes) → b < 256 → r ≢ escaped_byte b ++ after) → ((b : ℕ) (after : Bytes) → b < 256 → s ≢ escaped_byte b ++ after)
        → length (escape xs) ≡ length (escape ys)
    by [] [] r s hx hy e br bs = refl
    by [] (y ∷ ys) r s hx hy e br bs = absurd (br y (escape ys ++ s) hy.0 (e ∙ append_assoc (escaped_byte y) (escape ys) s))
    by (x ∷ xs) [] r s hx hy e br bs = absurd (bs x (escape xs ++ r) hx.0 (sym e ∙ append_assoc (escaped_byte x) (escape xs) r))
    by (x ∷ xs) (y ∷ ys) r s hx hy e br bs =
        let whole : escaped_byte x ++ (escape xs ++ r) ≡ escaped_byte y ++ (escape ys ++ s) =
        sym (append_assoc (escaped_byte x) (escape xs) r) ∙ e ∙ append_assoc (escaped_byte y) (escape ys) s in
        let same : (x, escape xs ++ r) ≡ (y, escape ys ++ s) =
        some_pair_is (x, escape xs ++ r) (y, escape ys ++ s) (sym (first_byte-again x (escape xs ++ r) hx.0) ∙ ap first_byte whole ∙ first_byte-again y (escape ys ++ s) hy.0) in
        let head : x ≡ y = ap (λ (q : ℕ × Bytes). q.0) same in
        let tail : escape xs ++ r ≡ escape ys ++ s = ap (λ (q : ℕ × Bytes). q.1) same in
        length-append (escaped_byte x) (escape xs)
        ∙ (λ i. length (escaped_byte (head i)) + by xs ys r s hx.1 hy.1 tail br bs i)
        ∙ sym (length-append (escaped_byte y) (escape ys))

-- ---- the bytes of an escape

glyph-printable : (v : ℕ) → v < 16 → (33 ≤ glyph v) × (glyph v ≤ 126)
unfolding glyph
glyph-printable v lt = grind (arith, lt, nat_tests)

digit-printable : (v : ℕ) → v < 16 → (33 ≤ slice_index upper_digits v) × (slice_index upper_digits v ≤ 126)
digit-printable v lt = let p = glyph-printable v lt in (omega (arith, digit_at v lt, p.0), omega (arith, digit_at v lt, p.1))

byte-printable : (b : ℕ) → b < 256 → Each (λ x. (33 ≤ x) × (x ≤ 126)) (escaped_byte b)
byte-printable b lt = by (is_plain b) refl
  where
    by : (t : Bool) → is_plain b ≡ t → Each (λ x. (33 ≤ x) × (x ≤ 126)) (escaped_byte b)
    by true t =
        let low : 33 ≤ b = grind (arith, t, nat_tests) in
        let high : b ≤ 126 = grind (arith, t, nat_tests) in
        rw t ((low, high), tt)
    by false t = rw t ((omega arith, omega arith), (digit-printable (b / 16) (omega (arith, lt)), (digit-printable (b % 16) (omega (arith, lt)), tt)))

-- an escape has the bytes from `!` to `~` alone
pub escape-printable : (raw : Bytes) → IsBytes raw → Each (λ b. (33 ≤ b) × (b ≤ 126)) (escape raw)
escape-printable [] h = tt
escape-printable (b ∷ raw) h = Each-append (λ x. (33 ≤ x) × (x ≤ 126)) (escaped_byte b) (escape raw) (byte-printable b h.0) (escape-printable raw h.1)

-- so a byte that is not printed stands nowhere in it, as LF and the space
pub escape-lacks : (b : ℕ) (raw : Bytes) → b < 33 → IsBytes raw → Lacks b (escape raw)
escape-lacks b raw lt h = Each-weaker (λ x. (33 ≤ x) × (x ≤ 126)) (λ x. x ≢ b) (λ x p e. omega (arith, p.0, e, lt)) (escape raw) (escape-printable raw h)

-- ---- each text is an escape or has such a place

escape-push : (raw : Bytes) (b : ℕ) → escape (raw ++ b ∷ []) ≡ escape raw ++ escaped_byte b
escape-push raw b = flat_map-append escaped_byte raw (b ∷ []) ∙ ap (λ (t : Bytes). escape raw ++ t) (append-nil (escaped_byte b))

judged : (fuel : ℕ) (text raw rest : Bytes) → length rest ≤ fuel → IsBytes raw → text ≡ escape raw ++ rest
    → ((all : Bytes) × IsEscapeOf text all) ⊎ ((place : ℕ) × IsBadEscapeAt text place)
judged fuel text raw [] le bytes whole = inl (raw, (bytes, whole ∙ append-nil (escape raw)))
judged zero text raw (c ∷ rest) le bytes whole = absurd (omega (arith, le))
judged (suc fuel) text raw (c ∷ rest) le bytes whole = by (first_byte (c ∷ rest)) refl (judged fuel text)
  where
    by : (r : Option (ℕ × Bytes)) → first_byte (c ∷ rest) ≡ r
        → ((front after : Bytes) → length after ≤ fuel → IsBytes front → text ≡ escape front ++ after → ((all : Bytes) × IsEscapeOf text all) ⊎ ((place : ℕ) × IsBadEscapeAt text place))
        → ((all : Bytes) × IsEscapeOf text all) ⊎ ((place : ℕ) × IsBadEscapeAt text place)
    by None r later = inr (
      length (escape raw),
      record {
        before = raw;
        rest = c ∷ rest;
        bytes = bytes;
        splits = whole;
        at = refl;
        more = λ e. omega (arith, ap (λ (t : Bytes). length t) e);
        bad = no_byte-from_none (c ∷ rest) r;
      },
    )
    by (Some p) r later =
        let taken = first_byte-takes (c ∷ rest) p.0 p.1 r in
        let long : length (c ∷ rest) ≡ length (escaped_byte p.0) + length p.1 = ap (λ (t : Bytes). length t) taken.0 ∙ length-append (escaped_byte p.0) p.1 in
        later (raw ++ p.0 ∷ []) p.1
        (omega (arith, long, le, escaped_byte-some p.0))
        (Each-push (λ b. b < 256) raw p.0 bytes taken.1)
        (whole ∙ ap (λ (t : Bytes). escape raw ++ t) taken.0 ∙ sym (append_assoc (escape raw) (escaped_byte p.0) p.1) ∙ ap (λ (t : Bytes). t ++ p.1) (sym (escape-push raw p.0)))

pub escape-judged : (text : Bytes) → ((raw : Bytes) × IsEscapeOf text raw) ⊎ ((place : ℕ) × IsBadEscapeAt text place)
escape-judged text = judged (length text) text [] text (omega arith) tt refl
