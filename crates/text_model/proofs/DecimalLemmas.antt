-- Decimals: what is written reads as the number, and what reads as a number is what is written of it.
use Rattle.std.proofs.Common.{◌≡◌, ◌≢◌, ◌<◌, ◌≤◌, ◌+◌, ◌-◌, ◌*◌, ◌^◌, ◌&&◌, ◌==◌, ℕ, zero, suc, Bool, true, false, not, [], ◌∷◌, length, take, drop, get_or, Some, fold, decimal, Option, None, bytes_eq, refl, sym, ap, ◌∙◌, arith, leb, leb-true, eqb, lt-ltb, ltb-true, eq-eqb, true≢false, take-append-drop}
use Rattle.std.specs.Prelude.{nat_lt}
use Rattle.std.specs.List.{list_all}
use Rattle.std.specs.Option.{option_eq}
use Rattle.std.proofs.lemmas.Bool.Decides.{nat_tests}
use Rattle.std.proofs.lemmas.Slice.Eq.{bytes_eq-Decides}
use Rattle.std.proofs.lemmas.List.Sums.{fold-append, fold_more}
use Rattle.std.proofs.lemmas.Str.Parse.{IsNumeralModel, numerals_by_fold}
use Rattle.std.proofs.lemmas.Fmt.{digits_decimal, digits_value-decimal, decimal-digits_value, decimal_nonempty, decimal_digit, first_decimal}
use Rattle.text_model.proofs.TestLemmas.{both, differs, or_true}
use Rattle.text_model.specs.Text.{Bytes, is_digit, is_decimal, number_of, decimal_below}
use Rattle.text_model.proofs.Options.{some_is, none_some}

le_fold : (n : ℕ) (text : Bytes) → n ≤ fold (λ m b. m * 10 + (b - 48)) n text
le_fold n [] = omega arith
le_fold n (b ∷ bytes) = omega (arith, le_fold (n * 10 + (b - 48)) bytes)

-- the first digits name no larger number
pub number_of-take-le : (text : Bytes) (k : ℕ) → number_of (take k text) ≤ number_of text
number_of-take-le text k =
    let whole : number_of text ≡ fold (λ m b. m * 10 + (b - 48)) (number_of (take k text)) (drop k text) =
    sym (ap number_of (take-append-drop k text)) ∙ fold-append (λ m b. m * 10 + (b - 48)) 0 (take k text) (drop k text) in
    omega (arith, whole, le_fold (number_of (take k text)) (drop k text))

-- the next digit
pub number_of-take-more : (text : Bytes) (k : ℕ) → k < length text → number_of (take (k + 1) text) ≡ number_of (take k text) * 10 + (get_or text k 0 - 48)
number_of-take-more text k lt = fold_more (λ m b. m * 10 + (b - 48)) 0 text k 0 lt

-- once the number is too large it stays so
pub number_of-passes : (text : Bytes) (k limit : ℕ) → k < length text → limit ≤ number_of (take k text) * 10 + (get_or text k 0 - 48) → nat_lt (number_of text) limit ≡ false
number_of-passes text k limit lt large =
    let le = number_of-take-le text (k + 1) in
    let more = number_of-take-more text k lt in
    let past : limit ≤ number_of text = omega (arith, le, more, large) in
    grind (arith, nat_tests)

-- `is_digit` and `number_of` are std's words on digits
digits : IsNumeralModel (λ text. list_all is_digit text ≡ true) number_of
digits =
    numerals_by_fold (λ text. list_all is_digit text ≡ true)
    (record {
      empty = refl;
      parts = λ c cs h. let p = both (is_digit c) (list_all is_digit cs) h in let r = both (leb 48 c) (leb c 57) p.0 in ((leb-true 48 c r.0, leb-true c 57 r.1), p.1);
      more = λ c cs in_range rest. let d : is_digit c ≡ true = grind (arith, in_range.0, in_range.1, nat_tests) in rw (d, rest) refl;
    })
    (λ n text. fold (λ m b. m * 10 + (b - 48)) n text)
    (record { empty = λ n. refl; more = λ n c cs in_range. refl })

-- a text of digits is a decimal where no zero leads
pub record DigitsOf (text : Bytes) : Type 0 where
  pub digits : list_all is_digit text ≡ true
  pub some : 0 < length text
  pub lead : get_or text 0 0 ≡ 48 → length text ≡ 1

pub is_decimal-digits : (text : Bytes) → DigitsOf text → is_decimal text ≡ true
is_decimal-digits [] d = absurd (omega (arith, d.some))
is_decimal-digits (c ∷ []) d = rw d.digits refl
is_decimal-digits (c ∷ e ∷ cs) d =
    let long : length (c ∷ e ∷ cs) ≢ 1 = λ h. omega (arith, h) in
    let some : length (c ∷ e ∷ cs) ≢ 0 = λ h. omega (arith, h) in
    let first : eqb c 48 ≡ false = differs c 48 (λ z. long (d.lead z)) in
    rw (differs (length (c ∷ e ∷ cs)) 0 some, d.digits, first) (or_true (length (c ∷ e ∷ cs) == 1))

pub digits-is_decimal : (text : Bytes) → is_decimal text ≡ true → DigitsOf text
digits-is_decimal [] is = absurd cc
digits-is_decimal (c ∷ []) is =
    let p = both (not (length (c ∷ []) == 0) && list_all is_digit (c ∷ [])) _ is in
    record { digits = (both (not (length (c ∷ []) == 0)) _ p.0).1; some = omega arith; lead = λ _. refl }
digits-is_decimal (c ∷ e ∷ cs) is =
    let p = both (not (length (c ∷ e ∷ cs) == 0) && list_all is_digit (c ∷ e ∷ cs)) _ is in
    let long : eqb (length (c ∷ e ∷ cs)) 1 ≡ false = differs (length (c ∷ e ∷ cs)) 1 (λ h. omega (arith, h)) in
    let first : not (eqb c 48) ≡ true = rw long at p.1 in
    record { digits = (both (not (length (c ∷ e ∷ cs) == 0)) _ p.0).1; some = omega arith; lead = λ z. absurd (true≢false (sym first ∙ ap not (eq-eqb c 48 z))) }

-- the decimal of a number is a decimal, of that number
pub number_of-decimal : (n : ℕ) → n < 2 ^ 64 → number_of (decimal n) ≡ n
number_of-decimal n h = digits_value-decimal digits n h

pub is_decimal-decimal : (n : ℕ) → n < 2 ^ 64 → is_decimal (decimal n) ≡ true
is_decimal-decimal zero h = rw (decimal_digit 0 (omega arith)) refl
is_decimal-decimal (suc n) h =
    is_decimal-digits (decimal (suc n)) (record {
      digits = digits_decimal digits (suc n) h;
      some = decimal_nonempty (suc n) h;
      lead = λ z. absurd (omega (arith, z, first_decimal (suc n) (omega arith) h));
    })

-- a decimal is what is written of its number
pub decimal-number_of : (text : Bytes) → is_decimal text ≡ true → number_of text < 2 ^ 64 → decimal (number_of text) ≡ text
decimal-number_of text is h = let d = digits-is_decimal text is in decimal-digits_value digits text d.digits d.some d.lead h

-- what is written reads as the number
pub decimal_below-decimal : (limit n : ℕ) → n < limit → n < 2 ^ 64 → decimal_below limit (decimal n) ≡ Some n
decimal_below-decimal limit n lt h = rw (is_decimal-decimal n h, number_of-decimal n h, lt-ltb n limit lt) refl

-- what reads as a number is what is written of it
pub decimal_below-takes : (limit : ℕ) (text : Bytes) (n : ℕ) → limit ≤ 2 ^ 64 → decimal_below limit text ≡ Some n → (text ≡ decimal n) × (n < limit)
decimal_below-takes limit text n small e = by (is_decimal text && nat_lt (number_of text) limit) refl
  where
    by : (t : Bool) → (is_decimal text && nat_lt (number_of text) limit) ≡ t → (text ≡ decimal n) × (n < limit)
    by true t =
        let p = both (is_decimal text) _ t in
        let is : number_of text ≡ n = some_is (sym (rw t refl) ∙ e) in
        let lt = ltb-true (number_of text) limit p.1 in
        (sym (decimal-number_of text p.0 (omega (arith, lt, small))) ∙ ap decimal is, omega (arith, lt, is))
    by false t = absurd (none_some (sym (rw t refl) ∙ e))

-- a text reads as a number exactly where it is the decimal of it
pub decimal_test : (text : Bytes) (n : ℕ) → n < 2 ^ 64 → option_eq eqb (decimal_below (2 ^ 64) text) (Some n) ≡ bytes_eq text (decimal n)
decimal_test text n lt = by (decimal_below (2 ^ 64) text) refl (bytes_eq text (decimal n)) refl
  where
    reads : bytes_eq text (decimal n) ≡ true → decimal_below (2 ^ 64) text ≡ Some n
    reads e = ap (decimal_below (2 ^ 64)) ((bytes_eq-Decides text (decimal n)).0 e) ∙ decimal_below-decimal (2 ^ 64) n lt lt

    by : (r : Option ℕ) → decimal_below (2 ^ 64) text ≡ r → (t : Bool) → bytes_eq text (decimal n) ≡ t → option_eq eqb r (Some n) ≡ t
    by None r true t = absurd (none_some (sym r ∙ reads t))
    by None r false t = refl
    by (Some m) r true t = eq-eqb m n (some_is (sym r ∙ reads t))
    by (Some m) r false t = differs m n (λ same. true≢false (sym ((bytes_eq-Decides text (decimal n)).1 ((decimal_below-takes (2 ^ 64) text m (omega arith) r).0 ∙ ap decimal same)) ∙ t))
