-- Zones.
use Rattle.std.proofs.Common.{◌≡◌, ◌<◌, ◌≤◌, ◌+◌, ◌-◌, ◌*◌, ◌/◌, ◌%◌, ◌==◌, ℕ, zero, suc, Bool, true, false, [], ◌∷◌, ◌++◌, length, drop, Some, refl, ap, subst, ◌∙◌, arith, eq-eqb, eqb-true, leb-true, lt-ltb, ltb-true}
use Rattle.std.specs.Prelude.{◌&&◌, ◌||◌, if◌then◌else◌, nat_lt, nat_le, slice_index, codes, ℤ, pos, negsuc, neg_ℤ, unsigned_abs}
use Rattle.std.specs.List.{list_all}
use Rattle.std.proofs.lemmas.Bool.Decides.{nat_tests}
use Rattle.text_model.specs.Text.{Bytes, is_digit}
use Rattle.text_model.proofs.TestLemmas.{both, differs}
use Rattle.text_model.proofs.Options.{some_is}
use Rattle.git_model.proofs.OptionLemmas.{if-some}
use Rattle.git_model.specs.Commit.{is_zone, begins}
use Rattle.pair_model.specs.User.{two_digits, zone_sign, zone_of, zone_size, tz_of_zone}

is_digit-of : (n : ℕ) → n < 10 → is_digit (48 + n) ≡ true
is_digit-of n h = grind (arith, nat_tests)

sign_is : (tz : ℤ) (a b : ℕ) → is_digit a ≡ true → is_digit b ≡ true → (c d : ℕ) → is_digit c ≡ true → is_digit d ≡ true → is_zone (zone_sign tz ∷ a ∷ b ∷ c ∷ d ∷ []) ≡ true
sign_is (negsuc n) a b ha hb c d hc hd = rw (ha, hb, hc, hd) refl
sign_is (pos n) a b ha hb c d hc hd = by (n == 0)
  where
    by : (t : Bool) → is_zone ((if t then 43 else 45) ∷ a ∷ b ∷ c ∷ d ∷ []) ≡ true
    by true = rw (ha, hb, hc, hd) refl
    by false = rw (ha, hb, hc, hd) refl

-- what is made of a tz is a zone
pub is_zone-of : (tz : ℤ) → is_zone (zone_of tz) ≡ true
is_zone-of tz = by (unsigned_abs tz % 60 == 0 && nat_lt (unsigned_abs tz) 360000) refl
  where
    by : (t : Bool) → (unsigned_abs tz % 60 == 0 && nat_lt (unsigned_abs tz) 360000) ≡ t
        → is_zone (if t then zone_sign tz ∷ two_digits (unsigned_abs tz / 3600) ++ two_digits (unsigned_abs tz / 60 % 60) else codes "+0000") ≡ true
    by true t =
        let size : unsigned_abs tz < 360000 = ltb-true _ _ (both (unsigned_abs tz % 60 == 0) (nat_lt (unsigned_abs tz) 360000) t).1 in
        sign_is tz (48 + unsigned_abs tz / 3600 / 10) (48 + unsigned_abs tz / 3600 % 10)
        (is_digit-of (unsigned_abs tz / 3600 / 10) (omega (arith, size))) (is_digit-of (unsigned_abs tz / 3600 % 10) (omega arith))
        (48 + unsigned_abs tz / 60 % 60 / 10) (48 + unsigned_abs tz / 60 % 60 % 10)
        (is_digit-of (unsigned_abs tz / 60 % 60 / 10) (omega arith)) (is_digit-of (unsigned_abs tz / 60 % 60 % 10) (omega arith))
    by false t = refl

-- the hours and minutes of whole minutes are these minutes
whole : (size : ℕ) → size % 60 ≡ 0 → size < 360000
    → (((48 + size / 3600 / 10) - 48) * 10 + ((48 + size / 3600 % 10) - 48)) * 3600 + (((48 + size / 60 % 60 / 10) - 48) * 10 + ((48 + size / 60 % 60 % 10) - 48)) * 60 ≡ size
whole size even small = omega arith

turned : (tz : ℤ) (size : ℕ) → size ≡ unsigned_abs tz → (if zone_sign tz == 45 then pos size else neg_ℤ (pos size)) ≡ tz
turned (negsuc n) size e = rw e refl
turned (pos zero) size e = rw e refl
turned (pos (suc n)) size e = rw (e, differs (suc n) 0 (λ none. omega (arith, none))) refl

zone_of-whole : (tz : ℤ) → unsigned_abs tz % 60 ≡ 0 → unsigned_abs tz < 360000
    → zone_of tz ≡ zone_sign tz ∷ (48 + unsigned_abs tz / 3600 / 10) ∷ (48 + unsigned_abs tz / 3600 % 10) ∷ (48 + unsigned_abs tz / 60 % 60 / 10) ∷ (48 + unsigned_abs tz / 60 % 60 % 10) ∷ []
zone_of-whole tz even small =
    let a : (unsigned_abs tz % 60 == 0) ≡ true = eq-eqb _ _ even in
    let b : nat_lt (unsigned_abs tz) 360000 ≡ true = lt-ltb _ _ small in
    rw (a, b) refl

-- whole minutes below 100 hours return
pub tz_of_zone-of : (tz : ℤ) → unsigned_abs tz % 60 ≡ 0 → unsigned_abs tz < 360000 → tz_of_zone (zone_of tz) ≡ Some tz
tz_of_zone-of tz even small =
    let is = zone_of-whole tz even small in
    let zoned = subst (λ (z : Bytes). is_zone z ≡ true) is (is_zone-of tz) in
    ap tz_of_zone is ∙ rw zoned (ap (λ (x : ℤ). Some x) (turned tz _ (whole (unsigned_abs tz) even small)))

digit-small : (b : ℕ) → is_digit b ≡ true → b - 48 ≤ 9
digit-small b h = omega (arith, leb-true b 57 (both (nat_le 48 b) (nat_le b 57) h).1)

four-small : (a b c d e : ℕ) → list_all is_digit (b ∷ c ∷ d ∷ e ∷ []) ≡ true → zone_size (a ∷ b ∷ c ∷ d ∷ e ∷ []) ≤ 362340
four-small a b c d e h =
    let first = both (is_digit b) _ h in
    let second = both (is_digit c) _ first.1 in
    let third = both (is_digit d) _ second.1 in
    let fourth = both (is_digit e) true third.1 in
    omega (arith, digit-small b first.0, digit-small c second.0, digit-small d third.0, digit-small e fourth.0)

five : (zone : Bytes) → is_zone zone ≡ true → (length zone ≡ 5) × (list_all is_digit (drop 1 zone) ≡ true)
five zone h =
    let parts = both (length zone == 5 && (begins (codes "+") zone || begins (codes "-") zone)) (list_all is_digit (drop 1 zone)) h in
    (eqb-true _ _ (both (length zone == 5) (begins (codes "+") zone || begins (codes "-") zone) parts.0).0, parts.1)

-- each zone is within 99 hours and 99 minutes
pub zone_size-within : (zone : Bytes) → is_zone zone ≡ true → zone_size zone ≤ 362340
zone_size-within zone h = by zone (five zone h).0 (five zone h).1
  where
    by : (z : Bytes) → length z ≡ 5 → list_all is_digit (drop 1 z) ≡ true → zone_size z ≤ 362340
    by [] len all = absurd (omega (arith, len))
    by (a ∷ []) len all = absurd (omega (arith, len))
    by (a ∷ b ∷ []) len all = absurd (omega (arith, len))
    by (a ∷ b ∷ c ∷ []) len all = absurd (omega (arith, len))
    by (a ∷ b ∷ c ∷ d ∷ []) len all = absurd (omega (arith, len))
    by (a ∷ b ∷ c ∷ d ∷ e ∷ []) len all = four-small a b c d e all
    by (a ∷ b ∷ c ∷ d ∷ e ∷ f ∷ more) len all = absurd (omega (arith, len))

-- so is the tz of each zone
pub tz_of_zone-within : (zone : Bytes) (tz : ℤ) → tz_of_zone zone ≡ Some tz → unsigned_abs tz ≤ 362340
tz_of_zone-within zone tz e =
    let found = if-some (is_zone zone) (Some (if slice_index zone 0 == 45 then pos (zone_size zone) else neg_ℤ (pos (zone_size zone)))) tz e in
    let is = some_is {y = tz} found.1 in
    subst (λ (x : ℤ). unsigned_abs x ≤ 362340) is (by (slice_index zone 0 == 45) (zone_size zone) (zone_size-within zone found.0))
  where
    by : (t : Bool) (size : ℕ) → size ≤ 362340 → unsigned_abs (if t then pos size else neg_ℤ (pos size)) ≤ 362340
    by true size h = h
    by false zero h = h
    by false (suc n) h = h
