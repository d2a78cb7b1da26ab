-- Date lines: each text without LF is one, and of one date line alone.
use Rattle.std.proofs.Common.{◌≡◌, ◌≢◌, ◌<◌, ◌≤◌, ◌+◌, ◌^◌, ◌==◌, ℕ, zero, suc, Bool, true, false, List, [], ◌∷◌, ◌++◌, length, Option, Some, None, option_map, decimal, refl, sym, ap, subst, ◌∙◌, append_assoc, append-nil, arith, eqb-true, leb-true}
use Rattle.std.specs.Prelude.{ℤ, pos, negsuc, neg_ℤ, ◌≤ℤ◌, nat_le}
use Rattle.std.specs.Option.{option_and_then, unwrap_or}
use Rattle.std.specs.List.{list_all}
use Rattle.std.proofs.lemmas.Int.{ints}
use Rattle.std.proofs.lemmas.Fmt.{decimal_nonempty}
use Rattle.text_model.specs.Text.{Bytes, IsBytes, has_byte, sp, is_digit, decimal_below, signed_decimal}
use Rattle.text_model.specs.Cuts.{Lacks, cut_of}
use Rattle.text_model.proofs.TestLemmas.{both, differs}
use Rattle.text_model.proofs.ByteLemmas.{IsBytes-rest}
use Rattle.text_model.proofs.EachLemmas.{Each-append}
use Rattle.text_model.proofs.CutLemmas.{cut_of-at, cut_of-takes}
use Rattle.text_model.proofs.DecimalLemmas.{digits-is_decimal, is_decimal-decimal, decimal_below-decimal, decimal_below-takes}
use Rattle.text_model.proofs.LackLemmas.{Lacks-by_test}
use Rattle.text_model.proofs.Options.{none_some, some_is}
use Rattle.hg_model.specs.Changeset.{Extra, AreExtras, extras_text, extra_text, extras_of, DateLine, Plain, Raw, IsPlainDate, IsDateLine, plain_date_text, date_text, negative_of, signed_of, date_in_zone, date_behind_time, plain_date_of, date_of}
use Rattle.hg_model.proofs.ExtrasLemmas.{extras_of-text, extras_of-takes, escaped-lacks_lf}

-- ---- signed decimals

digits-lack : (x : ℕ) (text : Bytes) → x < 48 → list_all is_digit text ≡ true → Lacks x text
digits-lack x [] small h = tt
digits-lack x (b ∷ text) small h =
    let p = both (is_digit b) (list_all is_digit text) h in
    let low = leb-true 48 b (both (nat_le 48 b) (nat_le b 57) p.0).0 in
    ((λ e. omega (arith, e, low, small)), digits-lack x text small p.1)

decimal-lacks : (x n : ℕ) → x < 48 → n < 2 ^ 64 → Lacks x (decimal n)
decimal-lacks x n small h = digits-lack x (decimal n) small (digits-is_decimal (decimal n) (is_decimal-decimal n h)).digits

-- a number whose size is at most this
abbrev pub IsWithin : ℕ → ℤ → Type 0
IsWithin most (pos n) = n ≤ most
IsWithin most (negsuc n) = n + 1 ≤ most

pub IsWithin-by_bounds : (most : ℕ) (z : ℤ) → neg_ℤ (pos most) ≤ℤ z → z ≤ℤ pos most → IsWithin most z
IsWithin-by_bounds most (pos n) low high = omega (arith, ints, high)
IsWithin-by_bounds most (negsuc n) low high = omega (arith, ints, low)

pub IsWithin-low : (most : ℕ) (z : ℤ) → IsWithin most z → neg_ℤ (pos most) ≤ℤ z
IsWithin-low most (pos n) h = omega (arith, ints, h)
IsWithin-low most (negsuc n) h = omega (arith, ints, h)

pub IsWithin-high : (most : ℕ) (z : ℤ) → IsWithin most z → z ≤ℤ pos most
IsWithin-high most (pos n) h = omega (arith, ints, h)
IsWithin-high most (negsuc n) h = omega (arith, ints, h)

pub signed-lacks : (x most : ℕ) (z : ℤ) → x < 45 → most < 2 ^ 63 → IsWithin most z → Lacks x (signed_decimal z)
signed-lacks x most (pos n) small top h = decimal-lacks x n (omega (arith, small)) (omega (arith, h, top))
signed-lacks x most (negsuc n) small top h = ((λ e. omega (arith, e, small)), decimal-lacks x (n + 1) (omega (arith, small)) (omega (arith, h, top)))

unsigned : (most : ℕ) (text : Bytes) → 0 < length text → Lacks 45 text → signed_of most text ≡ option_map pos (decimal_below (most + 1) text)
unsigned most [] some h = absurd (omega arith)
unsigned most (b ∷ text) some h = rw (differs b 45 h.0) refl

-- what is written of a number reads as the number
pub signed_of-text : (most : ℕ) (z : ℤ) → most < 2 ^ 63 → IsWithin most z → signed_of most (signed_decimal z) ≡ Some z
signed_of-text most (pos n) top h =
    let fits : n < 2 ^ 64 = omega (arith, h, top) in
    unsigned most (decimal n) (decimal_nonempty n fits) (decimal-lacks 45 n (omega arith) fits) ∙ ap (option_map pos) (decimal_below-decimal (most + 1) n (omega (arith, h)) fits)
signed_of-text most (negsuc n) top h =
    let read = decimal_below-decimal (most + 1) (n + 1) (omega (arith, h)) (omega (arith, h, top)) in
    let next : n + 1 ≡ suc n = omega arith in
    ap (option_and_then negative_of) read ∙ ap negative_of next

negative-takes : (size : ℕ) (z : ℤ) → negative_of size ≡ Some z → signed_decimal z ≡ 45 ∷ decimal size
negative-takes zero z e = absurd (none_some e)
negative-takes (suc n) z e =
    let next : n + 1 ≡ suc n = omega arith in
    ap signed_decimal (sym (some_is e)) ∙ ap (λ (m : ℕ). 45 ∷ decimal m) next

negative-within : (most size : ℕ) (z : ℤ) → size < most + 1 → negative_of size ≡ Some z → IsWithin most z
negative-within most zero z lt e = absurd (none_some e)
negative-within most (suc n) z lt e = subst (IsWithin most) (some_is e) (omega (arith, lt))

-- what reads as a number is what is written of it
pub signed_of-takes : (most : ℕ) (text : Bytes) (z : ℤ) → most < 2 ^ 63 → signed_of most text ≡ Some z → (text ≡ signed_decimal z) × IsWithin most z
signed_of-takes most [] z top e = absurd (none_some e)
signed_of-takes most (b ∷ text) z top e = by (b == 45) refl (decimal_below (most + 1) text) refl (decimal_below (most + 1) (b ∷ text)) refl
  where
    by : (p : Bool) → (b == 45) ≡ p → (r : Option ℕ) → decimal_below (most + 1) text ≡ r → (s : Option ℕ) → decimal_below (most + 1) (b ∷ text) ≡ s → (b ∷ text ≡ signed_decimal z) × IsWithin most z
    by true p None r s s' = absurd (none_some {x = z} (sym (ap (option_and_then negative_of) r) ∙ sym (rw p refl) ∙ e))
    by true p (Some n) r s s' =
        let read = decimal_below-takes (most + 1) text n (omega (arith, top)) r in
        let is : negative_of n ≡ Some z = sym (ap (option_and_then negative_of) r) ∙ sym (rw p refl) ∙ e in
        ((λ i. eqb-true b 45 p i ∷ read.0 i) ∙ sym (negative-takes n z is), negative-within most n z read.1 is)
    by false p r r' None s = absurd (none_some {x = z} (sym (ap (option_map pos) s) ∙ sym (rw p refl) ∙ e))
    by false p r r' (Some n) s =
        let read = decimal_below-takes (most + 1) (b ∷ text) n (omega (arith, top)) s in
        let is : pos n ≡ z = some_is {x = pos n} {y = z} (sym (ap (option_map pos) s) ∙ sym (rw p refl) ∙ e) in
        (read.0 ∙ ap signed_decimal is, subst (IsWithin most) is (omega (arith, read.1)))

-- ---- plain dates

record IsPlain (time tz : ℤ) (extras : List Extra) : Type 0 where
  time_is : IsWithin (2 ^ 62) time
  tz_is : IsWithin (2 ^ 31) tz
  items : AreExtras extras

plain-by_bounds : (time tz : ℤ) (extras : List Extra) → IsPlainDate time tz extras → IsPlain time tz extras
plain-by_bounds time tz extras h = record {
  time_is = IsWithin-by_bounds (2 ^ 62) time h.time_low h.time_high;
  tz_is = IsWithin-by_bounds (2 ^ 31) tz h.tz_low h.tz_high;
  items = h.items;
}

plain-bounds : (time tz : ℤ) (extras : List Extra) → IsPlain time tz extras → IsPlainDate time tz extras
plain-bounds time tz extras h = record {
  time_low = IsWithin-low (2 ^ 62) time h.time_is;
  time_high = IsWithin-high (2 ^ 62) time h.time_is;
  tz_low = IsWithin-low (2 ^ 31) tz h.tz_is;
  tz_high = IsWithin-high (2 ^ 31) tz h.tz_is;
  items = h.items;
}

-- what is written behind the time and its space
zone_text : ℤ → List Extra → Bytes
zone_text tz [] = signed_decimal tz
zone_text tz (e ∷ es) = signed_decimal tz ++ sp ∷ extras_text (e ∷ es)

plain-split : (time tz : ℤ) (extras : List Extra) → plain_date_text time tz extras ≡ signed_decimal time ++ sp ∷ zone_text tz extras
unfolding zone_text
plain-split time tz [] = refl
plain-split time tz (e ∷ es) = append_assoc (signed_decimal time) (sp ∷ signed_decimal tz) (sp ∷ extras_text (e ∷ es))

no_cut : (text : Bytes) → Lacks sp text → cut_of sp text ≡ None
no_cut text h = by (cut_of sp text) refl
  where
    there : (front rest : Bytes) → Lacks sp (front ++ sp ∷ rest) → ⊥
    there [] rest h = h.0 refl
    there (b ∷ front) rest h = there front rest h.1

    by : (r : Option (Bytes × Bytes)) → cut_of sp text ≡ r → cut_of sp text ≡ None
    by None e = e
    by (Some p) e = absurd (there p.0 p.1 (subst (Lacks sp) (cut_of-takes sp text p.0 p.1 e).0 h))

zone-reads : (time tz : ℤ) (extras : List Extra) → IsPlain time tz extras → date_behind_time time (zone_text tz extras) (cut_of sp (zone_text tz extras)) ≡ Some (Plain time tz extras)
unfolding zone_text
zone-reads time tz [] h =
    ap (date_behind_time time (signed_decimal tz)) (no_cut (signed_decimal tz) (signed-lacks 32 (2 ^ 31) tz (omega arith) (omega arith) h.tz_is))
    ∙ ap (option_map (λ z. Plain time z [])) (signed_of-text (2 ^ 31) tz (omega arith) h.tz_is)
zone-reads time tz (e ∷ es) h =
    ap (date_behind_time time (signed_decimal tz ++ sp ∷ extras_text (e ∷ es))) (cut_of-at sp (signed_decimal tz) (extras_text (e ∷ es)) (signed-lacks 32 (2 ^ 31) tz (omega arith) (omega arith) h.tz_is))
    ∙ ap (option_and_then (date_in_zone time (signed_decimal tz))) (extras_of-text e es h.items)
    ∙ ap (option_map (λ z. Plain time z (e ∷ es))) (signed_of-text (2 ^ 31) tz (omega arith) h.tz_is)

-- what is written of a Plain date reads as this date
pub plain_date_of-text : (time tz : ℤ) (extras : List Extra) → IsPlainDate time tz extras → plain_date_of (plain_date_text time tz extras) ≡ Some (Plain time tz extras)
unfolding plain_date_of
plain_date_of-text time tz extras bounds =
    let h = plain-by_bounds time tz extras bounds in
    let cut : cut_of sp (plain_date_text time tz extras) ≡ Some (signed_decimal time, zone_text tz extras) =
    ap (cut_of sp) (plain-split time tz extras) ∙ cut_of-at sp (signed_decimal time) (zone_text tz extras) (signed-lacks 32 (2 ^ 62) time (omega arith) (omega arith) h.time_is) in
    ap (option_and_then (λ (p : Bytes × Bytes). option_and_then (λ t. date_behind_time t p.1 (cut_of sp p.1)) (signed_of (2 ^ 62) p.0))) cut
    ∙ ap (option_and_then (λ t. date_behind_time t (zone_text tz extras) (cut_of sp (zone_text tz extras)))) (signed_of-text (2 ^ 62) time (omega arith) h.time_is)
    ∙ zone-reads time tz extras h

-- a line that a Plain date spells
pub record ReadPlain (text : Bytes) (date : DateLine) : Type 0 where
  pub time : ℤ
  pub tz : ℤ
  pub extras : List Extra
  pub whole : date ≡ Plain time tz extras
  pub is : IsPlainDate time tz extras
  pub spelled : text ≡ plain_date_text time tz extras

-- what was read behind the time
record ReadZone (time : ℤ) (text : Bytes) (date : DateLine) : Type 0 where
  tz : ℤ
  extras : List Extra
  whole : date ≡ Plain time tz extras
  tz_is : IsWithin (2 ^ 31) tz
  items : AreExtras extras
  spelled : text ≡ zone_text tz extras

in_zone-takes : (time : ℤ) (zone : Bytes) (extras : List Extra) (date : DateLine) → date_in_zone time zone extras ≡ Some date
    → (tz : ℤ) × (date ≡ Plain time tz extras) × (zone ≡ signed_decimal tz) × IsWithin (2 ^ 31) tz
in_zone-takes time zone extras date e = by (signed_of (2 ^ 31) zone) refl
  where
    by : (r : Option ℤ) → signed_of (2 ^ 31) zone ≡ r → (tz : ℤ) × (date ≡ Plain time tz extras) × (zone ≡ signed_decimal tz) × IsWithin (2 ^ 31) tz
    by None r = absurd (none_some (sym (ap (option_map (λ z. Plain time z extras)) r) ∙ e))
    by (Some tz) r =
        let read = signed_of-takes (2 ^ 31) zone tz (omega arith) r in
        (tz, sym (some_is (sym (ap (option_map (λ z. Plain time z extras)) r) ∙ e)), read.0, read.1)

zone-takes : (time : ℤ) (text : Bytes) (date : DateLine) → IsBytes text → date_behind_time time text (cut_of sp text) ≡ Some date → ReadZone time text date
unfolding zone_text
zone-takes time text date bytes e = by (cut_of sp text) refl
  where
    by : (r : Option (Bytes × Bytes)) → cut_of sp text ≡ r → ReadZone time text date
    by None r =
        let z = in_zone-takes time text [] date (sym (ap (date_behind_time time text) r) ∙ e) in
        record { tz = z.0; extras = []; whole = z.1; tz_is = z.3; items = (tt, refl); spelled = z.2 }
    by (Some p) r = items p r (extras_of p.1) refl
      where
        items : (p : Bytes × Bytes) → cut_of sp text ≡ Some p → (x : Option (List Extra)) → extras_of p.1 ≡ x → ReadZone time text date
        items p r None x = absurd (none_some (sym (ap (option_and_then (date_in_zone time p.0)) x) ∙ sym (ap (date_behind_time time text) r) ∙ e))
        items p r (Some all) x =
            let t = cut_of-takes sp text p.0 p.1 r in
            let after : IsBytes p.1 = (IsBytes-rest p.0 (sp ∷ p.1) (subst IsBytes t.0 bytes)).1 in
            let read = extras_of-takes p.1 all after x in
            let z = in_zone-takes time p.0 all date (sym (ap (option_and_then (date_in_zone time p.0)) x) ∙ sym (ap (date_behind_time time text) r) ∙ e) in
            record {
              tz = z.0;
              extras = read.first ∷ read.others;
              whole = z.1 ∙ ap (Plain time z.0) read.whole;
              tz_is = z.3;
              items = subst AreExtras read.whole read.are;
              spelled = t.0 ∙ (λ i. z.2 i ++ sp ∷ read.spelled i);
            }

-- what reads as a Plain date is what is written of it
pub plain_date_of-takes : (text : Bytes) (date : DateLine) → IsBytes text → plain_date_of text ≡ Some date → ReadPlain text date
unfolding plain_date_of
plain_date_of-takes text date bytes e = by (cut_of sp text) refl
  where
    timed : (p : Bytes × Bytes) → cut_of sp text ≡ Some p → (t : Option ℤ) → signed_of (2 ^ 62) p.0 ≡ t → option_and_then (λ t. date_behind_time t p.1 (cut_of sp p.1)) t ≡ Some date → ReadPlain text date
    timed p r None t h = absurd (none_some h)
    timed p r (Some time) t h =
        let c = cut_of-takes sp text p.0 p.1 r in
        let after : IsBytes p.1 = (IsBytes-rest p.0 (sp ∷ p.1) (subst IsBytes c.0 bytes)).1 in
        let n = signed_of-takes (2 ^ 62) p.0 time (omega arith) t in
        let z = zone-takes time p.1 date after h in
        record {
          time = time;
          tz = z.tz;
          extras = z.extras;
          whole = z.whole;
          is = plain-bounds time z.tz z.extras (record { time_is = n.1; tz_is = z.tz_is; items = z.items });
          spelled = c.0 ∙ (λ i. n.0 i ++ sp ∷ z.spelled i) ∙ sym (plain-split time z.tz z.extras);
        }

    by : (r : Option (Bytes × Bytes)) → cut_of sp text ≡ r → ReadPlain text date
    by None r = absurd (none_some (sym (ap (option_and_then (λ (p : Bytes × Bytes). option_and_then (λ t. date_behind_time t p.1 (cut_of sp p.1)) (signed_of (2 ^ 62) p.0))) r) ∙ e))
    by (Some p) r =
        let whole : option_and_then (λ t. date_behind_time t p.1 (cut_of sp p.1)) (signed_of (2 ^ 62) p.0) ≡ Some date =
        sym (ap (option_and_then (λ (p : Bytes × Bytes). option_and_then (λ t. date_behind_time t p.1 (cut_of sp p.1)) (signed_of (2 ^ 62) p.0))) r) ∙ e in
        timed p r (signed_of (2 ^ 62) p.0) refl whole

-- ---- date lines

extras-lack_lf : (es : List Extra) → Lacks 10 (extras_text es)
extras-lack_lf [] = tt
extras-lack_lf (e ∷ []) = subst (Lacks 10) (sym (append-nil (extra_text e))) (escaped-lacks_lf (e.key ++ 58 ∷ e.value))
extras-lack_lf (e ∷ f ∷ es) = Each-append (λ b. b ≢ 10) (extra_text e) (0 ∷ extras_text (f ∷ es)) (escaped-lacks_lf (e.key ++ 58 ∷ e.value)) ((λ h. omega (arith, h)), extras-lack_lf (f ∷ es))

zone-lacks_lf : (time tz : ℤ) (extras : List Extra) → IsPlain time tz extras → Lacks 10 (zone_text tz extras)
unfolding zone_text
zone-lacks_lf time tz [] h = signed-lacks 10 (2 ^ 31) tz (omega arith) (omega arith) h.tz_is
zone-lacks_lf time tz (e ∷ es) h = Each-append (λ b. b ≢ 10) (signed_decimal tz) (sp ∷ extras_text (e ∷ es)) (signed-lacks 10 (2 ^ 31) tz (omega arith) (omega arith) h.tz_is) ((λ e. omega (arith, e)), extras-lack_lf (e ∷ es))

-- no date line holds LF
pub date_text-lacks_lf : (date : DateLine) → IsDateLine date → Lacks 10 (date_text date)
date_text-lacks_lf (Plain time tz extras) h =
    let p = plain-by_bounds time tz extras h in
    subst (Lacks 10) (sym (plain-split time tz extras)) (Each-append (λ b. b ≢ 10) (signed_decimal time) (sp ∷ zone_text tz extras) (signed-lacks 10 (2 ^ 62) time (omega arith) (omega arith) p.time_is) ((λ e. omega (arith, e)), zone-lacks_lf time tz extras p))
date_text-lacks_lf (Raw text) h = Lacks-by_test 10 text h.1

date_of-by : (text : Bytes) (r : Option DateLine) → plain_date_of text ≡ r → date_of text ≡ unwrap_or r (Raw text)
unfolding date_of
date_of-by text r e = ap (λ (r : Option DateLine). unwrap_or r (Raw text)) e

-- a date line is that of its text
pub date_of-text : (date : DateLine) → IsDateLine date → date_of (date_text date) ≡ date
date_of-text (Plain time tz extras) h = date_of-by (plain_date_text time tz extras) (Some (Plain time tz extras)) (plain_date_of-text time tz extras h)
date_of-text (Raw text) h = by (plain_date_of text) refl
  where
    by : (r : Option DateLine) → plain_date_of text ≡ r → date_of text ≡ Raw text
    by None e = date_of-by text None e
    by (Some date) e = let p = plain_date_of-takes text date h.0 e in absurd (h.2 p.time p.tz p.extras p.is p.spelled)

-- a text without LF is that of its date line
pub date_of-is : (text : Bytes) → IsBytes text → has_byte 10 text ≡ false → IsDateLine (date_of text) × (date_text (date_of text) ≡ text)
date_of-is text bytes plain = by (plain_date_of text) refl
  where
    by : (r : Option DateLine) → plain_date_of text ≡ r → IsDateLine (date_of text) × (date_text (date_of text) ≡ text)
    by None e =
        subst (λ (d : DateLine). IsDateLine d × (date_text d ≡ text)) (sym (date_of-by text None e))
        ((bytes, plain, λ time tz extras is spelled. none_some (sym e ∙ ap plain_date_of spelled ∙ plain_date_of-text time tz extras is)), refl)
    by (Some date) e =
        let p = plain_date_of-takes text date bytes e in
        subst (λ (d : DateLine). IsDateLine d × (date_text d ≡ text)) (sym (date_of-by text (Some date) e ∙ p.whole)) (p.is, sym p.spelled)
