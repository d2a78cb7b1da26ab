-- A line has an ident exactly where it is the line of one.
use Rattle.std.proofs.Common.{◌≡◌, ◌≢◌, ◌<◌, ◌≤◌, ◌+◌, ◌-◌, ◌^◌, ◌==◌, ℕ, Bool, true, false, not, [], ◌∷◌, ◌++◌, length, take, drop, Option, Some, None, decimal, refl, sym, ap, subst, ◌∙◌, arith, append_assoc, eqb-true, eq-eqb, true≢false, take-append-drop}
use Rattle.std.specs.Prelude.{◌&&◌}
use Rattle.std.specs.List.{list_all, ends_with}
use Rattle.std.specs.Cmp.Lexicographic.{pointwise}
use Rattle.std.proofs.lemmas.List.{take_at, drop_at, length-append}
use Rattle.text_model.specs.Text.{Bytes, has_byte, is_digit, decimal_below}
use Rattle.text_model.specs.Cuts.{Lacks, cut_of}
use Rattle.text_model.proofs.EachLemmas.{Each-append, Each-front}
use Rattle.text_model.proofs.CutLemmas.{cut_of-at, cut_of-takes}
use Rattle.text_model.proofs.LackLemmas.{Lacks-by_test, has_byte-lacks}
use Rattle.text_model.proofs.DecimalLemmas.{is_decimal-decimal, digits-is_decimal, decimal_below-decimal, decimal_below-takes}
use Rattle.text_model.proofs.TestLemmas.{both}
use Rattle.text_model.proofs.Options.{some_is, none_some, not_true, or_parts, or_neither}
use Rattle.git_model.specs.Commit.{Ident, ident_text, is_zone, IsIdent, IsIdentLine, name_before_space, seconds_and_zone, behind_space, ident_by, ident_of}
use Rattle.git_model.proofs.OptionLemmas.{and_then-some, if-some}

-- the line in the order in which it is cut
regroup : (n e d z : Bytes) → n ++ (32 ∷ 60 ∷ []) ++ e ++ (62 ∷ 32 ∷ []) ++ d ++ 32 ∷ z ≡ (n ++ 32 ∷ []) ++ 60 ∷ (e ++ 62 ∷ (32 ∷ (d ++ 32 ∷ z)))
regroup n e d z =
    append_assoc ((((n ++ (32 ∷ 60 ∷ [])) ++ e) ++ (62 ∷ 32 ∷ []))) d (32 ∷ z)
    ∙ append_assoc ((n ++ (32 ∷ 60 ∷ [])) ++ e) (62 ∷ 32 ∷ []) (d ++ 32 ∷ z)
    ∙ append_assoc (n ++ (32 ∷ 60 ∷ [])) e (62 ∷ 32 ∷ (d ++ 32 ∷ z))
    ∙ append_assoc n (32 ∷ 60 ∷ []) (e ++ 62 ∷ 32 ∷ (d ++ 32 ∷ z))
    ∙ sym (append_assoc n (32 ∷ []) (60 ∷ (e ++ 62 ∷ 32 ∷ (d ++ 32 ∷ z))))

digits_lack_space : (text : Bytes) → list_all is_digit text ≡ true → Lacks 32 text
digits_lack_space [] h = tt
digits_lack_space (x ∷ xs) h =
    let p = both (is_digit x) (list_all is_digit xs) h in
    (λ same. true≢false (sym p.0 ∙ ap is_digit same), digits_lack_space xs p.1)

decimal_lacks_space : (n : ℕ) → n < 2 ^ 64 → Lacks 32 (decimal n)
decimal_lacks_space n h = digits_lack_space (decimal n) (digits-is_decimal (decimal n) (is_decimal-decimal n h)).digits

-- ---- the line of an ident has it

spaced-name : (n : Bytes) → has_byte 62 n ≡ false → name_before_space (n ++ 32 ∷ []) ≡ Some n
spaced-name n h =
    let long : length (n ++ 32 ∷ []) - 1 ≡ length n = omega (arith, length-append n (32 ∷ [])) in
    let clean : has_byte 62 (n ++ 32 ∷ []) ≡ false = has_byte-lacks 62 (n ++ 32 ∷ []) (Each-append (λ x. x ≢ 62) n (32 ∷ []) (Lacks-by_test 62 n h) (λ e. true≢false (sym (eq-eqb 32 62 e)), tt)) in
    rw (long, drop_at n (32 ∷ []) (length n) refl, take_at n (32 ∷ []) (length n) refl, clean) refl

moment : (s : ℕ) (z : Bytes) → s ≤ 2 ^ 62 → is_zone z ≡ true → behind_space (32 ∷ (decimal s ++ 32 ∷ z)) ≡ Some (s, z)
moment s z small zone =
    let small64 : s < 2 ^ 64 = omega (arith, small) in
    rw (cut_of-at 32 (decimal s) z (decimal_lacks_space s small64), decimal_below-decimal (2 ^ 62 + 1) s (omega (arith, small)) small64, zone) refl

pub ident_of-text : (i : Ident) → IsIdent i → ident_of (ident_text i) ≡ Some i
unfolding ident_of
ident_of-text i is =
    let name = or_parts (has_byte 60 i.name) (has_byte 62 i.name) is.name in
    let email = or_parts (has_byte 60 i.email) (has_byte 62 i.email) is.email in
    let front : Lacks 60 (i.name ++ 32 ∷ []) = Each-append (λ x. x ≢ 60) i.name (32 ∷ []) (Lacks-by_test 60 i.name name.0) (λ e. true≢false (sym (eq-eqb 32 60 e)), tt) in
    rw (
      regroup i.name i.email (decimal i.seconds) i.zone,
      cut_of-at 60 (i.name ++ 32 ∷ []) (i.email ++ 62 ∷ (32 ∷ (decimal i.seconds ++ 32 ∷ i.zone))) front,
      cut_of-at 62 i.email (32 ∷ (decimal i.seconds ++ 32 ∷ i.zone)) (Lacks-by_test 62 i.email email.1),
      spaced-name i.name name.1,
      moment i.seconds i.zone is.seconds is.zone,
      email.0,
    ) refl

-- ---- a line that has an ident is its line

one_space : (t : Bytes) → pointwise ◌==◌ (32 ∷ []) t ≡ true → t ≡ 32 ∷ []
one_space [] h = absurd (true≢false (sym h))
one_space (x ∷ []) h = λ i. sym (eqb-true 32 x (both (32 == x) true h).0) i ∷ []
one_space (x ∷ y ∷ ys) h = absurd (true≢false (sym (both (32 == x) false h).1))

last_space : (t : Bytes) → ends_with ◌==◌ t (32 ∷ []) ≡ true → t ≡ take (length t - 1) t ++ 32 ∷ []
last_space t h = sym (take-append-drop (length t - 1) t) ∙ ap (λ (l : Bytes). take (length t - 1) t ++ l) (one_space (drop (length t - 1) t) h)

-- a name without brackets, and the space behind it
record Named (text name : Bytes) : Type 0 where
  pub whole : text ≡ name ++ 32 ∷ []
  pub clean : Lacks 62 name

named : (text name : Bytes) → name_before_space text ≡ Some name → Named text name
named text name e =
    let r = if-some (ends_with ◌==◌ text (32 ∷ []) && not (has_byte 62 text)) (Some (take (length text - 1) text)) name e in
    let t = both (ends_with ◌==◌ text (32 ∷ [])) (not (has_byte 62 text)) r.0 in
    let whole : text ≡ name ++ 32 ∷ [] = last_space text t.0 ∙ ap (λ (l : Bytes). l ++ 32 ∷ []) (some_is r.1) in
    record {
      whole = whole;
      clean = Each-front (λ x. x ≢ 62) name (32 ∷ []) (subst (Lacks 62) whole (Lacks-by_test 62 text (not_true (has_byte 62 text) t.1)));
    }

-- what stands behind the email
record Moment (text : Bytes) (seconds : ℕ) (zone : Bytes) : Type 0 where
  pub whole : text ≡ 32 ∷ (decimal seconds ++ 32 ∷ zone)
  pub small : seconds ≤ 2 ^ 62
  pub zoned : is_zone zone ≡ true

moment_in : (text : Bytes) (m : ℕ × Bytes) → seconds_and_zone text ≡ Some m → Moment (32 ∷ text) m.0 m.1
moment_in text m e =
    let cut = and_then-some _ (cut_of 32 text) m e in
    let number = and_then-some _ (decimal_below (2 ^ 62 + 1) cut.0.0) m cut.2 in
    let zoned = if-some (is_zone cut.0.1) (Some (number.0, cut.0.1)) m number.2 in
    let is : (number.0, cut.0.1) ≡ m = some_is zoned.1 in
    let parts = cut_of-takes 32 text cut.0.0 cut.0.1 cut.1 in
    let digits = decimal_below-takes (2 ^ 62 + 1) cut.0.0 number.0 (omega arith) number.1 in
    subst (λ (x : ℕ × Bytes). Moment (32 ∷ text) x.0 x.1) is (record {
      whole = ap (λ (l : Bytes). 32 ∷ l) (parts.0 ∙ ap (λ (l : Bytes). l ++ 32 ∷ cut.0.1) digits.0);
      small = omega (arith, digits.1);
      zoned = zoned.0;
    })

behind : (text : Bytes) (m : ℕ × Bytes) → behind_space text ≡ Some m → Moment text m.0 m.1
behind [] m e = absurd (none_some e)
behind (b ∷ bytes) m e =
    let r = if-some (b == 32) (seconds_and_zone bytes) m e in
    subst (λ (x : ℕ). Moment (x ∷ bytes) m.0 m.1) (sym (eqb-true b 32 r.0)) (moment_in bytes m r.1)

-- the parts of an ident
record Parts (name : Option Bytes) (email : Bytes) (moment : Option (ℕ × Bytes)) (i : Ident) : Type 0 where
  pub its_name : name ≡ Some i.name
  pub its_email : email ≡ i.email
  pub clean : has_byte 60 email ≡ false
  pub its_moment : moment ≡ Some (i.seconds, i.zone)

parts_of : (name : Option Bytes) (email : Bytes) (m : Option (ℕ × Bytes)) (i : Ident) → ident_by name email m ≡ Some i → Parts name email m i
parts_of None email None i e = absurd (none_some e)
parts_of None email (Some m) i e = absurd (none_some e)
parts_of (Some name) email None i e = absurd (none_some e)
parts_of (Some name) email (Some m) i e = by (has_byte 60 email) refl
  where
    by : (t : Bool) → has_byte 60 email ≡ t → Parts (Some name) email (Some m) i
    by true t = absurd (none_some (sym (rw t refl) ∙ e))
    by false t =
        let is : record { name = name; email = email; seconds = m.0; zone = m.1 } ≡ i = some_is (sym (rw t refl) ∙ e) in
        record { its_name = ap (λ (x : Ident). Some x.name) is; its_email = ap (λ (x : Ident). x.email) is; clean = t; its_moment = ap (λ (x : Ident). Some (x.seconds, x.zone)) is }

pub ident_of-takes : (text : Bytes) (i : Ident) → ident_of text ≡ Some i → IsIdentLine text i
unfolding ident_of
ident_of-takes text i e =
    let first = and_then-some _ (cut_of 60 text) i e in
    let second = and_then-some _ (cut_of 62 first.0.1) i first.2 in
    let parts = parts_of (name_before_space first.0.0) second.0.0 (behind_space second.0.1) i second.2 in
    let a = cut_of-takes 60 text first.0.0 first.0.1 first.1 in
    let b = cut_of-takes 62 first.0.1 second.0.0 second.0.1 second.1 in
    let n = named first.0.0 i.name parts.its_name in
    let m = behind second.0.1 (i.seconds, i.zone) parts.its_moment in
    let no_open : Lacks 60 i.name = Each-front (λ x. x ≢ 60) i.name (32 ∷ []) (subst (Lacks 60) n.whole a.1) in
    let tail : second.0.0 ++ 62 ∷ second.0.1 ≡ i.email ++ 62 ∷ (32 ∷ (decimal i.seconds ++ 32 ∷ i.zone)) = λ j. parts.its_email j ++ 62 ∷ m.whole j in
    let clean_email : has_byte 62 i.email ≡ false = has_byte-lacks 62 i.email (subst (Lacks 62) parts.its_email b.1) in (
      record {
        name = or_neither (has_byte 60 i.name) (has_byte 62 i.name) (has_byte-lacks 60 i.name no_open) (has_byte-lacks 62 i.name n.clean);
        email = or_neither (has_byte 60 i.email) (has_byte 62 i.email) (sym (ap (has_byte 60) parts.its_email) ∙ parts.clean) clean_email;
        seconds = m.small;
        zone = m.zoned;
      },
      a.0 ∙ (λ j. n.whole j ++ 60 ∷ (b.0 ∙ tail) j) ∙ sym (regroup i.name i.email (decimal i.seconds) i.zone),
    )
