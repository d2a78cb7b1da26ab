-- What the rules on users and dates give: lines and users without an LF, users that aren't empty, and moments within their bounds.
use Rattle.std.proofs.Common.{◌≡◌, ◌≢◌, ◌<◌, ◌≤◌, ◌/◌, ◌%◌, ◌^◌, ◌==◌, ℕ, Bool, true, false, not, [], ◌∷◌, ◌++◌, length, Option, Some, None, decimal, refl, sym, ap, subst, ◌∙◌, arith, eq-eqb, true≢false}
use Rattle.std.specs.Prelude.{◌&&◌, if◌then◌else◌, nat_lt, unwrap_or, codes, ℤ, pos, negsuc, ◌≤ℤ◌, unsigned_abs, bytes_eq, FitsSigned}
use Rattle.std.specs.Int.{w64}
use Rattle.std.specs.List.{list_all}
use Rattle.std.proofs.lemmas.Int.{ints}
use Rattle.text_model.specs.Text.{Bytes, has_byte, is_digit}
use Rattle.text_model.specs.Cuts.{Lacks}
use Rattle.text_model.proofs.DecimalLemmas.{is_decimal-decimal, digits-is_decimal}
use Rattle.text_model.proofs.LackLemmas.{Lacks-by_test, has_byte-lacks, Lacks-append, Lacks-front, Lacks-rest}
use Rattle.text_model.proofs.TestLemmas.{both, differs}
use Rattle.git_model.specs.Commit.{Ident, ident_text, ident_of}
use Rattle.git_model.proofs.IdentLemmas.{ident_of-takes}
use Rattle.pair_model.specs.User.{two_digits, zone_sign, zone_of, seconds_of, address_of, line_of_user, or_unknown, no_email, tz_of_zone, user_of_ident, user_date_of, user_of_line}
use Rattle.pair_model.proofs.AddressLemmas.{address-one_line, unknown-one_line}
use Rattle.pair_model.proofs.ZoneLemmas.{tz_of_zone-within}

-- ---- the line of a user

digits_lack : (text : Bytes) → list_all is_digit text ≡ true → Lacks 10 text
digits_lack [] h = tt
digits_lack (x ∷ xs) h =
    let p = both (is_digit x) (list_all is_digit xs) h in
    (λ same. true≢false (sym p.0 ∙ ap is_digit same), digits_lack xs p.1)

decimal_lacks : (n : ℕ) → n < 2 ^ 64 → Lacks 10 (decimal n)
decimal_lacks n h = digits_lack (decimal n) (digits-is_decimal (decimal n) (is_decimal-decimal n h)).digits

seconds-small : (time : ℤ) → FitsSigned w64 time → seconds_of time < 2 ^ 64
seconds-small (pos n) fits = omega (arith, ints, fits)
seconds-small (negsuc n) fits = omega arith

digits-not_lf : (n : ℕ) → Lacks 10 (two_digits n)
digits-not_lf n = (λ e. omega (arith, e), (λ e. omega (arith, e), tt))

sign-not_lf : (tz : ℤ) → zone_sign tz ≢ 10
sign-not_lf (negsuc n) = λ e. omega (arith, e)
sign-not_lf (pos n) = by (n == 0)
  where
    by : (t : Bool) → ◌≢◌ {A = ℕ} (if t then 43 else 45) 10
    by true = λ e. omega (arith, e)
    by false = λ e. omega (arith, e)

zone_lacks : (tz : ℤ) → Lacks 10 (zone_of tz)
zone_lacks tz = by (unsigned_abs tz % 60 == 0 && nat_lt (unsigned_abs tz) 360000)
  where
    by : (t : Bool) → Lacks 10 (if t then zone_sign tz ∷ two_digits (unsigned_abs tz / 3600) ++ two_digits (unsigned_abs tz / 60 % 60) else codes "+0000")
    by true = (sign-not_lf tz, Lacks-append 10 (two_digits (unsigned_abs tz / 3600)) (two_digits (unsigned_abs tz / 60 % 60)) (digits-not_lf (unsigned_abs tz / 3600)) (digits-not_lf (unsigned_abs tz / 60 % 60)))
    by false = Lacks-by_test 10 (codes "+0000") refl

ident_lacks : (n e d z : Bytes) → Lacks 10 n → Lacks 10 e → Lacks 10 d → Lacks 10 z → Lacks 10 (n ++ codes " <" ++ e ++ codes "> " ++ d ++ 32 ∷ z)
ident_lacks n e d z hn he hd hz =
    Lacks-append 10 (n ++ codes " <" ++ e ++ codes "> " ++ d) (32 ∷ z)
    (Lacks-append 10 (n ++ codes " <" ++ e ++ codes "> ") d
    (Lacks-append 10 (n ++ codes " <" ++ e) (codes "> ")
    (Lacks-append 10 (n ++ codes " <") e (Lacks-append 10 n (codes " <") hn (Lacks-by_test 10 (codes " <") refl)) he)
    (Lacks-by_test 10 (codes "> ") refl))
    hd)
    (λ e. omega (arith, e), hz)

pub line-one_line : (user : Bytes) (time tz : ℤ) → FitsSigned w64 time → has_byte 10 user ≡ false → has_byte 10 (line_of_user user time tz) ≡ false
unfolding line_of_user
line-one_line user time tz fits h =
    let parts = address-one_line user (Lacks-by_test 10 user h) in
    has_byte-lacks 10 (line_of_user user time tz)
    (ident_lacks (address_of user).name (address_of user).email (decimal (seconds_of time)) (zone_of tz) parts.name parts.email (decimal_lacks (seconds_of time) (seconds-small time fits)) (zone_lacks tz))

-- ---- the user of a line

-- what holds of each of the four forms that is taken
chosen : (P : Bytes → Type 0) (name email : Bytes)
    → (length name ≢ 0 → P name) → (has_byte 64 name ≡ true → P name) → P (60 ∷ (email ++ 62 ∷ [])) → P (name ++ codes " <" ++ email ++ 62 ∷ [])
    → P (user_of_ident name email)
chosen P name email some at alone full =
    by (bytes_eq email no_email && not (length name == 0) && not (has_byte 64 name)) (bytes_eq email name && has_byte 64 name) (length name == 0) refl refl
  where
    by : (first second third : Bool) → (bytes_eq email no_email && not (length name == 0) && not (has_byte 64 name)) ≡ first → (bytes_eq email name && has_byte 64 name) ≡ second
        → P (if first then name else if second then name else if third then 60 ∷ (email ++ 62 ∷ []) else name ++ codes " <" ++ email ++ 62 ∷ [])
    by true second third a b =
        let tests = both (bytes_eq email no_email && not (length name == 0)) (not (has_byte 64 name)) a in
        some (λ none. true≢false (sym (both (bytes_eq email no_email) (not (length name == 0)) tests.0).1 ∙ ap not (eq-eqb (length name) 0 none)))
    by false true third a b = at (both (bytes_eq email name) (has_byte 64 name) b).1
    by false false true a b = alone
    by false false false a b = full

append-some : (front rest : Bytes) → rest ≢ [] → (front ++ rest) ≢ []
append-some [] rest some e = some e
append-some (b ∷ bytes) rest some e = cc

unknown-some : (text : Bytes) → or_unknown text ≢ []
unknown-some [] = λ e. cc
unknown-some (b ∷ bytes) = rw (differs (length (b ∷ bytes)) 0 (λ none. omega (arith, none))) (λ e. cc)

user-some-of : (name email : Bytes) → user_of_ident name email ≢ []
user-some-of name email =
    chosen (λ u. u ≢ []) name email
    (λ some none. some (ap length none))
    (λ at none. true≢false (sym at ∙ ap (has_byte 64) none))
    (λ e. cc)
    (append-some (name ++ codes " <" ++ email) (62 ∷ []) (λ e. cc))

pub user-some : (text : Bytes) → (user_of_line text).user ≢ []
unfolding user_of_line
user-some text = by (ident_of text)
  where
    by : (o : Option Ident) → (user_date_of o text).user ≢ []
    by (Some i) = user-some-of i.name i.email
    by None = unknown-some text

-- the name and the email stand in the line
named-in : (text : Bytes) (i : Ident) → ident_of text ≡ Some i → Lacks 10 text → Lacks 10 i.name × Lacks 10 i.email
named-in text i e h =
    let whole : Lacks 10 (ident_text i) = subst (Lacks 10) (ident_of-takes text i e).1 h in
    let front : Lacks 10 (i.name ++ codes " <" ++ i.email) =
    Lacks-front 10 (i.name ++ codes " <" ++ i.email) (codes "> ")
    (Lacks-front 10 (i.name ++ codes " <" ++ i.email ++ codes "> ") (decimal i.seconds)
    (Lacks-front 10 (i.name ++ codes " <" ++ i.email ++ codes "> " ++ decimal i.seconds) (32 ∷ i.zone) whole)) in
    (Lacks-front 10 i.name (codes " <") (Lacks-front 10 (i.name ++ codes " <") i.email front), Lacks-rest 10 (i.name ++ codes " <") i.email front)

user_lacks : (name email : Bytes) → Lacks 10 name → Lacks 10 email → Lacks 10 (user_of_ident name email)
user_lacks name email n e =
    let closed : Lacks 10 (email ++ 62 ∷ []) = Lacks-append 10 email (62 ∷ []) e (Lacks-by_test 10 (62 ∷ []) refl) in
    chosen (Lacks 10) name email
    (λ some. n)
    (λ at. n)
    (Lacks-append 10 (60 ∷ []) (email ++ 62 ∷ []) (Lacks-by_test 10 (60 ∷ []) refl) closed)
    (Lacks-append 10 (name ++ codes " <" ++ email) (62 ∷ [])
    (Lacks-append 10 (name ++ codes " <") email (Lacks-append 10 name (codes " <") n (Lacks-by_test 10 (codes " <") refl)) e)
    (Lacks-by_test 10 (62 ∷ []) refl))

pub user-one_line : (text : Bytes) → has_byte 10 text ≡ false → has_byte 10 (user_of_line text).user ≡ false
unfolding user_of_line
user-one_line text h = has_byte-lacks 10 (user_date_of (ident_of text) text).user (by (ident_of text) refl)
  where
    lacks : Lacks 10 text
    lacks = Lacks-by_test 10 text h

    by : (o : Option Ident) → ident_of text ≡ o → Lacks 10 (user_date_of o text).user
    by (Some i) e = let parts = named-in text i e lacks in user_lacks i.name i.email parts.0 parts.1
    by None e = unknown-one_line text lacks

pub time-within : (text : Bytes) → (pos 0 ≤ℤ (user_of_line text).time) × ((user_of_line text).time ≤ℤ pos (2 ^ 62))
unfolding user_of_line
time-within text = by (ident_of text) refl
  where
    by : (o : Option Ident) → ident_of text ≡ o → (pos 0 ≤ℤ (user_date_of o text).time) × ((user_date_of o text).time ≤ℤ pos (2 ^ 62))
    by (Some i) e = let small : i.seconds ≤ 2 ^ 62 = (ident_of-takes text i e).0.seconds in (omega (arith, ints), omega (arith, ints, small))
    by None e = (omega (arith, ints), omega (arith, ints))

pub tz-within : (text : Bytes) → unsigned_abs (user_of_line text).tz ≤ 362340
unfolding user_of_line
tz-within text = by (ident_of text)
  where
    tz_in : (zone : Bytes) (o : Option ℤ) → tz_of_zone zone ≡ o → unsigned_abs (unwrap_or o (pos 0)) ≤ 362340
    tz_in zone None e = omega arith
    tz_in zone (Some tz) e = tz_of_zone-within zone tz e

    by : (o : Option Ident) → unsigned_abs (user_date_of o text).tz ≤ 362340
    by (Some i) = tz_in i.zone (tz_of_zone i.zone) refl
    by None = omega arith
