-- Lines of users, users of lines and descriptions are made of bytes where what they are made of is.
use Rattle.std.proofs.Common.{◌≡◌, ◌<◌, ◌-◌, ◌/◌, ◌%◌, ◌==◌, ℕ, Bool, true, false, [], ◌∷◌, ◌++◌, length, take, Option, Some, None, refl, sym, ap, subst, ◌∙◌, arith}
use Rattle.std.specs.Prelude.{not, ◌&&◌, ◌||◌, if◌then◌else◌, nat_lt, filter, codes, option_map, unwrap_or, decimal, ℤ, pos, negsuc, bytes_eq, unsigned_abs}
use Rattle.std.specs.List.{ends_with}
use Rattle.std.proofs.lemmas.Bool.{and_parts, ltb-true}
use Rattle.text_model.specs.Text.{Bytes, IsBytes, lf, has_byte}
use Rattle.text_model.specs.Cuts.{cut_of}
use Rattle.text_model.proofs.ByteLemmas.{IsBytes-append, IsBytes-front, IsBytes-rest, IsBytes-take}
use Rattle.text_model.proofs.CutLemmas.{cut_of-takes}
use Rattle.text_model.proofs.Options.{none_some, some_is}
use Rattle.text_model.proofs.TextBytes.{small-bytes}
use Rattle.git_model.specs.Commit.{Ident, ident_text, ident_of, has_angle}
use Rattle.git_model.proofs.IdentLemmas.{ident_of-takes}
use Rattle.git_model.proofs.OptionLemmas.{and_then-some, if-some}
use Rattle.pair_model.specs.User.{Address, name_in, email_in, split_user, no_email, or_unknown, unknown_user, plain_address, without_angles, other_address, address_of, zone_sign, two_digits, zone_of, seconds_of, line_of_user, user_of_ident, user_date_of, user_of_line, description_of}
use Rattle.mark_law.proofs.TextFacts.{IsBytes-decimal}

-- ---- the address of a user

record HasBytes (a : Address) : Type 0 where
  pub name : IsBytes a.name
  pub email : IsBytes a.email

filter-bytes : (p : ℕ → Bool) (bytes : Bytes) → IsBytes bytes → IsBytes (filter p bytes)
filter-bytes p [] h = tt
filter-bytes p (x ∷ xs) h = by (p x) (filter-bytes p xs h.1)
  where
    by : (t : Bool) → IsBytes (filter p xs) → IsBytes (if t then x ∷ filter p xs else filter p xs)
    by true rest = (h.0, rest)
    by false rest = rest

unknown-bytes : (user : Bytes) → IsBytes user → IsBytes (or_unknown user)
unknown-bytes user h = by (length user == 0)
  where
    by : (t : Bool) → IsBytes (if t then unknown_user else user)
    by true = small-bytes unknown_user refl
    by false = h

plain-bytes : (user : Bytes) → IsBytes user → HasBytes (plain_address user)
plain-bytes user h = record { name = h; email = by (has_byte 64 user) }
  where
    by : (t : Bool) → IsBytes (if t then user else no_email)
    by true = h
    by false = small-bytes no_email refl

other-bytes : (user : Bytes) → IsBytes user → HasBytes (other_address user)
other-bytes user h = by (has_angle user)
  where
    by : (t : Bool) → HasBytes (if t then plain_address (or_unknown (without_angles user)) else plain_address user)
    by true = plain-bytes (or_unknown (without_angles user)) (unknown-bytes (without_angles user) (filter-bytes (λ b. not (b == 60 || b == 62)) user h))
    by false = plain-bytes user h

name-takes : (text name : Bytes) → name_in text ≡ Some name → name ≡ take (length text - 1) text
name-takes text name e =
    sym (some_is {x = take (length text - 1) text} {y = name} (if-some (ends_with ◌==◌ text (32 ∷ []) && nat_lt 1 (length text) && not (has_angle text)) (Some (take (length text - 1) text)) name e).1)

email-takes : (text email : Bytes) → email_in text ≡ Some email → email ≡ take (length text - 1) text
email-takes text email e =
    sym (some_is {x = take (length text - 1) text} {y = email} (if-some (ends_with ◌==◌ text (62 ∷ []) && not (has_angle (take (length text - 1) text))) (Some (take (length text - 1) text)) email e).1)

mapped : (name : Bytes) (o : Option Bytes) (a : Address) → option_map {U = Address} (λ email. record { name = name; email = email }) o ≡ Some a → (o ≡ Some a.email) × (name ≡ a.name)
mapped name None a e = absurd (none_some {x = a} e)
mapped name (Some email) a e =
    let is : record { name = name; email = email } ≡ a = some_is {y = a} e in
    (ap (λ (x : Address). Some x.email) is, ap (λ (x : Address). x.name) is)

split-bytes : (user : Bytes) (a : Address) → split_user user ≡ Some a → IsBytes user → HasBytes a
unfolding split_user
split-bytes user a e h =
    let cut = and_then-some _ (cut_of 60 user) a e in
    let named = and_then-some _ (name_in cut.0.0) a cut.2 in
    let rest = mapped named.0 (email_in cut.0.1) a named.2 in
    let parts = cut_of-takes 60 user cut.0.0 cut.0.1 cut.1 in
    let whole : IsBytes (cut.0.0 ++ 60 ∷ cut.0.1) = subst IsBytes parts.0 h in
    let front : IsBytes cut.0.0 = IsBytes-front cut.0.0 (60 ∷ cut.0.1) whole in
    let behind : IsBytes (60 ∷ cut.0.1) = IsBytes-rest cut.0.0 (60 ∷ cut.0.1) whole in
    record {
      name = subst IsBytes (sym (name-takes cut.0.0 named.0 named.1) ∙ rest.1) (IsBytes-take (length cut.0.0 - 1) cut.0.0 front);
      email = subst IsBytes (sym (email-takes cut.0.1 a.email rest.0)) (IsBytes-take (length cut.0.1 - 1) cut.0.1 behind.1);
    }

address-bytes : (user : Bytes) → IsBytes user → HasBytes (address_of user)
address-bytes user h = by (split_user user) refl
  where
    by : (o : Option Address) → split_user user ≡ o → HasBytes (unwrap_or o (other_address user))
    by None e = other-bytes user h
    by (Some a) e = split-bytes user a e h

-- ---- the line of a user

sign-byte : (tz : ℤ) → zone_sign tz < 256
sign-byte (negsuc n) = omega arith
sign-byte (pos n) = by (n == 0)
  where
    sign : Bool → ℕ
    sign t = if t then 43 else 45

    by : (t : Bool) → sign t < 256
    by true = omega arith
    by false = omega arith

digits-bytes : (n : ℕ) → n < 1000 → IsBytes (two_digits n)
digits-bytes n h = (omega (arith, h), (omega (arith, h), tt))

zone-bytes : (tz : ℤ) → IsBytes (zone_of tz)
zone-bytes tz = by (unsigned_abs tz % 60 == 0 && nat_lt (unsigned_abs tz) 360000) refl
  where
    by : (t : Bool) → (unsigned_abs tz % 60 == 0 && nat_lt (unsigned_abs tz) 360000) ≡ t
        → IsBytes (if t then zone_sign tz ∷ two_digits (unsigned_abs tz / 3600) ++ two_digits (unsigned_abs tz / 60 % 60) else codes "+0000")
    by true e =
        let few : unsigned_abs tz < 360000 = ltb-true (unsigned_abs tz) 360000 (and_parts (unsigned_abs tz % 60 == 0) (nat_lt (unsigned_abs tz) 360000) e).1 in
        (sign-byte tz, IsBytes-append (two_digits (unsigned_abs tz / 3600)) (two_digits (unsigned_abs tz / 60 % 60)) (digits-bytes (unsigned_abs tz / 3600) (omega (arith, few))) (digits-bytes (unsigned_abs tz / 60 % 60) (omega arith)))
    by false e = small-bytes (codes "+0000") refl

ident-bytes : (n e d z : Bytes) → IsBytes n → IsBytes e → IsBytes d → IsBytes z → IsBytes (n ++ codes " <" ++ e ++ codes "> " ++ d ++ 32 ∷ z)
ident-bytes n e d z hn he hd hz =
    IsBytes-append (n ++ codes " <" ++ e ++ codes "> " ++ d) (32 ∷ z)
    (IsBytes-append (n ++ codes " <" ++ e ++ codes "> ") d
    (IsBytes-append (n ++ codes " <" ++ e) (codes "> ")
    (IsBytes-append (n ++ codes " <") e (IsBytes-append n (codes " <") hn (small-bytes (codes " <") refl)) he)
    (small-bytes (codes "> ") refl))
    hd)
    (omega arith, hz)

pub line-bytes : (user : Bytes) (time tz : ℤ) → IsBytes user → IsBytes (line_of_user user time tz)
unfolding line_of_user
line-bytes user time tz h =
    let parts = address-bytes user h in
    ident-bytes (address_of user).name (address_of user).email (decimal (seconds_of time)) (zone_of tz) parts.name parts.email (IsBytes-decimal (seconds_of time)) (zone-bytes tz)

-- ---- the user of a line

ident-user : (name email : Bytes) → IsBytes name → IsBytes email → IsBytes (user_of_ident name email)
ident-user name email n e =
    by (bytes_eq email no_email && not (length name == 0) && not (has_byte 64 name)) (bytes_eq email name && has_byte 64 name) (length name == 0)
  where
    closed : IsBytes (email ++ 62 ∷ [])
    closed = IsBytes-append email (62 ∷ []) e (omega arith, tt)

    by : (first second third : Bool) → IsBytes (if first then name else if second then name else if third then 60 ∷ (email ++ 62 ∷ []) else name ++ codes " <" ++ email ++ 62 ∷ [])
    by true second third = n
    by false true third = n
    by false false true = (omega arith, closed)
    by false false false =
        IsBytes-append (name ++ codes " <" ++ email) (62 ∷ []) (IsBytes-append (name ++ codes " <") email (IsBytes-append name (codes " <") n (small-bytes (codes " <") refl)) e) (omega arith, tt)

-- the name and the email stand in the line
named-in : (text : Bytes) (i : Ident) → ident_of text ≡ Some i → IsBytes text → IsBytes i.name × IsBytes i.email
named-in text i e h =
    let whole : IsBytes (ident_text i) = subst IsBytes (ident_of-takes text i e).1 h in
    let front : IsBytes (i.name ++ codes " <" ++ i.email) =
    IsBytes-front (i.name ++ codes " <" ++ i.email) (codes "> ")
    (IsBytes-front (i.name ++ codes " <" ++ i.email ++ codes "> ") (decimal i.seconds)
    (IsBytes-front (i.name ++ codes " <" ++ i.email ++ codes "> " ++ decimal i.seconds) (32 ∷ i.zone) whole)) in
    (IsBytes-front i.name (codes " <") (IsBytes-front (i.name ++ codes " <") i.email front), IsBytes-rest (i.name ++ codes " <") i.email front)

pub user-bytes : (text : Bytes) → IsBytes text → IsBytes (user_of_line text).user
unfolding user_of_line
user-bytes text h = by (ident_of text) refl
  where
    by : (o : Option Ident) → ident_of text ≡ o → IsBytes (user_date_of o text).user
    by (Some i) e = let parts = named-in text i e h in ident-user i.name i.email parts.0 parts.1
    by None e = unknown-bytes text h

pub description-bytes : (message : Bytes) → IsBytes message → IsBytes (description_of message)
description-bytes message h = by (ends_with ◌==◌ message (lf ∷ []))
  where
    by : (t : Bool) → IsBytes (if t then take (length message - 1) message else message)
    by true = IsBytes-take (length message - 1) message h
    by false = h
