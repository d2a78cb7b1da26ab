-- The name and the email of a user.
use Rattle.std.proofs.Common.{◌≡◌, ◌≢◌, ◌-◌, ◌==◌, ℕ, zero, suc, Bool, true, false, not, [], ◌∷◌, ◌++◌, length, take, Option, Some, None, refl, sym, ap, subst, ◌∙◌, arith, append_assoc, eq-eqb, true≢false}
use Rattle.std.specs.Prelude.{◌&&◌, ◌||◌, if◌then◌else◌, nat_lt, filter, codes, option_map, unwrap_or}
use Rattle.std.specs.List.{ends_with}
use Rattle.std.proofs.lemmas.Bool.{lt-ltb}
use Rattle.std.proofs.lemmas.List.{length-append}
use Rattle.text_model.specs.Text.{Bytes, has_byte}
use Rattle.text_model.specs.Cuts.{Lacks, cut_of}
use Rattle.text_model.proofs.CutLemmas.{cut_of-at, cut_of-takes}
use Rattle.text_model.proofs.LackLemmas.{Lacks-by_test, has_byte-lacks, Lacks-append, Lacks-front, Lacks-rest}
use Rattle.git_model.specs.Commit.{has_angle}
use Rattle.text_model.proofs.Options.{none_some, some_is, or_parts, or_neither}
use Rattle.git_model.proofs.OptionLemmas.{and_then-some, if-some}
use Rattle.pair_model.specs.User.{Address, name_in, email_in, split_user, no_email, or_unknown, unknown_user, plain_address, without_angles, other_address, address_of}
use Rattle.pair_model.proofs.EndLemmas.{without_last-push, ends_with-push}

-- ---- a user `N <E>`

-- a byte behind a text that lacks it is not in it, where it is another
Lacks-push : (b c : ℕ) (text : Bytes) → c ≢ b → Lacks b text → Lacks b (text ++ c ∷ [])
Lacks-push b c text other h = Lacks-append b text (c ∷ []) h (other, tt)

other_byte : (b c : ℕ) → (c == b) ≡ false → c ≢ b
other_byte b c h e = true≢false (sym (eq-eqb c b e) ∙ h)

long : (name : Bytes) → name ≢ [] → nat_lt 1 (length (name ++ 32 ∷ [])) ≡ true
long [] some = absurd (some refl)
long (b ∷ bytes) some = lt-ltb 1 (length ((b ∷ bytes) ++ 32 ∷ [])) (omega (arith, length-append (b ∷ bytes) (32 ∷ [])))

clean-push : (name : Bytes) → has_angle name ≡ false → has_angle (name ++ 32 ∷ []) ≡ false
clean-push name h =
    let parts = or_parts (has_byte 60 name) (has_byte 62 name) h in
    or_neither (has_byte 60 (name ++ 32 ∷ [])) (has_byte 62 (name ++ 32 ∷ []))
    (has_byte-lacks 60 (name ++ 32 ∷ []) (Lacks-push 60 32 name (other_byte 60 32 refl) (Lacks-by_test 60 name parts.0)))
    (has_byte-lacks 62 (name ++ 32 ∷ []) (Lacks-push 62 32 name (other_byte 62 32 refl) (Lacks-by_test 62 name parts.1)))

name_in-push : (name : Bytes) → name ≢ [] → has_angle name ≡ false → name_in (name ++ 32 ∷ []) ≡ Some name
name_in-push name some clean = rw (ends_with-push name 32, long name some, clean-push name clean, without_last-push name 32) refl

email_in-push : (email : Bytes) → has_angle email ≡ false → email_in (email ++ 62 ∷ []) ≡ Some email
email_in-push email clean = rw (ends_with-push email 62, without_last-push email 62, clean) refl

regroup : (n e : Bytes) → n ++ (32 ∷ 60 ∷ []) ++ e ++ 62 ∷ [] ≡ (n ++ 32 ∷ []) ++ 60 ∷ (e ++ 62 ∷ [])
regroup n e =
    append_assoc (n ++ (32 ∷ 60 ∷ [])) e (62 ∷ [])
    ∙ append_assoc n (32 ∷ 60 ∷ []) (e ++ 62 ∷ [])
    ∙ sym (append_assoc n (32 ∷ []) (60 ∷ (e ++ 62 ∷ [])))

pub address_of-named : (name email : Bytes) → name ≢ [] → has_angle name ≡ false → has_angle email ≡ false
    → address_of (name ++ codes " <" ++ email ++ codes ">") ≡ record { name = name; email = email }
unfolding split_user
address_of-named name email some n e =
    let parts = or_parts (has_byte 60 name) (has_byte 62 name) n in
    let front : Lacks 60 (name ++ 32 ∷ []) = Lacks-push 60 32 name (other_byte 60 32 refl) (Lacks-by_test 60 name parts.0) in
    rw (regroup name email, cut_of-at 60 (name ++ 32 ∷ []) (email ++ 62 ∷ []) front, name_in-push name some n, email_in-push email e) refl

-- ---- a byte that a user lacks

pub Lacks-take : (b n : ℕ) (bytes : Bytes) → Lacks b bytes → Lacks b (take n bytes)
Lacks-take b zero bytes h = tt
Lacks-take b (suc n) [] h = tt
Lacks-take b (suc n) (x ∷ xs) h = (h.0, Lacks-take b n xs h.1)

kept : (b x : ℕ) (t : Bool) (rest : Bytes) → x ≢ b → Lacks b rest → Lacks b (if t then x ∷ rest else rest)
kept b x true rest ne h = (ne, h)
kept b x false rest ne h = h

Lacks-filter : (b : ℕ) (p : ℕ → Bool) (bytes : Bytes) → Lacks b bytes → Lacks b (filter p bytes)
Lacks-filter b p [] h = tt
Lacks-filter b p (x ∷ xs) h = kept b x (p x) (filter p xs) h.0 (Lacks-filter b p xs h.1)

-- neither the name nor the email has an LF
pub record IsOneLine (a : Address) : Type 0 where
  pub name : Lacks 10 a.name
  pub email : Lacks 10 a.email

pub unknown-one_line : (user : Bytes) → Lacks 10 user → Lacks 10 (or_unknown user)
unknown-one_line user h = by (length user == 0)
  where
    by : (t : Bool) → Lacks 10 (if t then unknown_user else user)
    by true = Lacks-by_test 10 unknown_user refl
    by false = h

plain-one_line : (user : Bytes) → Lacks 10 user → IsOneLine (plain_address user)
plain-one_line user h = record { name = h; email = by (has_byte 64 user) }
  where
    by : (t : Bool) → Lacks 10 (if t then user else no_email)
    by true = h
    by false = Lacks-by_test 10 no_email refl

other-one_line : (user : Bytes) → Lacks 10 user → IsOneLine (other_address user)
other-one_line user h = by (has_angle user)
  where
    by : (t : Bool) → IsOneLine (if t then plain_address (or_unknown (without_angles user)) else plain_address user)
    by true = plain-one_line (or_unknown (without_angles user)) (unknown-one_line (without_angles user) (Lacks-filter 10 (λ b. not (b == 60 || b == 62)) user h))
    by false = plain-one_line user h

name_in-takes : (text name : Bytes) → name_in text ≡ Some name → name ≡ take (length text - 1) text
name_in-takes text name e =
    sym (some_is {x = take (length text - 1) text} {y = name} (if-some (ends_with ◌==◌ text (32 ∷ []) && nat_lt 1 (length text) && not (has_angle text)) (Some (take (length text - 1) text)) name e).1)

email_in-takes : (text email : Bytes) → email_in text ≡ Some email → email ≡ take (length text - 1) text
email_in-takes text email e =
    sym (some_is {x = take (length text - 1) text} {y = email} (if-some (ends_with ◌==◌ text (62 ∷ []) && not (has_angle (take (length text - 1) text))) (Some (take (length text - 1) text)) email e).1)

mapped : (name : Bytes) (o : Option Bytes) (a : Address) → option_map {U = Address} (λ email. record { name = name; email = email }) o ≡ Some a → (o ≡ Some a.email) × (name ≡ a.name)
mapped name None a e = absurd (none_some {x = a} e)
mapped name (Some email) a e =
    let is : record { name = name; email = email } ≡ a = some_is {y = a} e in
    (ap (λ (x : Address). Some x.email) is, ap (λ (x : Address). x.name) is)

split-one_line : (user : Bytes) (a : Address) → split_user user ≡ Some a → Lacks 10 user → IsOneLine a
unfolding split_user
split-one_line user a e h =
    let cut = and_then-some _ (cut_of 60 user) a e in
    let named = and_then-some _ (name_in cut.0.0) a cut.2 in
    let rest = mapped named.0 (email_in cut.0.1) a named.2 in
    let parts = cut_of-takes 60 user cut.0.0 cut.0.1 cut.1 in
    let whole : Lacks 10 (cut.0.0 ++ 60 ∷ cut.0.1) = subst (Lacks 10) parts.0 h in
    let front : Lacks 10 cut.0.0 = Lacks-front 10 cut.0.0 (60 ∷ cut.0.1) whole in
    let behind : Lacks 10 (60 ∷ cut.0.1) = Lacks-rest 10 cut.0.0 (60 ∷ cut.0.1) whole in
    record {
      name = subst (Lacks 10) (sym (name_in-takes cut.0.0 named.0 named.1) ∙ rest.1) (Lacks-take 10 (length cut.0.0 - 1) cut.0.0 front);
      email = subst (Lacks 10) (sym (email_in-takes cut.0.1 a.email rest.0)) (Lacks-take 10 (length cut.0.1 - 1) cut.0.1 behind.1);
    }

pub address-one_line : (user : Bytes) → Lacks 10 user → IsOneLine (address_of user)
address-one_line user h = by (split_user user) refl
  where
    by : (o : Option Address) → split_user user ≡ o → IsOneLine (unwrap_or o (other_address user))
    by None e = other-one_line user h
    by (Some a) e = split-one_line user a e h
