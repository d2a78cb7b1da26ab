-- Unescaping a text byte by byte.
use Rattle.std.proofs.Common.{◌≡◌, ◌≢◌, ◌<◌, ◌==◌, ℕ, Bool, true, false, true≢false, [], ◌∷◌, ◌++◌, length, Option, Some, None, option_map, refl, sym, ap, subst, ◌∙◌, append_assoc, append-nil, arith, eqb-true}
use Rattle.std.specs.Option.{option_and_then}
use Rattle.text_model.specs.Text.{Bytes}
use Rattle.text_model.proofs.TestLemmas.{differs}
use Rattle.text_model.proofs.Options.{none_some, some_is, some_none}
use Rattle.hg_model.specs.Changeset.{is_literal, spelled_byte, unescaped}
use Rattle.hg_model.proofs.ExtrasLemmas.{unescaped-literal, unescaped-pair, unescaped-none, unescaped-bad, unescaped-alone}
use Rattle.hg_changeset.specs.Reading.{first_byte, behind_backslash}

-- what a first byte says of the whole
pub record FirstByte (text : Bytes) (byte : ℕ) (after : Bytes) : Type 0 where
  pub spelled : unescaped text ≡ option_map (λ (more : Bytes). byte ∷ more) (unescaped after)
  pub shorter : length after < length text

first_byte-literal : (b : ℕ) (rest : Bytes) → (b == 92) ≡ false → is_literal b ≡ true → first_byte (b ∷ rest) ≡ Some (b, rest)
first_byte-literal b rest n h = rw (h, n) refl

pub first_byte-takes : (text : Bytes) (byte : ℕ) (after : Bytes) → first_byte text ≡ Some (byte, after) → FirstByte text byte after
first_byte-takes [] byte after e = absurd (none_some e)
first_byte-takes (b ∷ rest) byte after e = by (b == 92) refl (is_literal b) refl
  where
    letter : (rest : Bytes) → behind_backslash rest ≡ Some (byte, after) → FirstByte (92 ∷ rest) byte after
    letter [] e = absurd (none_some e)
    letter (c ∷ rest) e = of (spelled_byte c) refl
      where
        of : (r : Option ℕ) → spelled_byte c ≡ r → FirstByte (92 ∷ c ∷ rest) byte after
        of None r = absurd (none_some (sym (ap (option_map (λ (b : ℕ). (b, rest))) r) ∙ e))
        of (Some d) r =
            let same : (d, rest) ≡ (byte, after) = some_is (sym (ap (option_map (λ (b : ℕ). (b, rest))) r) ∙ e) in
            subst (λ (p : ℕ × Bytes). FirstByte (92 ∷ c ∷ rest) p.0 p.1) same (record {
              spelled = unescaped-pair c rest ∙ ap (option_and_then (λ byte. option_map (λ (bytes : Bytes). byte ∷ bytes) (unescaped rest))) r;
              shorter = omega arith;
            })

    by : (p : Bool) → (b == 92) ≡ p → (q : Bool) → is_literal b ≡ q → FirstByte (b ∷ rest) byte after
    by true p q q' = subst (λ (x : ℕ). FirstByte (x ∷ rest) byte after) (sym (eqb-true b 92 p)) (letter rest (sym (rw p refl) ∙ e))
    by false p true q =
        let same : (b, rest) ≡ (byte, after) = some_is (sym (first_byte-literal b rest p q) ∙ e) in
        subst (λ (p : ℕ × Bytes). FirstByte (b ∷ rest) p.0 p.1) same (record { spelled = unescaped-literal b rest q; shorter = omega arith })
    by false p false q = absurd (none_some {x = (byte, after)} (sym (rw (q, p) refl) ∙ e))

pub first_byte-none : (text : Bytes) → text ≢ [] → first_byte text ≡ None → unescaped text ≡ None
first_byte-none [] some e = absurd (some refl)
first_byte-none (b ∷ rest) some e = by (b == 92) refl (is_literal b) refl
  where
    letter : (rest : Bytes) → behind_backslash rest ≡ None → unescaped (92 ∷ rest) ≡ None
    letter [] e = unescaped-alone
    letter (c ∷ rest) e = of (spelled_byte c) refl
      where
        of : (r : Option ℕ) → spelled_byte c ≡ r → unescaped (92 ∷ c ∷ rest) ≡ None
        of None r = unescaped-pair c rest ∙ ap (option_and_then (λ byte. option_map (λ (bytes : Bytes). byte ∷ bytes) (unescaped rest))) r
        of (Some d) r = absurd (some_none (sym (ap (option_map (λ (b : ℕ). (b, rest))) r) ∙ e))

    by : (p : Bool) → (b == 92) ≡ p → (q : Bool) → is_literal b ≡ q → unescaped (b ∷ rest) ≡ None
    by true p q q' = ap (λ (x : ℕ). unescaped (x ∷ rest)) (eqb-true b 92 p) ∙ letter rest (sym (rw p refl) ∙ e)
    by false p true q = absurd (some_none (sym (first_byte-literal b rest p q) ∙ e))
    by false p false q = unescaped-bad b rest p q

-- ---- what is read so far, and what is left

-- the text spells what is read and then what the rest spells
abbrev pub SpelledTo : Bytes → Bytes → Bytes → Type 0
SpelledTo text done rest = unescaped text ≡ option_map (λ (more : Bytes). done ++ more) (unescaped rest)

pub spelled-start : (text : Bytes) → SpelledTo text [] text
spelled-start text = by (unescaped text) refl
  where
    by : (r : Option Bytes) → unescaped text ≡ r → SpelledTo text [] text
    by None r = r ∙ sym (ap (option_map (λ (more : Bytes). [] ++ more)) r)
    by (Some raw) r = r ∙ sym (ap (option_map (λ (more : Bytes). [] ++ more)) r)

pub spelled-more : (text done rest : Bytes) (byte : ℕ) (after : Bytes) → SpelledTo text done rest → FirstByte rest byte after → SpelledTo text (done ++ byte ∷ []) after
spelled-more text done rest byte after s f = s ∙ ap (option_map (λ (more : Bytes). done ++ more)) f.spelled ∙ by (unescaped after)
  where
    by : (r : Option Bytes) → option_map (λ (more : Bytes). done ++ more) (option_map (λ (more : Bytes). byte ∷ more) r) ≡ option_map (λ (more : Bytes). (done ++ byte ∷ []) ++ more) r
    by None = refl
    by (Some raw) = ap (λ (x : Bytes). Some x) (sym (append_assoc done (byte ∷ []) raw))

pub spelled-bad : (text done rest : Bytes) → SpelledTo text done rest → (length rest == 0) ≡ false → first_byte rest ≡ None → unescaped text ≡ None
spelled-bad text done rest s some e = s ∙ ap (option_map (λ (more : Bytes). done ++ more)) (first_byte-none rest (λ h. true≢false (sym (ap (λ (x : Bytes). length x == 0) h) ∙ some)) e)

pub spelled-all : (text done rest : Bytes) → SpelledTo text done rest → (length rest == 0) ≡ true → unescaped text ≡ Some done
spelled-all text done [] s h = s ∙ ap (option_map (λ (more : Bytes). done ++ more)) unescaped-none ∙ ap (λ (x : Bytes). Some x) (append-nil done)
spelled-all text done (b ∷ rest) s h = absurd (true≢false (sym h ∙ differs (length (b ∷ rest)) 0 (λ e. omega (arith, e))))
