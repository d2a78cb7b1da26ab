-- Escapes as they are read: each text is the escape of some bytes or of none.
use Rattle.std.proofs.Common.{◌≡◌, ◌≢◌, ◌<◌, ◌==◌, ℕ, Bool, true, false, [], ◌∷◌, ◌++◌, length, Option, Some, None, option_map, refl, sym, ap, subst, ◌∙◌, append_assoc, append-nil, arith, inl, inr}
use Rattle.std.specs.Option.{option_and_then}
use Rattle.text_model.proofs.Options.{none_some, some_is}
use Rattle.text_model.specs.Text.{Bytes, IsBytes}
use Rattle.text_model.specs.Escape.{is_plain, escape, escaped_byte, IsEscapeOf, IsBadEscapeAt}
use Rattle.text_model.specs.Unescape.{hex_byte, first_byte}
use Rattle.text_model.proofs.EscapeLemmas.{escaped_byte-some, first_byte-takes, first_byte-again, escape-judged}
use Rattle.mark_code.specs.Reading.{raw_of}

-- a byte before what the rest is the escape of
abbrev onto : ℕ × Bytes → Option Bytes
onto p = option_map (λ more. p.0 ∷ more) (raw_of p.1)

-- the first byte, and then the rest
raw_of-first : (b : ℕ) (text : Bytes) → raw_of (b ∷ text) ≡ option_and_then onto (first_byte (b ∷ text))
unfolding raw_of
raw_of-first b [] = by (is_plain b) refl (b == 37) refl
  where
    by : (s : Bool) → is_plain b ≡ s → (t : Bool) → (b == 37) ≡ t → raw_of (b ∷ []) ≡ option_and_then onto (first_byte (b ∷ []))
    by true s t u = rw s refl
    by false s true u = rw (s, u) refl
    by false s false u = rw (s, u) refl
raw_of-first b (c ∷ []) = by (is_plain b) refl (b == 37) refl
  where
    by : (s : Bool) → is_plain b ≡ s → (t : Bool) → (b == 37) ≡ t → raw_of (b ∷ c ∷ []) ≡ option_and_then onto (first_byte (b ∷ c ∷ []))
    by true s t u = rw s refl
    by false s true u = rw (s, u) refl
    by false s false u = rw (s, u) refl
raw_of-first b (c ∷ d ∷ rest) = by (is_plain b) refl (b == 37) refl (hex_byte c d) refl
  where
    by : (s : Bool) → is_plain b ≡ s → (t : Bool) → (b == 37) ≡ t → (r : Option ℕ) → hex_byte c d ≡ r → raw_of (b ∷ c ∷ d ∷ rest) ≡ option_and_then onto (first_byte (b ∷ c ∷ d ∷ rest))
    by true s t u r h = rw s refl
    by false s true u None h = rw (s, u, h) refl
    by false s true u (Some x) h = rw (s, u, h) refl
    by false s false u r h = rw (s, u) refl

raw_of-by : (text : Bytes) → 0 < length text → raw_of text ≡ option_and_then onto (first_byte text)
raw_of-by [] some = absurd (omega arith)
raw_of-by (b ∷ text) some = raw_of-first b text

raw_of-none : raw_of [] ≡ Some []
unfolding raw_of
raw_of-none = refl

raw_of-byte : (b : ℕ) (rest : Bytes) → b < 256 → raw_of (escaped_byte b ++ rest) ≡ option_map (λ (more : Bytes). b ∷ more) (raw_of rest)
raw_of-byte b rest lt = raw_of-by (escaped_byte b ++ rest) (long (escaped_byte b) (escaped_byte-some b)) ∙ ap (option_and_then onto) (first_byte-again b rest lt)
  where
    long : (front : Bytes) → 0 < length front → 0 < length (front ++ rest)
    long [] h = absurd (omega arith)
    long (x ∷ front) h = omega arith

-- the escape of some bytes, and then the rest
raw_of-front : (before rest : Bytes) → IsBytes before → raw_of (escape before ++ rest) ≡ option_map (λ (more : Bytes). before ++ more) (raw_of rest)
raw_of-front [] rest h = by (raw_of rest)
  where
    by : (r : Option Bytes) → r ≡ option_map (λ (more : Bytes). more) r
    by None = refl
    by (Some raw) = refl
raw_of-front (b ∷ before) rest h =
    ap raw_of (append_assoc (escaped_byte b) (escape before) rest) ∙ raw_of-byte b (escape before ++ rest) h.0
    ∙ ap (option_map (λ (more : Bytes). b ∷ more)) (raw_of-front before rest h.1) ∙ by (raw_of rest)
  where
    by : (r : Option Bytes) → option_map (λ (more : Bytes). b ∷ more) (option_map (λ (more : Bytes). before ++ more) r) ≡ option_map (λ (more : Bytes). b ∷ before ++ more) r
    by None = refl
    by (Some raw) = refl

-- an escape is read
pub raw_of-escape : (raw : Bytes) → IsBytes raw → raw_of (escape raw) ≡ Some raw
raw_of-escape raw h =
    ap raw_of (sym (append-nil (escape raw))) ∙ raw_of-front raw [] h ∙ ap (option_map (λ (more : Bytes). raw ++ more)) raw_of-none ∙ ap (λ (x : Bytes). Some x) (append-nil raw)

-- and a text that is none is not
pub raw_of-bad : (text : Bytes) (place : ℕ) → IsBadEscapeAt text place → raw_of text ≡ None
raw_of-bad text place bad =
    ap raw_of bad.splits ∙ raw_of-front bad.before bad.rest bad.bytes ∙ ap (option_map (λ (more : Bytes). bad.before ++ more)) (none bad.rest bad.more bad.bad)
  where
    none : (rest : Bytes) → rest ≢ [] → ((b : ℕ) (after : Bytes) → b < 256 → rest ≢ escaped_byte b ++ after) → raw_of rest ≡ None
    none [] more other = absurd (more refl)
    none (b ∷ rest) more other = raw_of-first b rest ∙ by (first_byte (b ∷ rest)) refl
      where
        by : (r : Option (ℕ × Bytes)) → first_byte (b ∷ rest) ≡ r → option_and_then onto (first_byte (b ∷ rest)) ≡ None
        by None r = ap (option_and_then onto) r
        by (Some p) r = let t = first_byte-takes (b ∷ rest) p.0 p.1 r in absurd (other p.0 p.1 t.1 t.0)

-- what is read of a text has this escape
pub raw_of-takes : (text raw : Bytes) → raw_of text ≡ Some raw → IsEscapeOf text raw
raw_of-takes text raw e = elim (escape-judged text) [
  | inl is ↦
      let whole : raw_of text ≡ Some is.0 = ap raw_of is.1.1 ∙ raw_of-escape is.0 is.1.0 in
      subst (IsEscapeOf text) (some_is {x = is.0} {y = raw} (sym whole ∙ e)) is.1
  | inr bad ↦ absurd (none_some {x = raw} (sym (raw_of-bad text bad.0 bad.1) ∙ e))
]

-- as it is read into a value that was empty
pub raw_of-appended : (text old new : Bytes) → old ≡ [] → (raw : Bytes) × IsEscapeOf text raw × (new ≡ old ++ raw) → Some new ≡ raw_of text
raw_of-appended text old new none read =
    ap (λ (x : Bytes). Some x) (read.2 ∙ ap (λ (x : Bytes). x ++ read.0) none) ∙ sym (ap raw_of read.1.1 ∙ raw_of-escape read.0 read.1.0)
