-- A piece stands in bytes where a search finds it.
use Rattle.std.proofs.Common.{◌≡◌, ℕ, zero, suc, ◌==◌, Bool, true, false, ◌||◌, [], ◌∷◌, length, take, length-take, Option, Some, None, refl, sym, ap, ◌∙◌, arith}
use Rattle.std.specs.Prelude.{is_some}
use Rattle.std.specs.List.{starts_with}
use Rattle.std.proofs.lemmas.Bool.{eqb-true, eq-eqb}
use Rattle.std.proofs.lemmas.Slice.Eq.{bytes_eq-Decides}
use Rattle.memchr.specs.Find.{OccursAt, FindsNeedle}
use Rattle.memchr.proofs.lemmas.MatchLemmas.{OccursAt-part, OccursAt-from_part}
use Rattle.text_model.specs.Text.{Bytes, has_piece}
use Rattle.text_model.proofs.TestLemmas.{or_true}
use Rattle.text_model.proofs.Options.{or_neither}

begins : (piece bytes : Bytes) → starts_with ◌==◌ bytes piece ≡ true → OccursAt bytes piece 0
begins piece bytes e =
    let part : take (length piece) bytes ≡ piece = sym ((bytes_eq-Decides piece (take (length piece) bytes)).0 e) in
    OccursAt-from_part bytes piece 0 (omega (arith, ap (λ (x : Bytes). length x) part, length-take (length piece) bytes)) part

-- one byte on
later : (piece : Bytes) (b : ℕ) (bytes : Bytes) (k : ℕ) → OccursAt bytes piece k → OccursAt (b ∷ bytes) piece (suc k)
later piece b bytes k occurs = OccursAt-from_part (b ∷ bytes) piece (suc k) (omega (arith, occurs.fits)) (OccursAt-part bytes piece k occurs)

earlier : (piece : Bytes) (b : ℕ) (bytes : Bytes) (k : ℕ) → OccursAt (b ∷ bytes) piece (suc k) → OccursAt bytes piece k
earlier piece b bytes k occurs = OccursAt-from_part bytes piece k (omega (arith, occurs.fits)) (OccursAt-part (b ∷ bytes) piece (suc k) occurs)

-- the piece is nowhere in what it doesn't occur in
nowhere : (piece bytes : Bytes) → ((k : ℕ) → OccursAt bytes piece k → ⊥) → has_piece piece bytes ≡ false
nowhere piece [] none = by (length piece == 0) refl
  where
    by : (t : Bool) → (length piece == 0) ≡ t → (length piece == 0) ≡ false
    by true e = let empty = eqb-true (length piece) 0 e in absurd (none 0 (record { fits = omega arith; reads = λ j lt. absurd (omega (arith, empty, lt)) }))
    by false e = e
nowhere piece (b ∷ bytes) none =
    or_neither (starts_with ◌==◌ (b ∷ bytes) piece) (has_piece piece bytes) (by (starts_with ◌==◌ (b ∷ bytes) piece) refl) (nowhere piece bytes (λ k occurs. none (suc k) (later piece b bytes k occurs)))
  where
    by : (t : Bool) → starts_with ◌==◌ (b ∷ bytes) piece ≡ t → starts_with ◌==◌ (b ∷ bytes) piece ≡ false
    by true e = absurd (none 0 (begins piece (b ∷ bytes) e))
    by false e = e

there : (piece bytes : Bytes) (k : ℕ) → OccursAt bytes piece k → has_piece piece bytes ≡ true
there piece [] k occurs = eq-eqb (length piece) 0 (omega (arith, occurs.fits))
there piece (b ∷ bytes) zero occurs =
    ap (λ (t : Bool). t || has_piece piece bytes) ((bytes_eq-Decides piece (take (length piece) (b ∷ bytes))).1 (sym (OccursAt-part (b ∷ bytes) piece 0 occurs)))
there piece (b ∷ bytes) (suc k) occurs =
    ap (λ (t : Bool). starts_with ◌==◌ (b ∷ bytes) piece || t) (there piece bytes k (earlier piece b bytes k occurs)) ∙ or_true (starts_with ◌==◌ (b ∷ bytes) piece)

-- what the search answers
pub finds : (piece bytes : Bytes) (o : Option ℕ) → FindsNeedle bytes piece 0 o → is_some o ≡ has_piece piece bytes
finds piece bytes None h = sym (nowhere piece bytes (λ k occurs. h k (omega arith) (omega (arith, occurs.fits)) occurs))
finds piece bytes (Some k) h = sym (there piece bytes k h.1)
