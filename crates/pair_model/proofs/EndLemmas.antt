-- The last byte of a text.
use Rattle.std.proofs.Common.{◌≡◌, ◌-◌, ◌==◌, ℕ, true, false, [], ◌∷◌, ◌++◌, length, take, drop, refl, sym, ap, ◌∙◌, arith, eq-eqb, eqb-true, true≢false, take-append-drop}
use Rattle.std.specs.List.{ends_with}
use Rattle.std.specs.Cmp.Lexicographic.{pointwise}
use Rattle.std.proofs.lemmas.List.{take_at, drop_at, length-append}
use Rattle.text_model.specs.Text.{Bytes}
use Rattle.text_model.proofs.TestLemmas.{both}

-- a text with one more byte has it at its end, and is the text without it
pub without_last-push : (text : Bytes) (b : ℕ) → take (length (text ++ b ∷ []) - 1) (text ++ b ∷ []) ≡ text
without_last-push text b =
    let long : length (text ++ b ∷ []) - 1 ≡ length text = omega (arith, length-append text (b ∷ [])) in
    rw long (take_at text (b ∷ []) (length text) refl)

pub ends_with-push : (text : Bytes) (b : ℕ) → ends_with ◌==◌ (text ++ b ∷ []) (b ∷ []) ≡ true
ends_with-push text b =
    let long : length (text ++ b ∷ []) - 1 ≡ length text = omega (arith, length-append text (b ∷ [])) in
    rw (long, drop_at text (b ∷ []) (length text) refl, eq-eqb b b refl) refl

one_byte : (b : ℕ) (text : Bytes) → pointwise ◌==◌ (b ∷ []) text ≡ true → text ≡ b ∷ []
one_byte b [] h = absurd (true≢false (sym h))
one_byte b (x ∷ []) h = λ i. sym (eqb-true b x (both (b == x) true h).0) i ∷ []
one_byte b (x ∷ y ∷ ys) h = absurd (true≢false (sym (both (b == x) false h).1))

pub ends_with-last : (text : Bytes) (b : ℕ) → ends_with ◌==◌ text (b ∷ []) ≡ true → text ≡ take (length text - 1) text ++ b ∷ []
ends_with-last text b h = sym (take-append-drop (length text - 1) text) ∙ ap (λ (l : Bytes). take (length text - 1) text ++ l) (one_byte b (drop (length text - 1) text) h)
