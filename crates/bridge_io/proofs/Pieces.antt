-- Pieces of a list, and what a call that is cut leaves of it.
use Rattle.std.proofs.Common.{◌≡◌, ℕ, ◌+◌, ◌<◌, ◌≤◌, List, [], ◌∷◌, ◌++◌, length, take, drop, min, refl, sym, ap, ◌∙◌, arith, append_assoc, length-drop}
use Rattle.std.proofs.lemmas.List.{take-append-drop, drop-drop}
use Rattle.bridge_io.specs.Memory.{cut_len}

-- n more bytes go from the rest to the front
pub front_grows : (xs front rest : List ℕ) (n : ℕ) → xs ≡ front ++ rest → xs ≡ (front ++ take n rest) ++ drop n rest
front_grows xs front rest n e =
    e ∙ ap (λ (l : List ℕ). front ++ l) (sym (take-append-drop n rest)) ∙ sym (append_assoc front (take n rest) (drop n rest))

-- the bytes from `at` on are the n that were given, and those after them
pub gives_front : (xs given : List ℕ) (at n : ℕ) → take n given ≡ take n (drop at xs) → drop at xs ≡ take n given ++ drop (at + n) xs
gives_front xs given at n e =
    sym (take-append-drop n (drop at xs))
    ∙ ap (λ (l : List ℕ). take n (drop at xs) ++ l) (drop-drop n at xs)
    ∙ ap (λ (l : List ℕ). l ++ drop (at + n) xs) (sym e)

-- where a call into some room gives nothing of what is left, nothing is left
pub gives_end : (xs : List ℕ) (at cut room n : ℕ) → n ≡ cut_len cut (min room (length (drop at xs))) → n ≡ 0 → 0 < room → drop (at + n) xs ≡ []
gives_end xs at cut room n count none some =
    empty_list (drop (at + n) xs) (grind (arith, no_length (length (drop at xs)) cut room n count none some, length-drop at xs, length-drop (at + n) xs))
  where
    no_length : (len cut room n : ℕ) → n ≡ cut_len cut (min room len) → n ≡ 0 → 0 < room → len ≤ 0
    no_length len cut room n count none some = grind arith

    empty_list : (xs : List ℕ) → length xs ≤ 0 → xs ≡ []
    empty_list [] h = refl
    empty_list (x ∷ xs) h = absurd (omega arith)
