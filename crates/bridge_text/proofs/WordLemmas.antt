-- Ids that have the same words are the same.
use Rattle.std.proofs.Common.{◌≡◌, ◌<◌, ◌∙◌, ◌↔◌, ◌&&◌, ℕ, zero, suc, Bool, true, false, List, IsTrue, length, get_or, nat_eq, refl, sym, ap, arith}
use Rattle.std.specs.Cmp.Lexicographic.{pointwise, bytes_decides}
use Rattle.std.proofs.lemmas.Grind.{same_number_lists}
use Rattle.bridge_text.specs.Words.{word_of}

-- the same byte stands at each place
at_each : (a b : List ℕ) → word_of a 0 ≡ word_of b 0 → word_of a 8 ≡ word_of b 8 → word_of a 12 ≡ word_of b 12 → (k : ℕ) → k < 20 → get_or a k 0 ≡ get_or b k 0
at_each a b first second third zero lt = ap (λ (l : List ℕ). get_or l 0 0) first
at_each a b first second third (suc zero) lt = ap (λ (l : List ℕ). get_or l 1 0) first
at_each a b first second third (suc (suc zero)) lt = ap (λ (l : List ℕ). get_or l 2 0) first
at_each a b first second third (suc (suc (suc zero))) lt = ap (λ (l : List ℕ). get_or l 3 0) first
at_each a b first second third (suc (suc (suc (suc zero)))) lt = ap (λ (l : List ℕ). get_or l 4 0) first
at_each a b first second third (suc (suc (suc (suc (suc zero))))) lt = ap (λ (l : List ℕ). get_or l 5 0) first
at_each a b first second third (suc (suc (suc (suc (suc (suc zero)))))) lt = ap (λ (l : List ℕ). get_or l 6 0) first
at_each a b first second third (suc (suc (suc (suc (suc (suc (suc zero))))))) lt = ap (λ (l : List ℕ). get_or l 7 0) first
at_each a b first second third (suc (suc (suc (suc (suc (suc (suc (suc zero)))))))) lt = ap (λ (l : List ℕ). get_or l 0 0) second
at_each a b first second third (suc (suc (suc (suc (suc (suc (suc (suc (suc zero))))))))) lt = ap (λ (l : List ℕ). get_or l 1 0) second
at_each a b first second third (suc (suc (suc (suc (suc (suc (suc (suc (suc (suc zero)))))))))) lt = ap (λ (l : List ℕ). get_or l 2 0) second
at_each a b first second third (suc (suc (suc (suc (suc (suc (suc (suc (suc (suc (suc zero))))))))))) lt = ap (λ (l : List ℕ). get_or l 3 0) second
at_each a b first second third (suc (suc (suc (suc (suc (suc (suc (suc (suc (suc (suc (suc zero)))))))))))) lt = ap (λ (l : List ℕ). get_or l 4 0) second
at_each a b first second third (suc (suc (suc (suc (suc (suc (suc (suc (suc (suc (suc (suc (suc zero))))))))))))) lt = ap (λ (l : List ℕ). get_or l 5 0) second
at_each a b first second third (suc (suc (suc (suc (suc (suc (suc (suc (suc (suc (suc (suc (suc (suc zero)))))))))))))) lt = ap (λ (l : List ℕ). get_or l 6 0) second
at_each a b first second third (suc (suc (suc (suc (suc (suc (suc (suc (suc (suc (suc (suc (suc (suc (suc zero))))))))))))))) lt = ap (λ (l : List ℕ). get_or l 7 0) second
at_each a b first second third (suc (suc (suc (suc (suc (suc (suc (suc (suc (suc (suc (suc (suc (suc (suc (suc zero)))))))))))))))) lt = ap (λ (l : List ℕ). get_or l 4 0) third
at_each a b first second third (suc (suc (suc (suc (suc (suc (suc (suc (suc (suc (suc (suc (suc (suc (suc (suc (suc zero))))))))))))))))) lt = ap (λ (l : List ℕ). get_or l 5 0) third
at_each a b first second third (suc (suc (suc (suc (suc (suc (suc (suc (suc (suc (suc (suc (suc (suc (suc (suc (suc (suc zero)))))))))))))))))) lt = ap (λ (l : List ℕ). get_or l 6 0) third
at_each a b first second third (suc (suc (suc (suc (suc (suc (suc (suc (suc (suc (suc (suc (suc (suc (suc (suc (suc (suc (suc zero))))))))))))))))))) lt = ap (λ (l : List ℕ). get_or l 7 0) third
at_each a b first second third (suc (suc (suc (suc (suc (suc (suc (suc (suc (suc (suc (suc (suc (suc (suc (suc (suc (suc (suc (suc k)))))))))))))))))))) lt = absurd (omega (arith, lt))

-- a test that can't hold doesn't
fails : (t : Bool) → (t ≡ true → false ≡ true) → false ≡ t
fails true apart = apart refl
fails false apart = refl

pub same_words : (a b : List ℕ) (x y z : Bool) → length a ≡ 20 → length b ≡ 20
    → (IsTrue x ↔ word_of a 0 ≡ word_of b 0) → (IsTrue y ↔ word_of a 8 ≡ word_of b 8) → (IsTrue z ↔ word_of a 12 ≡ word_of b 12)
    → (x && y) && z ≡ pointwise nat_eq a b
same_words a b true true true long other first second third =
    sym ((bytes_decides a b).1 (same_number_lists a b (long ∙ sym other) (λ k lt. at_each a b (first.0 refl) (second.0 refl) (third.0 refl) k (omega (arith, long, lt)))))
same_words a b false y z long other first second third =
    fails (pointwise nat_eq a b) (λ same. first.1 (ap (λ (l : List ℕ). word_of l 0) ((bytes_decides a b).0 same)))
same_words a b true false z long other first second third =
    fails (pointwise nat_eq a b) (λ same. second.1 (ap (λ (l : List ℕ). word_of l 8) ((bytes_decides a b).0 same)))
same_words a b true true false long other first second third =
    fails (pointwise nat_eq a b) (λ same. third.1 (ap (λ (l : List ℕ). word_of l 12) ((bytes_decides a b).0 same)))
