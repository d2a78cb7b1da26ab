-- Bytes that stand nowhere: by test and element by element.
use Rattle.std.proofs.Common.{◌≡◌, ◌==◌, ℕ, false, ◌≢◌, [], ◌∷◌, ◌++◌, refl, sym, ◌∙◌}
use Rattle.std.proofs.lemmas.Bool.{or_parts, or_from, eq-eqb, false≢true}
use Rattle.text_model.specs.Text.{Bytes, has_byte}
use Rattle.text_model.specs.Cuts.{Lacks}
use Rattle.text_model.proofs.EachLemmas.{Each-append, Each-front, Each-rest}
use Rattle.text_model.proofs.TestLemmas.{differs}

-- the byte stands nowhere where the test finds none
pub Lacks-by_test : (b : ℕ) (bytes : Bytes) → has_byte b bytes ≡ false → Lacks b bytes
Lacks-by_test b [] h = tt
Lacks-by_test b (x ∷ xs) h =
    let parts = or_parts (x == b) (has_byte b xs) h in
    ((λ same. false≢true (sym parts.0 ∙ eq-eqb x b same)), Lacks-by_test b xs parts.1)

pub has_byte-lacks : (b : ℕ) (bytes : Bytes) → Lacks b bytes → has_byte b bytes ≡ false
has_byte-lacks b [] h = refl
has_byte-lacks b (x ∷ xs) h = or_from (x == b) (has_byte b xs) (differs x b h.0) (has_byte-lacks b xs h.1)

pub Lacks-append : (b : ℕ) (front rest : Bytes) → Lacks b front → Lacks b rest → Lacks b (front ++ rest)
Lacks-append b front rest f r = Each-append (λ x. x ≢ b) front rest f r

pub Lacks-front : (b : ℕ) (front rest : Bytes) → Lacks b (front ++ rest) → Lacks b front
Lacks-front b front rest h = Each-front (λ x. x ≢ b) front rest h

pub Lacks-rest : (b : ℕ) (front rest : Bytes) → Lacks b (front ++ rest) → Lacks b rest
Lacks-rest b front rest h = Each-rest (λ x. x ≢ b) front rest h
