-- What the six first bytes say of the magic.
use Rattle.std.proofs.Common.{◌≡◌, ℕ, List, ◌++◌, length, take, Option, None, Some, IfSome, sym, ap, ◌∙◌, subst, arith, length-append}
use Rattle.std.proofs.lemmas.List.{take_at}
use Rattle.std.specs.Io.KnownBytes.{Consumes}
use Rattle.text_model.specs.Fault.{Refusal, reach}
use Rattle.text_model.proofs.FaultLemmas.{reach-within}
use Rattle.hg_model.specs.Chunk.{or_else, magic_fault, other_magic}

-- what is said of the refusal by six bytes that came holds of all
pub told_of_magic : (P : Option Refusal → Type 0) (old mid : Option (List ℕ)) (first : List ℕ) → length first ≡ 6 → Consumes old mid first → P (other_magic first)
    → IfSome old (λ bytes. P (magic_fault bytes))
unfolding magic_fault
told_of_magic P None mid first size took holds = tt
told_of_magic P (Some xs) None first size took holds = absurd took
told_of_magic P (Some xs) (Some ys) first size took holds =
    let enough : reach (length (first ++ ys)) 6 ≡ None = reach-within (length (first ++ ys)) 6 (omega (arith, length-append first ys, size)) (omega arith) in
    let same : other_magic first ≡ magic_fault (first ++ ys) =
    ap other_magic (sym (take_at first ys 6 size)) ∙ ap (λ (f : Option Refusal). or_else f (other_magic (take 6 (first ++ ys)))) (sym enough) in
    subst (λ (bytes : List ℕ). P (magic_fault bytes)) (sym took) (subst P same holds)
