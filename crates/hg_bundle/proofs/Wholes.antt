-- A text that ends a payload, as a part of it.
use Rattle.std.proofs.Common.{◌≡◌, ◌-◌, ℕ, List, Result, Ok, Err, IfOk, ap, sym, subst, ◌∙◌, length, take, drop, length-drop, drop-drop}
use Rattle.std.specs.Prelude.{slice_range}
use Rattle.std.proofs.Math.Seq.{take-length}
use Rattle.text_model.specs.Text.{Bytes}
use Rattle.hg_hunk.specs.Faults.{HasPatchedText}

-- all that stands behind a place
pub behind : (at : ℕ) (xs : List ℕ) → take (length xs - at) (drop at xs) ≡ drop at xs
behind at xs = ap (λ (n : ℕ). take n (drop at xs)) (sym (length-drop at xs)) ∙ take-length (drop at xs)

-- what stands behind the numbers of the delta's first hunk ends the payload
whole_part : (payload delta : Bytes) → delta ≡ drop 80 payload → slice_range payload 92 (length payload) ≡ drop 12 delta
whole_part payload delta ends = behind 92 payload ∙ sym (drop-drop 12 80 payload) ∙ ap (drop 12) (sym ends)

pub patched_part : {E : Type 0} (base delta payload : Bytes) (r : Result Bytes E) → delta ≡ drop 80 payload → HasPatchedText base delta (drop 12 delta)
    → IfOk r (λ piece. piece ≡ slice_range payload 92 (length payload)) → IfOk r (HasPatchedText base delta)
patched_part base delta payload (Ok piece) ends has is = subst (HasPatchedText base delta) (sym (is ∙ whole_part payload delta ends)) has
patched_part base delta payload (Err e) ends has is = tt
