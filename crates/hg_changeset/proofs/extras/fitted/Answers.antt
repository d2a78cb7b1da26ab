use Rattle.std.proofs.Common.{ℕ, suc, List, [], ◌∷◌, ◌<◌, length, arith, sym, subst, ◌∙◌}
use Rattle.std.specs.List.{slice_index}
use Rattle.text_model.specs.Text.{Bytes, IsBytes}
use Rattle.hg_changeset.proofs.extras.fitted.Goals as goal

IsBytes-within : (bytes : List ℕ) → ((i : ℕ) → i < length bytes → slice_index bytes i < 256) → IsBytes bytes
IsBytes-within [] h = tt
IsBytes-within (b ∷ bytes) h = (h 0 (omega arith), IsBytes-within bytes (λ i below. h (suc i) (omega (arith, below))))

pub returns-clause-bytes : goal.returns-clause-bytes
returns-clause-bytes c =
    let raw = IsBytes-within c.into_vec-raw.result.items (λ i below. omega (arith, below)) in
    subst (λ (x : Bytes). IsBytes x) (sym (c.keep.ensures ∙ c.shrink_to_fit.ensures.items)) raw
