use Rattle.std.proofs.Common.{◌<◌, ℕ, suc, List, [], ◌∷◌, length, get_or, arith}
use Rattle.std.proofs.lemmas.Result.{on_ok_weaker}
use Rattle.text_model.specs.Text.{IsBytes}
use Rattle.link_rule.proofs.octopus.Octopus.value_into.Goals as goal

-- what the code knows of a vector of bytes
bytes-within : (bytes : List ℕ) → ((i d : ℕ) → i < length bytes → get_or bytes i d < 256) → IsBytes bytes
bytes-within [] h = tt
bytes-within (b ∷ bytes) h = (h 0 0 (omega arith), bytes-within bytes (λ i d below. h (suc i) d (omega (arith, below))))

pub returns-clause-bytes : goal.returns-clause-bytes
returns-clause-bytes c = on_ok_weaker c.decimal_into-2.result (λ _. bytes-within c.decimal_into-2.new.out.items c.type_inv.out) c.decimal_into-2.ensures.ok
