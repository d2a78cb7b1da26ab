use Rattle.std.proofs.Common.{arith}
use Rattle.text_model.proofs.ByteLemmas.{IsBytes-by_index}
use Rattle.mark_code.proofs.escape.escaped.Goals as goal

pub returns-clause-bytes : goal.returns-clause-bytes
returns-clause-bytes c = IsBytes-by_index c.args.raw.now (λ i. omega (arith, c.type_inv.raw i))
