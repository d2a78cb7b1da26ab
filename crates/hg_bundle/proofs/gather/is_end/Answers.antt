use Rattle.std.proofs.Common.{arith}
use Rattle.text_model.proofs.ByteLemmas.{IsBytes-by_index}
use Rattle.hg_bundle.proofs.gather.is_end.Goals as goal

pub returns-clause-bytes : goal.returns-clause-bytes
returns-clause-bytes c = IsBytes-by_index c.args.chunk.now (λ i. omega (arith, c.type_inv.chunk i))
