use Rattle.std.proofs.Common.{arith}
use Rattle.text_model.proofs.ByteLemmas.{IsBytes-by_index}
use Rattle.mark_code.proofs.residue_text.put_path.Goals as goal

pub returns-clause-bytes : goal.returns-clause-bytes
returns-clause-bytes c = IsBytes-by_index c.args.path.now (λ i. omega (arith, c.type_inv.path i))
