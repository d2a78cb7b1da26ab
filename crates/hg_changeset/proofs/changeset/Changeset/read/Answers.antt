use Rattle.std.proofs.Common.{arith}
use Rattle.text_model.proofs.ByteLemmas.{IsBytes-by_index}
use Rattle.hg_changeset.proofs.changeset.Changeset.read.Goals as goal

pub read_behind-requires-clause-bytes : goal.read_behind-requires-clause-bytes
read_behind-requires-clause-bytes c = IsBytes-by_index c.args.text.now (λ i. omega (arith, c.type_inv.text i))
