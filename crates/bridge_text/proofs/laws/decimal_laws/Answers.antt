use Rattle.std.proofs.Common.{◌^◌, arith}
use Rattle.text_model.proofs.DecimalLemmas.{decimal_below-decimal, decimal_below-takes}
use Rattle.bridge_text.proofs.laws.decimal_laws.Goals as goal

pub returns-clause-again : goal.returns-clause-again
returns-clause-again c n small = decimal_below-decimal (2 ^ 64) n small small

pub returns-clause-takes : goal.returns-clause-takes
returns-clause-takes c text n e = (decimal_below-takes (2 ^ 64) text n (omega arith) e).0
