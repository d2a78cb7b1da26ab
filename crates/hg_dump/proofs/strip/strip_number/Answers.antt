use Rattle.std.proofs.Common.{subst}
use Rattle.text_model.specs.Text.{Bytes}
use Rattle.hg_dump.specs.Begins.{IsBehind}
use Rattle.hg_dump.proofs.strip.strip_number.Goals as goal

pub returns : goal.returns
returns c = subst (λ (f : Bytes). IsBehind c.args.bytes.now f c.strip.result) c.write_u32.ensures c.strip.ensures
