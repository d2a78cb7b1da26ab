use Rattle.std.proofs.Common.{[]}
use Rattle.view_model.specs.Dump.{hg_increment}
use Rattle.hg_dump.proofs.bundle.written_len.Goals as goal

pub returns : goal.returns
returns c = λ hs are. c.len.ensures (hg_increment c.args.store.now [] hs) (c.in_ok-collect.ensures.text hs are)
