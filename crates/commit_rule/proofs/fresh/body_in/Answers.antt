use Rattle.std.proofs.Common.{true≢false}
use Rattle.commit_rule.proofs.fresh.body_in.Goals as goal

pub unreachable-requires : goal.unreachable-requires
unreachable-requires c = true≢false (c.in-Err.ensures.taken c.requires.file.0 c.requires.file.1 c.requires.file.2)

pub returns : goal.returns
returns c = λ meta body is. (c.in-Ok.ensures.only meta body is).1
