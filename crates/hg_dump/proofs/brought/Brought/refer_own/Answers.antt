use Rattle.std.proofs.lemmas.Result.{on_ok_weaker}
use Rattle.hg_dump.specs.Marks.{own_mark, meet}
use Rattle.hg_dump.proofs.brought.Brought.refer_own.Goals as goal

pub returns : goal.returns
returns c = on_ok_weaker c.refer_manifest.result (λ last s is. last (meet c.args.is_new s (own_mark c.args.node.now)) (c.in_ok-refer.ensures s is)) c.refer_manifest.ensures
