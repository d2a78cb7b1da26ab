use Rattle.std.proofs.lemmas.Result.{IfOk-weaker}
use Rattle.pair_model.specs.Block.{commits_in}
use Rattle.state_text.proofs.Written.{walkable-in, stream-is}
use Rattle.state_text.proofs.write.dump_commits.Goals as goal

pub write-requires-clause-commits : goal.write-requires-clause-commits
write-requires-clause-commits c =
    let m = c.requires.stands.0 in
    (commits_in m.blocks, walkable-in c.args.state.now m.blocks (c.requires.stands.1).blocks c.known.result.now c.known.ensures c.commits.result.now c.commits.ensures)

pub returns : goal.returns
returns c = IfOk-weaker c.write.result _ _
    (λ bytes written m h. stream-is c.args.state.now m.blocks h.blocks c.known.result.now c.known.ensures c.commits.result.now bytes c.commits.ensures written)
    c.write.ensures
