use Rattle.std.proofs.lemmas.Result.{IfOk-weaker}
use Rattle.pair_model.specs.Block.{changesets_in}
use Rattle.state_text.proofs.Written.{held-in, bundle-is}
use Rattle.state_text.proofs.write.dump_hg.Goals as goal

pub write-requires-clause-held : goal.write-requires-clause-held
write-requires-clause-held c =
    let m = c.requires.stands.0 in
    (changesets_in m.blocks, held-in c.args.state.now m.blocks (c.requires.stands.1).blocks c.known.result.now c.known.ensures c.changesets.result.now c.changesets.ensures)

pub returns : goal.returns
returns c = IfOk-weaker c.write.result _ _
    (λ bytes written m h. bundle-is c.args.state.now m.blocks h.blocks c.known.result.now c.known.ensures c.changesets.result.now bytes c.changesets.ensures written)
    c.write.ensures
