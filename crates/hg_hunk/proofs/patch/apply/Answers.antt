use Rattle.std.proofs.Common.{arith}
use Rattle.hg_hunk.proofs.Fills.{length-patched}
use Rattle.hg_hunk.proofs.patch.apply.Goals as goal

pub returns-clause-most : goal.returns-clause-most
returns-clause-most c =
    let size = length-patched c.args.base.now c.args.delta.now c.fill.new.out.items c.in_ok-len.len c.in_ok-len.ensures.size c.fill.ensures.reading in
    omega (arith, size, c.in_ok-len.ensures.most)
