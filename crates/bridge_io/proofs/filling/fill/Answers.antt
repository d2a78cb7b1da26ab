use Rattle.std.proofs.Common.{◌≡◌, ◌-◌, ◌∙◌, arith, length}
use Rattle.bridge_io.proofs.FillLemmas.{filled_more}
use Rattle.bridge_io.proofs.filling.fill.Goals as goal

pub loop-filled-preserved : goal.loop-filled-preserved
loop-filled-preserved g c =
    let n = c.in_ok-count.count in
    let at = c.loop-filled.filled in
    let size : length c.read.new.buf ≡ length c.loop-filled.buf - at = omega (arith, c.read.auto.buf) in
    record {
      within = omega (arith, c.read.auto.buf, c.in_ok-count.ensures.bound.0);
      bytes = filled_more _ _ _ at n c.loop-filled.buf c.read.new.buf c.loop-filled.invariant.within size c.in_ok-count.ensures.bound.0
          c.loop-filled.invariant.bytes c.in_ok-count.ensures.bytes.0;
      kept = c.in_ok-count.ensures.cause.kept ∙ c.loop-filled.invariant.kept;
    }
