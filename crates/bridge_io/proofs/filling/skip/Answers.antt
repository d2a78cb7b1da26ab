use Rattle.std.proofs.Common.{◌∙◌, arith}
use Rattle.std.proofs.lemmas.List.{length-take}
use Rattle.bridge_io.proofs.FillLemmas.{gave_more}
use Rattle.bridge_io.proofs.filling.skip.Goals as goal

pub pieces-preserved : goal.pieces-preserved
pieces-preserved g c = record {
  gave = gave_more _ _ _ c.pieces.came c.in_ok-more.more c.fill.new.buf c.pieces.invariant.gave c.in_ok-more.ensures.bound c.in_ok-more.ensures.bytes;
  within = omega (arith, c.fill.auto.buf, c.in_ok-more.ensures.bound, length-take c.min-most.result c.pieces.piece);
  kept = c.in_ok-more.ensures.cause.kept ∙ c.pieces.invariant.kept;
}

pub returns-then-more-most-clause-bytes : goal.returns-then-more-most-clause-bytes
returns-then-more-most-clause-bytes g c =
    gave_more _ _ _ c.pieces.came c.in_ok-more.more c.fill.new.buf c.pieces.invariant.gave c.in_ok-more.ensures.bound c.in_ok-more.ensures.bytes
