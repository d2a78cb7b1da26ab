use Rattle.std.proofs.Common.{arith}
use Rattle.bridge_io.proofs.PiecesDone.{done_len}
use Rattle.bridge_io.proofs.ropes.pieces_len.Goals as goal

pub loop-piece-preserved : goal.loop-piece-preserved
loop-piece-preserved c =
    let more = done_len c.args.pieces.now c.loop-piece.piece-index _ c.piece-item.result (omega arith) c.piece-item.is in
    omega (arith, more, c.loop-piece.invariant, c.len.ensures.value, c.saturating_add-len.ensures)
