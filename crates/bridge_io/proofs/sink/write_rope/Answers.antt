use Rattle.std.proofs.Common.{sym}
use Rattle.bridge_io.proofs.PiecesDone.{prefix_behind}
use Rattle.bridge_io.proofs.sink.write_rope.Goals as goal

pub returns-clause-prefix : goal.returns-clause-prefix
returns-clause-prefix g c =
    rw (sym c.pieces.ensures) (prefix_behind _ _ _ _ c.pieces.result.1.now c.in_ok-write_pieces.ensures.ok c.write_all.ensures.prefix)
