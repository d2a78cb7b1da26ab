use Rattle.std.proofs.Common.{◌≡◌, take}
use Rattle.std.specs.Io.KnownBytes.{Appends}
use Rattle.std.specs.List.{concat}
use Rattle.bridge_io.proofs.sink.write_pieces.Given as goal

abbrev pub invariant-loop-piece : goal.invariant-loop-piece
invariant-loop-piece g l = record {
  written : Appends (g.O.Sink.taken l.fn.out) (g.O.Sink.taken l.out) (concat (take l.piece-index l.pieces));
  out : g.O.Sink.flushed l.out ≡ g.O.Sink.flushed l.fn.out;
  kept : g.O.Sink.faults l.out ≡ g.O.Sink.faults l.fn.out;
}
