use Rattle.std.proofs.Common.{◌≡◌, ◌≤◌, ◌++◌, take, vec_capacity}
use Rattle.std.specs.List.{concat}
use Rattle.bridge_io.proofs.ropes.append_pieces.Given as goal

abbrev pub invariant-loop-piece : goal.invariant-loop-piece
invariant-loop-piece l = record {
  bytes : l.room.items ≡ l.fn.room.items ++ concat (take l.piece-index l.pieces);
  kept : vec_capacity l.fn.room ≤ vec_capacity l.room;
}
