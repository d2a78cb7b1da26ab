use Rattle.std.proofs.Common.{◌≡◌, ◌-◌, ◌^◌, length, take, min}
use Rattle.std.specs.List.{concat}
use Rattle.bridge_io.proofs.ropes.pieces_len.Given as goal

abbrev pub invariant-loop-piece : goal.invariant-loop-piece
invariant-loop-piece l = l.len ≡ min (length (concat (take l.piece-index l.pieces))) (2 ^ 64 - 1)
