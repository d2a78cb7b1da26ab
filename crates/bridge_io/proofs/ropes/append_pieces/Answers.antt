use Rattle.std.proofs.Common.{◌≡◌, ◌≤◌, ◌+◌, ◌++◌, ℕ, List, length, take, ap, sym, ◌∙◌, append_assoc, length-append, arith, vec_len}
use Rattle.std.specs.List.{concat}
use Rattle.bridge_io.proofs.PiecesDone.{done_more, done_fits}
use Rattle.bridge_io.proofs.ropes.append_pieces.Goals as goal

pub unwrap-requires : goal.unwrap-requires
unwrap-requires c =
    let room = c.loop-piece.room in
    let had = c.args.room.now in
    let pieces = c.args.pieces.now in
    let i = c.loop-piece.piece-index in
    let size : vec_len room ≡ vec_len had + length (concat (take i pieces)) = room.ok.0 ∙ ap length c.loop-piece.invariant.bytes ∙ length-append had.items (concat (take i pieces)) ∙ ap (λ (n : ℕ). n + length (concat (take i pieces))) (sym had.ok.0) in
    let fits : length (concat (take i pieces)) + length c.as_slice.result.now ≤ length (concat pieces) = done_fits pieces i _ c.as_slice.result.now (omega arith) (c.as_slice.ensures ∙ c.piece-item.is) in
    c.extend_from_slice.ensures.succeeds (omega (arith, size, fits, c.requires.room, c.loop-piece.invariant.kept))

pub loop-piece-preserved : goal.loop-piece-preserved
loop-piece-preserved c =
    let pieces = c.args.pieces.now in
    let i = c.loop-piece.piece-index in
    let piece = c.as_slice.result.now in
    let more : concat (take (i + 1) pieces) ≡ concat (take i pieces) ++ piece = done_more pieces i _ piece (omega arith) (c.as_slice.ensures ∙ c.piece-item.is) in
    record {
      bytes = rw (c.extend_from_slice.ensures.items, c.unwrap.ensures, more) (ap (λ (l : List ℕ). l ++ piece) c.loop-piece.invariant.bytes ∙ append_assoc c.args.room.now.items (concat (take i pieces)) piece);
      kept = omega (arith, c.loop-piece.invariant.kept, c.extend_from_slice.ensures.capacity);
    }
