use Rattle.std.proofs.Common.{◌∙◌, arith, take}
use Rattle.std.specs.List.{concat}
use Rattle.std.proofs.KnownBytes.{Appends-trans}
use Rattle.bridge_io.proofs.PiecesDone.{done_more, prefix_of_pieces}
use Rattle.bridge_io.proofs.sink.write_pieces.Goals as goal

pub returns-in_err-write_all-clause-prefix : goal.returns-in_err-write_all-clause-prefix
returns-in_err-write_all-clause-prefix g c =
    prefix_of_pieces _ _ _ c.args.pieces.now c.loop-piece.piece-index _ c.as_slice.result.now (omega arith) (c.as_slice.ensures ∙ c.piece-item.is) c.loop-piece.invariant.written c.in_err-write_all.ensures.prefix

pub loop-piece-preserved : goal.loop-piece-preserved
loop-piece-preserved g c =
    let pieces = c.args.pieces.now in
    let i = c.loop-piece.piece-index in
    let piece = c.as_slice.result.now in
    record {
      written = rw (done_more pieces i _ piece (omega arith) (c.as_slice.ensures ∙ c.piece-item.is)) (Appends-trans _ _ _ (concat (take i pieces)) piece c.loop-piece.invariant.written c.in_ok-write_all.ensures.ok);
      out = c.in_ok-write_all.ensures.out ∙ c.loop-piece.invariant.out;
      kept = c.in_ok-write_all.ensures.cause.kept ∙ c.loop-piece.invariant.kept;
    }
