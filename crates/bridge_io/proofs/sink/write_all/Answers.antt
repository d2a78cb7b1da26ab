use Rattle.std.proofs.Common.{◌++◌, ◌∙◌, take}
use Rattle.std.proofs.KnownBytes.{Appends-trans}
use Rattle.std.proofs.lemmas.List.{take_rest}
use Rattle.bridge_io.proofs.Pieces.{front_grows}
use Rattle.bridge_io.proofs.sink.write_all.Goals as goal

pub loop-rest-preserved : goal.loop-rest-preserved
loop-rest-preserved g c =
    let so_far = c.loop-rest.invariant.written in
    let n = c.in_ok-count.count in
    let rest = c.loop-rest.rest.now in
    record {
      written = (
        so_far.0 ++ take n rest,
        rw take_rest (front_grows c.args.bytes.now so_far.0 rest n so_far.1),
        Appends-trans _ _ _ so_far.0 (take n rest) so_far.2 c.in_ok-count.ensures.bytes,
      );
      out = c.in_ok-count.ensures.out ∙ c.loop-rest.invariant.out;
      kept = c.in_ok-count.ensures.cause.kept ∙ c.loop-rest.invariant.kept;
    }

pub returns-in_err-count-clause-out : goal.returns-in_err-count-clause-out
returns-in_err-count-clause-out g c = c.in_err-count.ensures.out ∙ c.loop-rest.invariant.out
