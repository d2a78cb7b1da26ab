use Rattle.std.proofs.Common.{◌∙◌, [], refl, arith}
use Rattle.std.proofs.lemmas.Result.{err_from_is_err_and}
use Rattle.hg_chunk.specs.Reader.{payload_of}
use Rattle.hg_bundle.specs.Place.{place_value}
use Rattle.hg_bundle.proofs.Grown.{steps-grown}
use Rattle.hg_bundle.proofs.Groups.{brings_told}
use Rattle.hg_bundle.proofs.Progress.{is_small}
use Rattle.hg_bundle.proofs.ReadBytes.{read_begins, read_goes_on, read_ends}
use Rattle.hg_bundle.proofs.Reading.{magic_told, reading_begins, chunk_told, reading_goes_on, step_told, end_told, reading_ends}
use Rattle.hg_bundle.proofs.Unreadable.{tells_unreadable}
use Rattle.hg_bundle.proofs.read.read_into.Goals as goal

pub returns-in_err-magic-clause-reads : goal.returns-in_err-magic-clause-reads
returns-in_err-magic-clause-reads g c =
    let p = err_from_is_err_and c.from_residual.result c.from_residual.ensures.1 in
    rw (p.1, p.2) (magic_told c.args.store _ c.in_err-magic.field-0.0 c.in_err-magic.ensures.judged)

pub chunks-init : goal.chunks-init
chunks-init g c = record {
  reading = rw (c.in_ok-magic.ensures.offset, c.new-gathered.ensures) (reading_begins c.args.store _ _ c.in_ok-magic.ensures.bytes c.in_ok-magic.ensures.judged);
  grown = rw c.new-gathered.ensures ([], refl, refl, tt);
  added = rw c.new-gathered.ensures (λ added. added);
  bytes = read_begins _ _ c.in_ok-magic.ensures.bytes;
  fit = tt;
  last = rw c.new-gathered.ensures tt;
  sum = rw c.new-gathered.ensures (omega arith);
  kept = c.in_ok-magic.ensures.cause;
}

pub returns-in_err-lent-clause-reads : goal.returns-in_err-lent-clause-reads
returns-in_err-lent-clause-reads g c =
    let p = err_from_is_err_and c.from_residual-in_err-lent.result c.from_residual-in_err-lent.ensures.1 in
    let so_far = rw c.in-Some.is at c.chunks.invariant.reading in
    rw (p.1, p.2) (chunk_told _ _ _ _ _ (place_value c.in-Some.place) c.in_err-lent.field-0.0 so_far (rw c.most.ensures at c.in_err-lent.ensures.judged))

pub returns-in_err-next-clause-reads : goal.returns-in_err-next-clause-reads
returns-in_err-next-clause-reads g c =
    let p = err_from_is_err_and c.from_residual-in_err-next.result c.from_residual-in_err-next.ensures.1 in
    let so_far = rw c.in-Some.is at c.chunks.invariant.reading in
    rw (p.1, p.2)
    (step_told _ _ _ _ _ _ (place_value c.in-Some.place) (payload_of c.in_ok-lent.lent c.next_text.new.into.items) c.in_err-next.field-0.0 so_far c.in_ok-lent.ensures.bytes
    (rw c.most.ensures at c.in_ok-lent.ensures.judged) (is_small (place_value c.in-Some.place) _ (rw c.most.ensures at c.in_ok-lent.ensures.field))
    (rw (c.of.ensures, c.deref.ensures.value, c.offset-at.ensures.value) at c.in_err-next.ensures.fault))

pub chunks-preserved : goal.chunks-preserved
chunks-preserved g c =
    let so_far = rw c.in-Some.is at c.chunks.invariant.reading in record {
      reading =
          rw (c.in_ok-next.ensures.next, c.in_ok-lent.ensures.offset, c.of.ensures, c.deref.ensures.value)
          (reading_goes_on _ _ _ _ _ _ _ (place_value c.in-Some.place) (payload_of c.in_ok-lent.lent c.next_text.new.into.items) so_far c.in_ok-lent.ensures.bytes
          (rw c.most.ensures at c.in_ok-lent.ensures.judged) (is_small (place_value c.in-Some.place) _ (rw c.most.ensures at c.in_ok-lent.ensures.field))
          (rw (c.of.ensures, c.deref.ensures.value, c.offset-at.ensures.value) at c.in_ok-next.ensures.steps));
      grown = steps-grown _ _ _ _ _ _ c.chunks.invariant.grown c.in_ok-next.ensures.steps;
      added = λ before. c.in_ok-next.ensures.added (c.chunks.invariant.added before);
      bytes = read_goes_on _ _ _ (payload_of c.in_ok-lent.lent c.next_text.new.into.items) c.chunks.invariant.bytes c.in_ok-lent.ensures.bytes (rw (c.of.ensures, c.deref.ensures.value) at c.in_ok-next.ensures.bytes);
      fit = c.in_ok-next.ensures.fit;
      last = c.in_ok-next.ensures.last;
      sum = c.in_ok-next.ensures.sum;
      kept = c.in_ok-lent.ensures.cause ∙ c.chunks.invariant.kept;
    }

pub returns-clause-reads : goal.returns-clause-reads
returns-clause-reads g c = reading_ends _ _ _ _ _ (rw c.in_default.is at c.chunks.invariant.reading) c.in_ok-finish.ensures.end.0

pub returns-in_err-finish-clause-reads : goal.returns-in_err-finish-clause-reads
returns-in_err-finish-clause-reads g c =
    let p = err_from_is_err_and c.from_residual-in_err-finish.result c.from_residual-in_err-finish.ensures.1 in
    rw (p.1, p.2) (end_told c.args.store _ _ _ _ c.in_err-finish.field-0.0 (rw c.in_default.is at c.chunks.invariant.reading) c.in_err-finish.ensures.judged)

pub returns-clause-grown : goal.returns-clause-grown
returns-clause-grown g c = c.chunks.invariant.grown

pub returns-clause-added : goal.returns-clause-added
returns-clause-added g c = c.chunks.invariant.added

pub returns-clause-bytes : goal.returns-clause-bytes
returns-clause-bytes g c = read_ends _ _ c.chunks.invariant.bytes c.in_ok-finish.ensures.end.0

pub returns-clause-bundle : goal.returns-clause-bundle
returns-clause-bundle g c =
    brings_told c.args.store _ _ _ (read_ends _ _ c.chunks.invariant.bytes c.in_ok-finish.ensures.end.0)
    (reading_ends _ _ _ _ _ (rw c.in_default.is at c.chunks.invariant.reading) c.in_ok-finish.ensures.end.0)

pub returns-in_err-magic-clause-no_bundle : goal.returns-in_err-magic-clause-no_bundle
returns-in_err-magic-clause-no_bundle g c = tells_unreadable c.args.store _ c.from_residual.result (returns-in_err-magic-clause-reads g c)

pub returns-in_err-lent-clause-no_bundle : goal.returns-in_err-lent-clause-no_bundle
returns-in_err-lent-clause-no_bundle g c = tells_unreadable c.args.store _ c.from_residual-in_err-lent.result (returns-in_err-lent-clause-reads g c)

pub returns-in_err-next-clause-no_bundle : goal.returns-in_err-next-clause-no_bundle
returns-in_err-next-clause-no_bundle g c = tells_unreadable c.args.store _ c.from_residual-in_err-next.result (returns-in_err-next-clause-reads g c)

pub returns-in_err-finish-clause-no_bundle : goal.returns-in_err-finish-clause-no_bundle
returns-in_err-finish-clause-no_bundle g c = tells_unreadable c.args.store _ c.from_residual-in_err-finish.result (returns-in_err-finish-clause-reads g c)
