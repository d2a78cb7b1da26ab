use Rattle.std.proofs.Common.{◌∙◌}
use Rattle.std.proofs.Math.Seq.{take-length}
use Rattle.std.proofs.lemmas.Result.{err_from_is_err_and}
use Rattle.hg_bundle.specs.Place.{place_value}
use Rattle.hg_bundle.proofs.LineLemmas.{front_of_front}
use Rattle.hg_bundle.proofs.Progress.{magic_told, progress_begins, chunk_told, progress_goes_on, step_told, is_small}
use Rattle.hg_bundle.proofs.ReadBytes.{read_begins, read_goes_on, read_ends}
use Rattle.hg_bundle.proofs.listing.append_lines.Goals as goal

pub returns-in_err-magic-clause-lists : goal.returns-in_err-magic-clause-lists
returns-in_err-magic-clause-lists g c =
    let p = err_from_is_err_and c.from_residual.result c.from_residual.ensures.1 in
    rw (p.1, p.2) (magic_told _ c.in_err-magic.field-0.0 c.in_err-magic.ensures.judged)

pub chunks-init : goal.chunks-init
chunks-init g c = record {
  progress = rw c.in_ok-magic.ensures.offset (progress_begins _ _ _ c.in_ok-magic.ensures.bytes c.in_ok-magic.ensures.judged);
  bytes = read_begins _ _ c.in_ok-magic.ensures.bytes;
  front = take-length _;
  kept = c.in_ok-magic.ensures.cause;
}

pub returns-in_err-next-clause-lists : goal.returns-in_err-next-clause-lists
returns-in_err-next-clause-lists g c =
    let p = err_from_is_err_and c.from_residual-in_err-next.result c.from_residual-in_err-next.ensures.1 in
    let so_far = rw c.in-Some.is at c.chunks.invariant.progress in
    rw (p.1, p.2) (chunk_told _ _ _ _ _ (place_value c.in-Some.place) c.in_err-next.field-0.0 so_far (rw c.most.ensures at c.in_err-next.ensures.judged))

pub returns-in_err-next-2-clause-lists : goal.returns-in_err-next-2-clause-lists
returns-in_err-next-2-clause-lists g c =
    let p = err_from_is_err_and c.from_residual-in_err-next-2.result c.from_residual-in_err-next-2.ensures.1 in
    let so_far = rw c.in-Some.is at c.chunks.invariant.progress in
    rw (p.1, p.2)
    (step_told _ _ _ _ _ _ (place_value c.in-Some.place) c.next.new.into.items c.in_err-next-2.field-0.0 so_far c.in_ok-next.ensures.bytes
    (rw c.most.ensures at c.in_ok-next.ensures.judged) (is_small (place_value c.in-Some.place) _ (rw c.most.ensures at c.in_ok-next.ensures.field))
    (rw (c.deref.ensures.value, c.offset-at.ensures.value) at c.in_err-next-2.ensures.fault))

pub chunks-preserved : goal.chunks-preserved
chunks-preserved g c =
    let so_far = rw c.in-Some.is at c.chunks.invariant.progress in record {
      progress =
          rw (c.in_ok-next-2.ensures.next, c.in_ok-next.ensures.offset, c.deref.ensures.value)
          (progress_goes_on _ _ _ _ _ _ _ (place_value c.in-Some.place) c.next.new.into.items so_far c.in_ok-next.ensures.bytes
          (rw c.most.ensures at c.in_ok-next.ensures.judged) (is_small (place_value c.in-Some.place) _ (rw c.most.ensures at c.in_ok-next.ensures.field))
          (rw c.deref.ensures.value at c.in_ok-next-2.ensures.long) (rw c.deref.ensures.value at c.in_ok-next-2.ensures.line));
      bytes = read_goes_on _ _ _ c.next.new.into.items c.chunks.invariant.bytes c.in_ok-next.ensures.bytes (rw c.deref.ensures.value at c.in_ok-next-2.ensures.bytes);
      front = front_of_front _ _ _ c.in_ok-next-2.ensures.front c.chunks.invariant.front;
      kept = c.in_ok-next.ensures.cause ∙ c.chunks.invariant.kept;
    }

pub returns-clause-bytes : goal.returns-clause-bytes
returns-clause-bytes g c = read_ends _ _ c.chunks.invariant.bytes c.in_ok-finish.ensures.end.0
