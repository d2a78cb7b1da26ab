use Rattle.std.proofs.Common.{◌≡◌, ◌∙◌, length, refl, rules}
use Rattle.std.proofs.Math.Seq.{take-length}
use Rattle.std.proofs.lemmas.Result.{err_from_is_err_and}
use Rattle.bridge_text.specs.Kinds.{object_kind}
use Rattle.git_model.specs.Object.{Object}
use Rattle.git_batch.proofs.ListingLemmas.{front_of_front}
use Rattle.git_batch.proofs.Progress.{progress_begins, fault_told, progress_goes_on, listed, object_text-some}
use Rattle.git_batch.proofs.listing.append_lines.Goals as goal

pub objects-init : goal.objects-init
objects-init g c = record {
  progress = rw c.new-reader.ensures (progress_begins _ _);
  front = take-length _;
  kept = refl;
}

pub returns-in_err-id-clause-lists : goal.returns-in_err-id-clause-lists
returns-in_err-id-clause-lists g c =
    let p = err_from_is_err_and c.from_residual.result c.from_residual.ensures.1 in
    rw (p.1, p.2) (fault_told _ _ _ _ _ c.in_err-id.field-0.0 c.objects.invariant.progress c.in_err-id.ensures.reads)

pub objects-preserved : goal.objects-preserved
objects-preserved g c =
    let content = c.next.new.into.items in
    let o : Object = record { id = c.in-Object.id; kind = object_kind c.in-Object.kind; content = content } in
    let size : c.len.result ≡ length content = search (rules, c.len.ensures) in record {
      progress =
          rw (rw c.in-Object.is at c.in_ok-id.ensures.offset)
          (progress_goes_on _ _ _ _ _ _ _ o c.objects.invariant.progress (rw c.in-Object.is at c.in_ok-id.ensures.bytes) (rw c.in-Object.is at c.in_ok-id.ensures.reads)
          (object_text-some o) (rw size at c.in_ok-append_line-in-Object.ensures.line));
      front = front_of_front _ _ _ c.in_ok-append_line-in-Object.ensures.front c.objects.invariant.front;
      kept = c.in_ok-id.ensures.cause ∙ c.objects.invariant.kept;
    }

pub returns-in-End-clause-lists : goal.returns-in-End-clause-lists
returns-in-End-clause-lists g c = listed _ _ _ _ _ c.objects.invariant.progress (rw c.in-End.is at c.in_ok-id.ensures.reads)
