use Rattle.std.proofs.Common.{ℕ, ◌∙◌, subst, refl, []}
use Rattle.std.proofs.lemmas.Result.{err_from_is_err_and}
use Rattle.bridge_text.specs.Kinds.{object_kind}
use Rattle.git_model.specs.Object.{Object}
use Rattle.git_model.specs.Stream.{placed_fault}
use Rattle.git_batch.specs.StreamFaults.{IsJudgement}
use Rattle.git_batch.specs.Steps.{Adds}
use Rattle.git_batch.proofs.Reading.{added_none, added_push, reading_begins, next_told, reading_goes_on, take_told, reading_ends, reads_all}
use Rattle.git_batch.proofs.read.read_known_into.Goals as goal

pub objects-init : goal.objects-init
objects-init g c = record {
  came = rw (c.new-gathered.ensures, c.new-reader.ensures) ([], added_none _, reading_begins _ _);
  known = rw c.new-gathered.ensures (λ known. known);
  kept = refl;
}

pub returns-in_err-item-clause-reads : goal.returns-in_err-item-clause-reads
returns-in_err-item-clause-reads g c =
    let p = err_from_is_err_and c.from_residual.result c.from_residual.ensures.1 in
    rw (p.1, p.2) (next_told _ _ _ _ _ _ c.in_err-item.field-0.0 c.objects.invariant.came.2 c.in_err-item.ensures.reads)

pub objects-preserved : goal.objects-preserved
objects-preserved g c =
    let o : Object = record { id = c.in-Object.id; kind = object_kind c.in-Object.kind; content = c.in_ok-item.content } in
    let place = (rw c.in-Object.is at c.in_ok-item.ensures.item).0 in
    let adds = subst (λ (at : ℕ). Adds (record { object = o; at = at }) c.objects.gathered c.take.new.self) place c.in_ok-take-in-Object.ensures.ok in record {
      came = (
        _,
        added_push _ _ _ _ _ c.objects.invariant.came.1 adds,
        rw (rw c.in-Object.is at c.in_ok-item.ensures.offset)
            (reading_goes_on _ _ _ _ _ _ _ _ o c.objects.invariant.came.2 (rw c.in-Object.is at c.in_ok-item.ensures.bytes) (rw c.in-Object.is at c.in_ok-item.ensures.reads) adds),
      );
      known = λ before. c.in_ok-take-in-Object.ensures.known;
      kept = c.in_ok-item.ensures.cause ∙ c.objects.invariant.kept;
    }

pub returns-in_err-take-in-Object-clause-reads : goal.returns-in_err-take-in-Object-clause-reads
returns-in_err-take-in-Object-clause-reads g c =
    let o : Object = record { id = c.in-Object.id; kind = object_kind c.in-Object.kind; content = c.in_ok-item.content } in
    let place = (rw c.in-Object.is at c.in_ok-item.ensures.item).0 in
    let e = c.in_err-take-in-Object.field-0.0 in
    let is = subst (λ (at : ℕ). IsJudgement (placed_fault c.objects.gathered.store (record { object = o; at = at })) e) place c.in_err-take-in-Object.ensures.fault in
    let p = err_from_is_err_and c.from_residual-in_err-take-in-Object.result c.from_residual-in_err-take-in-Object.ensures.1 in
    rw (p.1, p.2) (take_told _ _ _ _ _ _ o e c.objects.invariant.came.2 (rw c.in-Object.is at c.in_ok-item.ensures.reads) is)

pub returns-in-End-clause-brought : goal.returns-in-End-clause-brought
returns-in-End-clause-brought g c =
    let came = c.objects.invariant.came in record {
      objects = came.0;
      adds = came.1.adds;
      listed = came.1.listed;
      holds = came.1.store;
      reads = reading_ends _ _ _ _ _ came.0 came.2 (rw c.in-End.is at c.in_ok-item.ensures.reads);
    }

pub returns-in-End-clause-reads : goal.returns-in-End-clause-reads
returns-in-End-clause-reads g c =
    let came = c.objects.invariant.came in
    reads_all _ _ _ came.0 came.1 (reading_ends _ _ _ _ _ came.0 came.2 (rw c.in-End.is at c.in_ok-item.ensures.reads))

pub returns-in-End-clause-known : goal.returns-in-End-clause-known
returns-in-End-clause-known g c = c.objects.invariant.known
