use Rattle.std.proofs.Common.{◌≡◌, arith, take, length, Option}
use Rattle.std.proofs.lemmas.Result.{err_from_is_err_and}
use Rattle.std.proofs.lemmas.List.{take_all}
use Rattle.text_model.specs.Fault.{Refusal}
use Rattle.hg_chunk.specs.Faults.{IsFault}
use Rattle.hg_chunk.proofs.FaultLemmas.{told_of_magic}
use Rattle.hg_chunk.proofs.reader.ChunkReader.magic.Goals as goal

pub returns-in_err-judge_magic-clause-judged : goal.returns-in_err-judge_magic-clause-judged
returns-in_err-judge_magic-clause-judged g c =
    let p = err_from_is_err_and c.from_residual-in_err-judge_magic.result c.from_residual-in_err-judge_magic.ensures.1 in
    let first = c.fill.new.buf in
    let size : length first ≡ 6 = c.fill.auto.buf in
    let whole : take c.in_ok-came.came first ≡ first = take_all c.in_ok-came.came first (omega (arith, size, c.in_ok-whole.ensures.all.0)) in
    rw (p.1, p.2)
    (told_of_magic (λ (f : Option Refusal). IsFault f c.in_err-judge_magic.field-0.0) _ _ first size (rw whole at c.in_ok-came.ensures.bytes) c.in_err-judge_magic.ensures.judges)
