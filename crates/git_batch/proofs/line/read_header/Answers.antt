use Rattle.git_model.specs.Stream.{LineReading}
use Rattle.git_batch.specs.Header.{ReadsLine}
use Rattle.git_batch.proofs.ReadLemmas.{told_of_line}
use Rattle.git_batch.proofs.line.read_header.Goals as goal

pub returns-clause-reads : goal.returns-clause-reads
returns-clause-reads g c =
    told_of_line (λ (reading : LineReading). ReadsLine reading c.judge_line.result) c.args.at _ _ c.in_ok-end.end c.read_line.new.line.items c.in_ok-end.ensures.line (rw c.deref.ensures.value at c.judge_line.ensures.reads)
