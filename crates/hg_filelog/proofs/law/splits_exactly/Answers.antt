use Rattle.std.proofs.Common.{ap, sym, ◌∙◌}
use Rattle.hg_model.specs.FileText.{lacks_second_mark}
use Rattle.hg_filelog.proofs.MarkLemmas.{one_pair, lacks-never}
use Rattle.hg_filelog.proofs.law.splits_exactly.Goals as goal

pub returns-clause-one : goal.returns-clause-one
returns-clause-one c = λ text meta other body rest is also. one_pair meta other body rest is.0 also.0 (sym is.1 ∙ also.1)

pub returns-clause-no_fault : goal.returns-clause-no_fault
returns-clause-no_fault c = λ text meta body is. ap lacks_second_mark is.1 ∙ lacks-never meta body is.0
