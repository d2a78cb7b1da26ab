use Rattle.mark_code.proofs.ExtrasLemmas.{one_marks}
use Rattle.mark_code.proofs.ListLemmas.{one_headers, again_headers}
use Rattle.mark_code.proofs.law.reads_exactly.Goals as goal

pub returns-clause-one : goal.returns-clause-one
returns-clause-one c = one_headers

pub returns-clause-again : goal.returns-clause-again
returns-clause-again c = again_headers

pub returns-clause-extras : goal.returns-clause-extras
returns-clause-extras c = one_marks
