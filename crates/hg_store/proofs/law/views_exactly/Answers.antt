use Rattle.hg_store.proofs.ExactLemmas.{one_view, one_fault, view_or_fault}
use Rattle.hg_store.proofs.law.views_exactly.Goals as goal

pub returns-clause-one : goal.returns-clause-one
returns-clause-one c = one_view

pub returns-clause-one_fault : goal.returns-clause-one_fault
returns-clause-one_fault c = one_fault

pub returns-clause-either : goal.returns-clause-either
returns-clause-either c = view_or_fault
