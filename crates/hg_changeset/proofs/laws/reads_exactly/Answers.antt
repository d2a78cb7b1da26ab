use Rattle.std.proofs.Common.{refl}
use Rattle.hg_model.specs.Changeset.{changeset_text}
use Rattle.hg_model.proofs.ChangesetLemmas.{one_changeset, changeset_fault-text, some_changeset}
use Rattle.hg_changeset.proofs.laws.reads_exactly.Goals as goal

pub returns-clause-one : goal.returns-clause-one
returns-clause-one c = one_changeset

pub returns-clause-no_fault : goal.returns-clause-no_fault
returns-clause-no_fault c = changeset_fault-text

pub returns-clause-some : goal.returns-clause-some
returns-clause-some c = some_changeset

pub returns-clause-again : goal.returns-clause-again
returns-clause-again c x y is read = one_changeset (changeset_text x) y x read (is, refl)
