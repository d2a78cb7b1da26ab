use Rattle.mark_code.proofs.ExtrasLemmas.{judged}
use Rattle.mark_code.proofs.changeset_marks.ChangesetMarks.read.Goals as goal

pub returns : goal.returns
returns c = judged c.args.extras.now c.read_marks.result c.read_marks.ensures
