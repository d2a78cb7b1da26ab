use Rattle.commit_unmark.proofs.MarkLemmas.{is-clear}
use Rattle.commit_unmark.proofs.revision.is_meta.Goals as goal

pub returns-clause-clear : goal.returns-clause-clear
returns-clause-clear c = is-clear c.args.meta.now c.find.result c.is_none.result c.is_none.ensures c.find.ensures
