use Rattle.mark_law.proofs.Listed.{marks_are_list}
use Rattle.mark_law.proofs.Views.{marked_is_view, marked_fits}
use Rattle.mark_law.proofs.marked_commit_is_right.Goals as goal

pub returns-clause-list : goal.returns-clause-list
returns-clause-list c = marks_are_list

pub returns-clause-view : goal.returns-clause-view
returns-clause-view c = marked_is_view

pub returns-clause-fits : goal.returns-clause-fits
returns-clause-fits c = marked_fits
