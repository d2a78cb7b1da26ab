use Rattle.next_law.proofs.EmptySaved.{is-state}
use Rattle.format_law.proofs.PullLaws.{bundles, streams}
use Rattle.format_law.proofs.pulls.pulls_come_to_one.Goals as goal

pub returns-clause-empty : goal.returns-clause-empty
returns-clause-empty c = is-state

pub returns-clause-bundles : goal.returns-clause-bundles
returns-clause-bundles c = bundles

pub returns-clause-streams : goal.returns-clause-streams
returns-clause-streams c = streams
