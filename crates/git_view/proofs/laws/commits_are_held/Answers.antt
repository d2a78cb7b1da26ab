use Rattle.git_view.proofs.Held.{commit-is_held, held-id}
use Rattle.git_view.proofs.Right.{held-is_view}
use Rattle.git_view.proofs.One.{one-held}
use Rattle.git_view.proofs.laws.commits_are_held.Goals as goal

pub returns-clause-held : goal.returns-clause-held
returns-clause-held c = commit-is_held c.args.store.now c.check.ensures c.args.id.now

pub returns-clause-is_view : goal.returns-clause-is_view
returns-clause-is_view c = held-is_view c.args.store.now c.check.ensures c.args.id.now

pub returns-clause-node : goal.returns-clause-node
returns-clause-node c = held-id c.args.store.now c.check.ensures c.args.id.now

pub returns-clause-one : goal.returns-clause-one
returns-clause-one c = one-held c.args.store.now c.args.id.now
