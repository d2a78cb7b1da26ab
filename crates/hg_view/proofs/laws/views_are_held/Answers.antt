use Rattle.hg_view.proofs.Held.{view-is_held}
use Rattle.hg_view.proofs.Right.{held-is_view, held-node}
use Rattle.hg_view.proofs.One.{no_null, one_held}
use Rattle.hg_view.proofs.laws.views_are_held.Goals as goal

pub returns-clause-held : goal.returns-clause-held
returns-clause-held c = view-is_held c.args.store.now c.check.ensures c.args.node.now

pub returns-clause-is_view : goal.returns-clause-is_view
returns-clause-is_view c = held-is_view c.args.store.now c.check.ensures c.args.node.now

pub returns-clause-node : goal.returns-clause-node
returns-clause-node c = held-node c.args.store.now c.check.ensures c.args.node.now

pub returns-clause-one : goal.returns-clause-one
returns-clause-one c = one_held c.args.store.now (no_null c.args.store.now c.check.ensures) c.args.node.now
