use Rattle.std.proofs.Common.{◌-◌, true≢false, sym, ◌∙◌}
use Rattle.changeset_unmark.proofs.LinkWalk.{walk-none, walk-some}
use Rattle.changeset_unmark.proofs.unmark.nodes_named.Goals as goal

pub returns-then-is_null : goal.returns-then-is_null
returns-then-is_null c = λ nodes leads. true≢false (sym (sym c.is_null.ensures ∙ c.if-is_null.true) ∙ leads.0)

pub returns-in_default : goal.returns-in_default
returns-in_default c = λ nodes leads. walk-none c.args.known.now.hg c.args.count (c.args.count - 2) c.args.h.now.p1 c.in_ok-nodes.field-0 c.in_default.is c.in_ok-nodes.ensures leads.1 leads.2

pub returns : goal.returns
returns c = (
  sym c.is_null.ensures ∙ c.if-is_null.false,
  c.in-Some.nodes,
  walk-some c.args.known.now.hg c.args.count (c.args.count - 2) c.args.h.now.p1 c.in_ok-nodes.field-0 c.in-Some.nodes c.in-Some.is c.in_ok-nodes.ensures,
  c.in_ok-push.ensures.ok,
)
