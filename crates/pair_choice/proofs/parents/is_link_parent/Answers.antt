use Rattle.std.proofs.Common.{sym, ap, ◌∙◌}
use Rattle.std.specs.Prelude.{not}
use Rattle.pair_choice.proofs.ParentLemmas.{link-parent, null-parent}
use Rattle.pair_choice.proofs.parents.is_link_parent.Goals as goal

pub returns-then-not-is_null : goal.returns-then-not-is_null
returns-then-not-is_null c = λ blocks history.
    link-parent c.args.known.now blocks history c.args.node.now c.git_of.result c.is_none.result (sym c.is_null.ensures ∙ c.if-not-is_null.true) c.git_of.ensures.partner c.is_none.ensures

pub returns-else-not-is_null : goal.returns-else-not-is_null
returns-else-not-is_null c = λ blocks history. ap not c.if-not-is_null.false ∙ null-parent blocks c.args.node.now (sym c.is_null.ensures ∙ c.if-not-is_null.false)
