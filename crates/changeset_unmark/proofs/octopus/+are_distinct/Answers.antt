use Rattle.std.proofs.Common.{sym, ap, ◌∙◌, not, ◌&&◌, ◌-◌, Bool, length, take, drop}
use Rattle.git_model.specs.Tree.{has_distinct}
use Rattle.changeset_unmark.proofs.DistinctStep.{distinct-step}
use Rattle.changeset_unmark.proofs.octopus.+are_distinct.Goals as goal

pub returns-then-is_among : goal.returns-then-is_among
returns-then-is_among t c =
    sym (distinct-step c.args.ids.now c.first-item.result c.in-len1-up.len_at_least c.first-item.is ∙ ap (λ (b : Bool). not b && has_distinct (take (length c.args.ids.now - 1) (drop 1 c.args.ids.now))) (sym c.is_among.ensures ∙ c.if-is_among.true))

pub returns : goal.returns
returns t c =
    c.are_distinct.ensures
    ∙ sym (distinct-step c.args.ids.now c.first-item.result c.in-len1-up.len_at_least c.first-item.is ∙ ap (λ (b : Bool). not b && has_distinct (take (length c.args.ids.now - 1) (drop 1 c.args.ids.now))) (sym c.is_among.ensures ∙ c.if-is_among.false))
