use Rattle.std.proofs.Common.{◌-◌, List, length, ap, sym, ◌∙◌}
use Rattle.std.specs.Prelude.{slice_get}
use Rattle.text_model.specs.Id.{Id}
use Rattle.changeset_rule.proofs.ParentLemmas.{last-got}
use Rattle.changeset_rule.proofs.parents.last_or.Goals as goal

pub returns-in-Some : goal.returns-in-Some
returns-in-Some c = last-got c.args.nodes.now c.args.node c.in-Some.last.now (ap (λ (l : List Id). slice_get l (length l - 1)) (sym c.as_slice.ensures) ∙ sym c.in-Some.ensures.value)
