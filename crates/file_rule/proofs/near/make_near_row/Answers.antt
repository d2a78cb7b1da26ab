use Rattle.std.proofs.Common.{refl, ap, ◌∙◌}
use Rattle.std.specs.Prelude.{option_map}
use Rattle.text_model.specs.Id.{Id}
use Rattle.view_model.specs.View.{file_node}
use Rattle.pair_model.specs.Rule as rule
use Rattle.file_rule.proofs.RowLemmas.{first-kept, kept-ruled}
use Rattle.file_rule.proofs.near.make_near_row.Goals as goal

pub returns-clause-ok : goal.returns-clause-ok
returns-clause-ok c = λ r s t is.
    let known = c.args.known.now.hg in
    let file = c.args.file.now in
    let at = c.in-Some.ensures.node known file.path r c.requires.near is.in_first ∙ ap (λ (x : Id). option_map file_node (rule.with_body x r)) c.blob.ensures in
    kept-ruled known _ file (rule.flag_of_mode file.mode) _ _ r s t is c.in-Some.node (first-kept (rule.with_body file.id r) (rule.with_body file.id s) c.in-Some.node at) _ c.in_ok-row.ensures refl
