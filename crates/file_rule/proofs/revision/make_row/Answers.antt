use Rattle.std.proofs.Common.{◌≡◌, ◌++◌, Option, refl, sym, ap, subst, ◌∙◌}
use Rattle.std.specs.Prelude.{option_map}
use Rattle.std.specs.Option.{option_or, option_copied}
use Rattle.std.proofs.lemmas.Result.{IfOk-weaker}
use Rattle.text_model.specs.Id.{Id}
use Rattle.git_model.specs.Unfold.{FileRow}
use Rattle.hg_manifest.specs.Values.{manifest_entry}
use Rattle.view_model.specs.View.{FileRevision, file_node, TreeRow}
use Rattle.pair_model.specs.Rule as rule
use Rattle.file_rule.specs.Parents.{row_with}
use Rattle.file_rule.specs.Made.{IsMadeRow, IsRowOf}
use Rattle.file_rule.proofs.RowLemmas.{kept-ruled, not-kept}
use Rattle.file_rule.proofs.revision.make_row.Goals as goal

-- where none is kept the rule gives a new revision
new_is : (c : goal.After-new_row) (r s : Option FileRevision) (t : TreeRow)
    → IsRowOf c.args.known.now.hg (c.args.c.now.fresh ++ c.args.known.now.git) c.args.file.now (option_map manifest_entry (option_copied c.args.first)) (option_map manifest_entry (option_copied c.args.second)) r s t
    → rule.ruled_revision r s t ≡ rule.new_revision r s t.content
new_is c r s t is =
    let none = c.in_default.ensures.node c.args.file.now.path r s is.in_first is.in_second ∙ ap (λ (x : Id). option_map file_node (option_or (rule.with_body x r) (rule.with_body x s))) c.blob.ensures in
    not-kept c.args.file.now r s t (ap (λ (x : FileRow). x.id) is.of_file) none

pub returns-in_default-clause-ok : goal.returns-in_default-clause-ok
returns-in_default-clause-ok c =
    IfOk-weaker c.new_row.result _ _ (λ made h r s t is. subst (λ (x : FileRevision). IsMadeRow c.args.known.now.hg made (row_with c.args.file.now.path (rule.flag_of_mode c.args.file.now.mode) x)) (sym (new_is c r s t is)) (h r s t is)) c.new_row.ensures.ok

pub returns-clause-ok : goal.returns-clause-ok
returns-clause-ok c = λ r s t is.
    let at = c.in-Some.ensures.node c.args.file.now.path r s is.in_first is.in_second ∙ ap (λ (x : Id). option_map file_node (option_or (rule.with_body x r) (rule.with_body x s))) c.blob.ensures in
    kept-ruled c.args.known.now.hg _ c.args.file.now (rule.flag_of_mode c.args.file.now.mode) _ _ r s t is c.in-Some.node at _ c.in_ok-row.ensures refl
