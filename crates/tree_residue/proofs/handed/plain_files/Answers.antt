use Rattle.std.proofs.Common.{sym, ap, subst, ◌∙◌}
use Rattle.text_model.proofs.Elements.{take_whole}
use Rattle.git_model.specs.Residue.{plain_files}
use Rattle.tree_shape.specs.Sets.{IsFiles}
use Rattle.tree_residue.proofs.PlainFiles.{are-files}
use Rattle.tree_residue.proofs.handed.plain_files.Goals as goal

pub keep-requires : goal.keep-requires
keep-requires c =
    let all = take_whole c.as_slice-rows.result.now c.loop-row.row-index c.loop-row-test.false ∙ c.as_slice-rows.ensures.rows in
    subst IsFiles (sym (c.loop-row.invariant ∙ ap plain_files all)) (are-files c.args.files.now c.as_slice-rows.ensures.files)
