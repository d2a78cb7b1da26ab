use Rattle.std.proofs.Common.{◌∷◌, ◌++◌, ◌+◌, [], map, sym, subst, ◌∙◌}
use Rattle.text_model.proofs.Elements.{map_take_push}
use Rattle.tree_shape.specs.Sets.{IsFiles}
use Rattle.tree_shape.proofs.SetLemmas.{files-take}
use Rattle.commit_rule.specs.Parts.{file_of_row}
use Rattle.commit_rule.proofs.ListLemmas.{map-take, get-at}
use Rattle.commit_rule.proofs.rows.files_of.Goals as goal

pub push-requires : goal.push-requires
push-requires c =
    let rows = c.args.rows.now in
    let i = c.loop-row.row-index in
    let at = get-at rows c.as_slice-rows.result.now i c.row-item.result c.as_slice-rows.ensures c.loop-row-test.true c.row-item.is in
    subst IsFiles (map-take file_of_row rows (i + 1) ∙ map_take_push file_of_row rows i c.row-item.result at ∙ (λ k. (sym c.loop-row.invariant) k ++ (sym c.in_ok-file.ensures) k ∷ []))
    (files-take (i + 1) (map file_of_row rows) c.requires)
