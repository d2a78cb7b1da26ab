use Rattle.std.proofs.Common.{◌≡◌, ◌∙◌, ◌&&◌, Bool, true, sym, ap}
use Rattle.git_model.specs.Tree.{is_directory}
use Rattle.tree_shape.specs.Wholes.{tree_leaves}
use Rattle.tree_rebuild.specs.News.{has_empty}
use Rattle.tree_rebuild.proofs.over.has_row.Goals as goal

pub returns-then-is_directory-clause-empty : goal.returns-then-is_directory-clause-empty
returns-then-is_directory-clause-empty g c = λ levels.
    let yes : is_directory c.args.row.now.mode ≡ true = ap is_directory (sym c.mode.ensures) ∙ sym c.is_directory.ensures ∙ c.if-is_directory.true in
    c.has_empty.ensures.empty levels ∙ sym (ap (λ (d : Bool). d && has_empty c.args.name.now (tree_leaves (g.G.Objects.objects c.args.store.now) levels c.args.old.now)) yes)
