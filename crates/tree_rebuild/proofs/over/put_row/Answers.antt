use Rattle.std.proofs.Common.{◌∙◌, ◌++◌, [], List, sym, ap, append-nil}
use Rattle.std.proofs.lemmas.Result.{on_ok_weaker}
use Rattle.git_model.specs.Tree.{is_directory}
use Rattle.git_model.specs.Object.{Object}
use Rattle.tree_shape.specs.Shapes.{row_trees, trees_of_rows}
use Rattle.tree_shape.specs.Wholes.{tree_leaves}
use Rattle.tree_rebuild.specs.News.{has_empty}
use Rattle.tree_rebuild.proofs.Kept.{added-none, added-all, empty-held}
use Rattle.tree_rebuild.proofs.OldLeaves.{row-not, row-has}
use Rattle.tree_rebuild.proofs.over.put_row.Goals as goal

pub returns-then-has_row-clause-new : goal.returns-then-has_row-clause-new
returns-then-has_row-clause-new g c = λ above.
    let old = tree_leaves (g.G.Objects.objects c.args.store.now) above c.args.old.now in
    sym (ap (λ (os : List Object). c.args.made.now ++ os) (row-has (is_directory c.args.row.now.mode) (has_empty c.args.name.now old) (trees_of_rows c.args.levels []) (sym (c.has_row.ensures.empty above) ∙ c.if-has_row.true)) ∙ append-nil c.args.made.now)

pub returns-then-has_row-clause-made : goal.returns-then-has_row-clause-made
returns-then-has_row-clause-made g c =
    let known = g.G.Objects.objects c.args.store.now in
    let e = c.has_row.ensures.known c.if-has_row.true in
    added-none known c.args.made.now (row_trees c.args.levels c.args.row.now) (empty-held known c.args.levels e.0 c.args.row.now c.requires e.1)

pub returns-clause-new : goal.returns-clause-new
returns-clause-new g c = λ above.
    let old = tree_leaves (g.G.Objects.objects c.args.store.now) above c.args.old.now in
    on_ok_weaker c.put_below.result (λ h. h ∙ sym (ap (λ (os : List Object). c.args.made.now ++ os) (row-not (is_directory c.args.row.now.mode) (has_empty c.args.name.now old) (trees_of_rows c.args.levels []) (sym (c.has_row.ensures.empty above) ∙ c.if-has_row.false)))) c.put_below.ensures

pub returns-clause-made : goal.returns-clause-made
returns-clause-made g c = on_ok_weaker c.put_below.result (λ h. added-all (g.G.Objects.objects c.args.store.now) c.args.made.now c.put_below.new.made (row_trees c.args.levels c.args.row.now) h) c.put_below.ensures
