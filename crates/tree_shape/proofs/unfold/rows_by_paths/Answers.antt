use Rattle.std.proofs.Common.{◌≡◌, ◌∙◌, false, List, sym, ap}
use Rattle.std.specs.List.{list_any}
use Rattle.git_model.specs.Tree.{is_directory}
use Rattle.git_model.specs.Unfold.{FileRow}
use Rattle.tree_shape.proofs.RowOrders.{plain-paths}
use Rattle.tree_shape.proofs.unfold.rows_by_paths.Goals as goal

pub returns-else-has_directory : goal.returns-else-has_directory
returns-else-has_directory c =
    let none : list_any (λ (r : FileRow). is_directory r.mode) c.args.rows.items ≡ false =
    ap (λ (rows : List FileRow). list_any (λ (r : FileRow). is_directory r.mode) rows) (sym c.deref.ensures.value) ∙ sym c.has_directory.ensures ∙ c.if-has_directory.false in
    sym (plain-paths c.args.rows.items none c.requires.order)
