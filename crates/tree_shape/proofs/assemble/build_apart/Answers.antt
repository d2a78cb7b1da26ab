use Rattle.std.proofs.Common.{◌≡◌, ◌∙◌, sym, ap, subst}
use Rattle.std.proofs.lemmas.Result.{IfOk-weaker}
use Rattle.git_model.specs.Unfold.{FileRow, by_walk}
use Rattle.git_model.proofs.SortLemmas.{rises-ascends}
use Rattle.tree_shape.specs.Shapes.{Good, id_of_rows, trees_of_rows}
use Rattle.tree_shape.proofs.WalkOrder.{files-distinct, walk-good, walk-root, walk-trees}
use Rattle.tree_shape.proofs.RowOrders.{plain-walk}
use Rattle.tree_shape.proofs.assemble.build_apart.Goals as goal

pub by_walk-requires : goal.by_walk-requires
by_walk-requires c = files-distinct c.args.rows.now c.requires.files c.requires.apart

pub build_walk-requires : goal.build_walk-requires
build_walk-requires c = record { good = rw (c.deref.ensures.value ∙ c.in_ok-sorted.ensures) (walk-good c.args.rows.now c.requires.files c.requires.apart) }

pub build_walk-requires-else-has_directory : goal.build_walk-requires-else-has_directory
build_walk-requires-else-has_directory c =
    let rows = c.args.rows.now in
    let plain : by_walk rows ≡ rows = plain-walk rows (sym c.has_directory.ensures ∙ c.if-has_directory.false) (rises-ascends (λ (r : FileRow). r.path) rows c.requires.files.in_order) in
    record { good = subst Good plain (walk-good rows c.requires.files c.requires.apart) }

pub returns-in_ok-sorted-clause-root : goal.returns-in_ok-sorted-clause-root
returns-in_ok-sorted-clause-root c = IfOk-weaker c.build_walk.result _ _ (λ trees is. is ∙ ap (id_of_rows 257) (c.deref.ensures.value ∙ c.in_ok-sorted.ensures) ∙ walk-root c.args.rows.now c.requires.files) c.build_walk.ensures.root

pub returns-in_ok-sorted-clause-made : goal.returns-in_ok-sorted-clause-made
returns-in_ok-sorted-clause-made c = IfOk-weaker c.build_walk.result _ _ (λ trees is. is ∙ ap (trees_of_rows 257) (c.deref.ensures.value ∙ c.in_ok-sorted.ensures) ∙ walk-trees c.args.rows.now c.requires.files) c.build_walk.ensures.made

pub returns-else-has_directory-clause-root : goal.returns-else-has_directory-clause-root
returns-else-has_directory-clause-root c =
    let rows = c.args.rows.now in
    let plain : by_walk rows ≡ rows = plain-walk rows (sym c.has_directory.ensures ∙ c.if-has_directory.false) (rises-ascends (λ (r : FileRow). r.path) rows c.requires.files.in_order) in
    IfOk-weaker c.build_walk-else-has_directory.result _ _ (λ trees is. is ∙ ap (id_of_rows 257) (sym plain) ∙ walk-root rows c.requires.files) c.build_walk-else-has_directory.ensures.root

pub returns-else-has_directory-clause-made : goal.returns-else-has_directory-clause-made
returns-else-has_directory-clause-made c =
    let rows = c.args.rows.now in
    let plain : by_walk rows ≡ rows = plain-walk rows (sym c.has_directory.ensures ∙ c.if-has_directory.false) (rises-ascends (λ (r : FileRow). r.path) rows c.requires.files.in_order) in
    IfOk-weaker c.build_walk-else-has_directory.result _ _ (λ trees is. is ∙ ap (trees_of_rows 257) (sym plain) ∙ walk-trees rows c.requires.files) c.build_walk-else-has_directory.ensures.made
