use Rattle.std.specs.Prelude.{List, map}
use Rattle.git_model.specs.Shape.{leaf_of}
use Rattle.tree_shape.specs.Wholes.{leaves_in}
use Rattle.tree_rebuild.specs.News.{new_leaves}
use Rattle.tree_rebuild.proofs.NewTrees.{new-trees}
use Rattle.std.proofs.Common.{◌≡◌, ◌∙◌, [], sym, ap, subst}
use Rattle.std.proofs.lemmas.Result.{IfOk-weaker}
use Rattle.git_model.specs.Unfold.{FileRow, by_walk}
use Rattle.git_model.proofs.SortLemmas.{rises-ascends}
use Rattle.tree_rebuild.specs.Added.{IsAdded}
use Rattle.tree_shape.specs.Shapes.{Good, id_of_rows, trees_of_rows}
use Rattle.tree_shape.proofs.WalkOrder.{files-distinct, walk-good, walk-root, walk-trees}
use Rattle.tree_shape.proofs.RowOrders.{plain-walk}
use Rattle.tree_rebuild.proofs.over.rebuild_tree.Goals as goal

pub by_walk-requires : goal.by_walk-requires
by_walk-requires g c = files-distinct c.args.rows.now c.requires.files c.requires.apart

pub rebuild_walk-requires-clause-good : goal.rebuild_walk-requires-clause-good
rebuild_walk-requires-clause-good g c = rw (c.deref.ensures.value ∙ c.in_ok-sorted.ensures) (walk-good c.args.rows.now c.requires.files c.requires.apart)

pub rebuild_walk-requires-else-has_directory-clause-good : goal.rebuild_walk-requires-else-has_directory-clause-good
rebuild_walk-requires-else-has_directory-clause-good g c =
    let rows = c.args.rows.now in
    let plain : by_walk rows ≡ rows = plain-walk rows (sym c.has_directory.ensures ∙ c.if-has_directory.false) (rises-ascends (λ (r : FileRow). r.path) rows c.requires.files.in_order) in
    subst Good plain (walk-good rows c.requires.files c.requires.apart)

pub returns-in_ok-sorted-clause-root : goal.returns-in_ok-sorted-clause-root
returns-in_ok-sorted-clause-root g c = IfOk-weaker c.rebuild_walk.result _ _ (λ trees is. is ∙ ap (id_of_rows 257) (c.deref.ensures.value ∙ c.in_ok-sorted.ensures) ∙ walk-root c.args.rows.now c.requires.files) c.rebuild_walk.ensures.root

pub returns-in_ok-sorted-clause-made : goal.returns-in_ok-sorted-clause-made
returns-in_ok-sorted-clause-made g c = IfOk-weaker c.rebuild_walk.result _ _ (λ trees is. subst (IsAdded (g.G.Objects.objects c.args.store.now) [] trees.made) (ap (trees_of_rows 257) (c.deref.ensures.value ∙ c.in_ok-sorted.ensures) ∙ walk-trees c.args.rows.now c.requires.files) is) c.rebuild_walk.ensures.made

pub returns-else-has_directory-clause-root : goal.returns-else-has_directory-clause-root
returns-else-has_directory-clause-root g c =
    let rows = c.args.rows.now in
    let plain : by_walk rows ≡ rows = plain-walk rows (sym c.has_directory.ensures ∙ c.if-has_directory.false) (rises-ascends (λ (r : FileRow). r.path) rows c.requires.files.in_order) in
    IfOk-weaker c.rebuild_walk-else-has_directory.result _ _ (λ trees is. is ∙ ap (id_of_rows 257) (sym plain) ∙ walk-root rows c.requires.files) c.rebuild_walk-else-has_directory.ensures.root

pub returns-else-has_directory-clause-made : goal.returns-else-has_directory-clause-made
returns-else-has_directory-clause-made g c =
    let rows = c.args.rows.now in
    let plain : by_walk rows ≡ rows = plain-walk rows (sym c.has_directory.ensures ∙ c.if-has_directory.false) (rises-ascends (λ (r : FileRow). r.path) rows c.requires.files.in_order) in
    IfOk-weaker c.rebuild_walk-else-has_directory.result _ _ (λ trees is. subst (IsAdded (g.G.Objects.objects c.args.store.now) [] trees.made) (ap (trees_of_rows 257) (sym plain) ∙ walk-trees rows c.requires.files) is) c.rebuild_walk-else-has_directory.ensures.made

pub returns-in_ok-sorted-clause-new : goal.returns-in_ok-sorted-clause-new
returns-in_ok-sorted-clause-new g c =
    let known = g.G.Objects.objects c.args.store.now in
    IfOk-weaker c.rebuild_walk.result _ _ (λ trees is.
    is ∙ ap (λ (rows : List FileRow). new_leaves (leaves_in known 257 c.args.old.now) (map leaf_of rows)) (c.deref.ensures.value ∙ c.in_ok-sorted.ensures)
    ∙ sym (new-trees known c.args.old.now c.args.rows.now c.requires.objects c.requires.files c.requires.apart))
    c.rebuild_walk.ensures.new

pub returns-else-has_directory-clause-new : goal.returns-else-has_directory-clause-new
returns-else-has_directory-clause-new g c =
    let known = g.G.Objects.objects c.args.store.now in
    let rows = c.args.rows.now in
    let plain : by_walk rows ≡ rows = plain-walk rows (sym c.has_directory.ensures ∙ c.if-has_directory.false) (rises-ascends (λ (r : FileRow). r.path) rows c.requires.files.in_order) in
    IfOk-weaker c.rebuild_walk-else-has_directory.result _ _ (λ trees is.
    is ∙ ap (λ (rows : List FileRow). new_leaves (leaves_in known 257 c.args.old.now) (map leaf_of rows)) (sym plain)
    ∙ sym (new-trees known c.args.old.now rows c.requires.objects c.requires.files c.requires.apart))
    c.rebuild_walk-else-has_directory.ensures.new
