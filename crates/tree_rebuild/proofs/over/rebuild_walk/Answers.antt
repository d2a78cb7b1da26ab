use Rattle.std.specs.Prelude.{◌++◌}
use Rattle.std.proofs.Common.{◌∙◌, [], List, map, sym, ap, subst}
use Rattle.git_model.specs.Object.{Object}
use Rattle.git_model.specs.Unfold.{FileRow}
use Rattle.git_model.specs.Shape.{leaf_of}
use Rattle.tree_shape.specs.Shapes.{shorts, Good, id_of_rows, trees_of_rows}
use Rattle.tree_shape.specs.Wholes.{tree_leaves}
use Rattle.tree_shape.proofs.WalkOrder.{shorts-none}
use Rattle.tree_rebuild.specs.Added.{IsAdded}
use Rattle.tree_rebuild.specs.News.{new_over}
use Rattle.tree_rebuild.proofs.Kept.{whole-of, sound-leaves}
use Rattle.tree_rebuild.proofs.Turning.{root-id, root-added}
use Rattle.tree_rebuild.proofs.over.rebuild_walk.Goals as goal

pub put_rows_over-requires-clause-good : goal.put_rows_over-requires-clause-good
put_rows_over-requires-clause-good g c = subst Good (sym (shorts-none c.args.rows.now)) c.requires.good

pub put_rows_over-requires-clause-old : goal.put_rows_over-requires-clause-old
put_rows_over-requires-clause-old g c = whole-of (g.G.Objects.objects c.args.store.now) 257 c.args.old.now c.args.tree.now c.requires.old

pub returns-clause-root : goal.returns-clause-root
returns-clause-root g c =
    c.unwrap_or.ensures
    ∙ root-id (g.G.Objects.objects c.args.store.now) 257 c.args.old.now c.args.tree.now (shorts 0 c.args.rows.now) c.in_ok-root.root c.requires.objects c.requires.old c.in_ok-root.ensures.same c.in_ok-root.ensures.id
    ∙ ap (λ (r : List FileRow). id_of_rows 257 r) (shorts-none c.args.rows.now)

pub returns-clause-made : goal.returns-clause-made
returns-clause-made g c =
    let known = g.G.Objects.objects c.args.store.now in
    subst (λ (r : List FileRow). IsAdded known [] c.put_rows_over.new.made (trees_of_rows 257 r)) (shorts-none c.args.rows.now)
    (subst (λ (made : List Object). IsAdded known made c.put_rows_over.new.made (trees_of_rows 257 (shorts 0 c.args.rows.now))) c.new-made.ensures
    (root-added known 257 c.args.old.now c.args.tree.now (shorts 0 c.args.rows.now) c.in_ok-root.root _ _ c.requires.objects c.requires.old c.in_ok-root.ensures.same c.in_ok-root.ensures.made c.in_ok-root.ensures.new))

pub returns-clause-new : goal.returns-clause-new
returns-clause-new g c =
    let known = g.G.Objects.objects c.args.store.now in
    let rows = c.args.rows.now in
    let leaves = sound-leaves known 257 c.args.old.now c.args.tree.now c.requires.old in
    c.in_ok-root.ensures.new ∙ ap (λ (os : List Object). os ++ new_over 257 (tree_leaves known 257 c.args.tree.now) (map leaf_of (shorts 0 rows))) c.new-made.ensures
    ∙ (λ k. new_over 257 (sym leaves k) (map leaf_of (shorts-none rows k)))
