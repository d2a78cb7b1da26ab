use Rattle.std.specs.Prelude.{◌≡◌, List, Some, None}
use Rattle.git_model.specs.Tree.{TreeEntry}
use Rattle.git_model.specs.Unfold.{tree_rows}
use Rattle.git_model.specs.Shape.{new_trees}
use Rattle.std.proofs.Common.{◌∙◌, ap, ◌++◌, sym, subst}
use Rattle.std.proofs.lemmas.Result.{IfOk-weaker}
use Rattle.text_model.specs.Lists.{In, Each}
use Rattle.git_model.specs.Shape.{trees_of}
use Rattle.tree_shape.proofs.Again.{root-sound, root-tree}
use Rattle.tree_rebuild.proofs.Kept.{added-are, added-held, built-are, built-held}
use Rattle.tree_rebuild.proofs.over.rebuild_apart.Goals as goal

pub rebuild_tree-requires-clause-old : goal.rebuild_tree-requires-clause-old
rebuild_tree-requires-clause-old g c = root-sound (g.G.Objects.objects c.args.store.now) c.tree.ensures.objects c.args.old.now c.in-Some.tree.now c.requires.walks (sym c.in-Some.ensures.tree)

pub returns-in-Some-clause-are : goal.returns-in-Some-clause-are
returns-in-Some-clause-are g c = IfOk-weaker c.rebuild_tree.result _ _ (λ trees added.
    subst (λ rows. Each (λ o. In o (trees_of rows)) trees.made) c.as_slice-rows.ensures.rows
    (added-are (g.G.Objects.objects c.args.store.now) trees.made (trees_of c.as_slice-rows.result.now) added)) c.rebuild_tree.ensures.made

pub returns-in-Some-clause-held : goal.returns-in-Some-clause-held
returns-in-Some-clause-held g c = IfOk-weaker c.rebuild_tree.result _ _ (λ trees added.
    subst (λ rows. Each (λ o. In o (trees.made ++ g.G.Objects.objects c.args.store.now)) (trees_of rows)) c.as_slice-rows.ensures.rows
    (added-held (g.G.Objects.objects c.args.store.now) trees.made (trees_of c.as_slice-rows.result.now) added)) c.rebuild_tree.ensures.made

pub returns-in-Some-clause-made : goal.returns-in-Some-clause-made
returns-in-Some-clause-made g c = IfOk-weaker c.rebuild_tree.result _ _ (λ trees new.
    new ∙ ap (new_trees (tree_rows (g.G.Objects.objects c.args.store.now) c.args.old.now)) c.as_slice-rows.ensures.rows) c.rebuild_tree.ensures.new

pub returns-in-None-clause-are : goal.returns-in-None-clause-are
returns-in-None-clause-are g c = IfOk-weaker c.build_apart.result _ _ (λ trees made.
    subst (λ rows. Each (λ o. In o (trees_of rows)) trees.made) c.as_slice-rows.ensures.rows
    (built-are trees.made (trees_of c.as_slice-rows.result.now) made)) c.build_apart.ensures.made

pub returns-in-None-clause-held : goal.returns-in-None-clause-held
returns-in-None-clause-held g c = IfOk-weaker c.build_apart.result _ _ (λ trees made.
    subst (λ rows. Each (λ o. In o (trees.made ++ g.G.Objects.objects c.args.store.now)) (trees_of rows)) c.as_slice-rows.ensures.rows
    (built-held (g.G.Objects.objects c.args.store.now) trees.made (trees_of c.as_slice-rows.result.now) made)) c.build_apart.ensures.made

pub returns-in-None-clause-made : goal.returns-in-None-clause-made
returns-in-None-clause-made g c =
    let known = g.G.Objects.objects c.args.store.now in
    let t = root-tree known c.tree.ensures.objects c.args.old.now c.requires.walks in
    absurd (no-some t.0 (c.in-None.ensures.tree ∙ t.1))
  where
    no-some : (entries : List TreeEntry) → None ≡ Some entries → ⊥
    no-some entries q = cc
