use Rattle.std.proofs.Common.{◌∙◌, ◌-◌, ◌+◌, ◌≡◌, ℕ, List, map, sym, ap, subst, arith}
use Rattle.text_model.specs.Id.{Id}
use Rattle.git_model.specs.Object.{tree_at}
use Rattle.git_model.specs.Tree.{TreeEntry}
use Rattle.git_model.specs.Shape.{leaf_of}
use Rattle.tree_shape.specs.Shapes.{shorts}
use Rattle.tree_shape.specs.Wholes.{Sound, tree_leaves}
use Rattle.tree_rebuild.specs.News.{has_group, same_leaves}
use Rattle.tree_rebuild.proofs.Beside.{none-rows}
use Rattle.tree_rebuild.proofs.Kept.{whole-of}
use Rattle.tree_rebuild.proofs.SameSteps.{sound-deep}
use Rattle.tree_rebuild.proofs.OldLeaves.{IsDirectoryAt, below-known, group-known, sound-known, not-unknown, none-below, same-none, some-rows}
use Rattle.tree_rebuild.proofs.over.find_subtree.Goals as goal

pub returns-in_default-clause-leaves : goal.returns-in_default-clause-leaves
returns-in_default-clause-leaves g c = λ levels w.
    let known = g.G.Objects.objects c.args.store.now in
    none-below known (levels - 1) c.args.old.now c.args.name.now c.in_default.ensures.entry ∙ ap (λ (es : List TreeEntry). tree_leaves known (levels - 1) es) (sym c.requires)

pub returns-in_default-clause-group : goal.returns-in_default-clause-group
returns-in_default-clause-group g c = λ levels skip rows w some.
    let known = g.G.Objects.objects c.args.store.now in
    same-none known (levels - 1) c.args.old.now c.args.name.now (map leaf_of (shorts skip rows)) c.in_default.ensures.entry (some-rows known (levels - 1) skip rows some)
    ∙ none-rows known (levels - 1) skip c.args.none.now rows c.requires some

pub returns-in-Some-tree-clause-whole : goal.returns-in-Some-tree-clause-whole
returns-in-Some-tree-clause-whole g c = λ levels w.
    let known = g.G.Objects.objects c.args.store.now in
    let at : IsDirectoryAt c.args.old.now c.in-Some.entry.now c.args.name.now = record { tree = c.in-Some.ensures.tree.2; one = c.in-Some.ensures.entry.0; directory = c.in-Some.ensures.entry.1; named = c.in-Some.ensures.entry.2 } in
    whole-of known (levels - 1) c.in-Some.entry.now.id c.in-Some-tree.tree.now
    (sound-known known c.args.old.now c.in-Some.entry.now c.args.name.now at levels c.in-Some-tree.tree.now w (ap (tree_at known) (sym c.id.ensures) ∙ sym c.in-Some-tree.ensures.tree))

pub returns-in-Some-tree-clause-leaves : goal.returns-in-Some-tree-clause-leaves
returns-in-Some-tree-clause-leaves g c = λ levels w.
    let known = g.G.Objects.objects c.args.store.now in
    let at : IsDirectoryAt c.args.old.now c.in-Some.entry.now c.args.name.now = record { tree = c.in-Some.ensures.tree.2; one = c.in-Some.ensures.entry.0; directory = c.in-Some.ensures.entry.1; named = c.in-Some.ensures.entry.2 } in
    below-known known c.args.old.now c.in-Some.entry.now c.args.name.now at levels c.in-Some-tree.tree.now
    (sound-known known c.args.old.now c.in-Some.entry.now c.args.name.now at levels c.in-Some-tree.tree.now w (ap (tree_at known) (sym c.id.ensures) ∙ sym c.in-Some-tree.ensures.tree))

pub returns-in-Some-tree-clause-group : goal.returns-in-Some-tree-clause-group
returns-in-Some-tree-clause-group g c = λ levels skip rows w some.
    let known = g.G.Objects.objects c.args.store.now in
    let at : IsDirectoryAt c.args.old.now c.in-Some.entry.now c.args.name.now = record { tree = c.in-Some.ensures.tree.2; one = c.in-Some.ensures.entry.0; directory = c.in-Some.ensures.entry.1; named = c.in-Some.ensures.entry.2 } in
    let s = sound-known known c.args.old.now c.in-Some.entry.now c.args.name.now at levels c.in-Some-tree.tree.now w (ap (tree_at known) (sym c.id.ensures) ∙ sym c.in-Some-tree.ensures.tree) in
    let deep = sound-deep known (levels - 1) c.in-Some.entry.now.id c.in-Some-tree.tree.now s in
    let up : levels - 1 + 1 ≡ levels = omega (arith, deep) in
    subst (λ (n : ℕ). has_group c.args.name.now (tree_leaves known n c.args.old.now) (map leaf_of (shorts skip rows)) ≡ same_leaves (tree_leaves known (levels - 1) c.in-Some-tree.tree.now) (map leaf_of (shorts skip rows))) up
    (group-known known c.args.old.now c.in-Some.entry.now c.args.name.now at (levels - 1) c.in-Some-tree.tree.now (map leaf_of (shorts skip rows)) s (some-rows known (levels - 1) skip rows some))

pub returns-in-Some-tree-clause-held : goal.returns-in-Some-tree-clause-held
returns-in-Some-tree-clause-held g c = λ levels w some.
    let known = g.G.Objects.objects c.args.store.now in
    let at : IsDirectoryAt c.args.old.now c.in-Some.entry.now c.args.name.now = record { tree = c.in-Some.ensures.tree.2; one = c.in-Some.ensures.entry.0; directory = c.in-Some.ensures.entry.1; named = c.in-Some.ensures.entry.2 } in
    subst (λ (x : Id). Sound known (levels - 1) x c.in-Some-tree.tree.now) (sym c.id-in-Some-tree.ensures)
    (sound-known known c.args.old.now c.in-Some.entry.now c.args.name.now at levels c.in-Some-tree.tree.now w (ap (tree_at known) (sym c.id.ensures) ∙ sym c.in-Some-tree.ensures.tree))

pub returns-in-None-clause-leaves : goal.returns-in-None-clause-leaves
returns-in-None-clause-leaves g c = λ levels w.
    let known = g.G.Objects.objects c.args.store.now in
    let at : IsDirectoryAt c.args.old.now c.in-Some.entry.now c.args.name.now = record { tree = c.in-Some.ensures.tree.2; one = c.in-Some.ensures.entry.0; directory = c.in-Some.ensures.entry.1; named = c.in-Some.ensures.entry.2 } in
    absurd (not-unknown known c.args.old.now c.in-Some.entry.now c.args.name.now at levels w (c.in-None.ensures.tree ∙ ap (tree_at known) c.id.ensures))

pub returns-in-None-clause-group : goal.returns-in-None-clause-group
returns-in-None-clause-group g c = λ levels skip rows w some.
    let known = g.G.Objects.objects c.args.store.now in
    let at : IsDirectoryAt c.args.old.now c.in-Some.entry.now c.args.name.now = record { tree = c.in-Some.ensures.tree.2; one = c.in-Some.ensures.entry.0; directory = c.in-Some.ensures.entry.1; named = c.in-Some.ensures.entry.2 } in
    absurd (not-unknown known c.args.old.now c.in-Some.entry.now c.args.name.now at levels w (c.in-None.ensures.tree ∙ ap (tree_at known) c.id.ensures))

pub returns-in-None-clause-next : goal.returns-in-None-clause-next
returns-in-None-clause-next g c = λ levels w i.
    let known = g.G.Objects.objects c.args.store.now in
    let at : IsDirectoryAt c.args.old.now c.in-Some.entry.now c.args.name.now = record { tree = c.in-Some.ensures.tree.2; one = c.in-Some.ensures.entry.0; directory = c.in-Some.ensures.entry.1; named = c.in-Some.ensures.entry.2 } in
    absurd (not-unknown known c.args.old.now c.in-Some.entry.now c.args.name.now at levels w (c.in-None.ensures.tree ∙ ap (tree_at known) c.id.ensures))
