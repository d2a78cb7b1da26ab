use Rattle.std.proofs.Common.{◌∙◌, ◌-◌, sym, ap}
use Rattle.text_model.specs.Id.{Id}
use Rattle.git_model.specs.Object.{tree_at}
use Rattle.git_model.specs.Unfold.{has_no_entries}
use Rattle.tree_rebuild.proofs.OldLeaves.{IsDirectoryAt, empty-known, empty-none}
use Rattle.tree_rebuild.proofs.over.has_empty.Goals as goal

pub returns-in-Some-clause-empty : goal.returns-in-Some-clause-empty
returns-in-Some-clause-empty g c = λ levels.
    let known = g.G.Objects.objects c.args.store.now in
    let at : IsDirectoryAt c.args.old.now c.in-Some.entry.now c.args.name.now = record { tree = c.in-Some.ensures.tree.2; one = c.in-Some.ensures.entry.0; directory = c.in-Some.ensures.entry.1; named = c.in-Some.ensures.entry.2 } in
    c.is_empty_tree.ensures ∙ ap (λ (i : Id). has_no_entries (tree_at known i)) c.id.ensures ∙ sym (empty-known known c.args.old.now c.in-Some.entry.now c.args.name.now at levels c.requires)

pub returns-in-None-clause-empty : goal.returns-in-None-clause-empty
returns-in-None-clause-empty g c = λ levels. sym (empty-none (g.G.Objects.objects c.args.store.now) (levels - 1) c.args.old.now c.args.name.now c.in-None.ensures.entry)
