use Rattle.std.proofs.Common.{List, subst}
use Rattle.git_model.specs.Tree.{TreeEntry}
use Rattle.text_model.specs.Lists.{In}
use Rattle.tree_rebuild.proofs.Beside.{next-at}
use Rattle.tree_rebuild.proofs.over.directory_near.Goals as goal

pub returns-then-is_directory_at-clause-entry : goal.returns-then-is_directory_at-clause-entry
returns-then-is_directory_at-clause-entry c =
    let n = next-at c.args.name.now c.entries-entries.result.now c.args.place c.index-entries-place.result c.index-entries-place.is (c.is_directory_at.ensures.0 c.if-is_directory_at.true) in (subst (λ (es : List TreeEntry). In c.index-entries-place.result es) c.entries-entries.ensures.entries n.0, n.1, n.2)
