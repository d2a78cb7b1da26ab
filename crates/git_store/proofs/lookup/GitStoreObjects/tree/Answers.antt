use Rattle.std.proofs.Common.{ap, ◌∙◌}
use Rattle.git_model.specs.Object.{entries_of}
use Rattle.git_store.proofs.HeldLemmas.{tree-held}
use Rattle.git_store.proofs.lookup.GitStoreObjects.tree.Goals as goal

pub returns-in-Tree-clause-tree : goal.returns-in-Tree-clause-tree
returns-in-Tree-clause-tree c = tree-held c.args.id.now c.in_ok-held.held.now c.in-Tree.tree c.in-Tree.is c.in_ok-held.ensures.value ∙ ap entries_of c.in_ok-held.ensures.object
