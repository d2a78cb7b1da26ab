use Rattle.git_model.proofs.ObjectLemmas.{tree_at-tree}
use Rattle.git_object.proofs.laws.object_laws.Goals as goal

pub returns : goal.returns
returns c = tree_at-tree
