use Rattle.std.proofs.Common.{◌∙◌, sym}
use Rattle.tree_shape.proofs.Again.{root-tree, root-again, trees-again}
use Rattle.tree_shape.proofs.Unfolding.{unfolds}
use Rattle.tree_shape.proofs.WalkLemmas.{walk-fault}
use Rattle.tree_shape.proofs.laws.unfold_laws.Goals as goal

pub returns-clause-unfolds : goal.returns-clause-unfolds
returns-clause-unfolds c = λ known root are h. let t = root-tree known are root h in unfolds known root are (sym (walk-fault known root t.0 t.1) ∙ h)

pub returns-clause-root : goal.returns-clause-root
returns-clause-root c = λ known root are. root-again known are root

pub returns-clause-trees : goal.returns-clause-trees
returns-clause-trees c = λ known root are. trees-again known are root
