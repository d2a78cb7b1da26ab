use Rattle.std.proofs.Common.{◌≡◌, ◌++◌, ◌∙◌, ap}
use Rattle.std.proofs.lemmas.Result.{IfOk-weaker}
use Rattle.text_model.specs.Lists.{In, Each}
use Rattle.git_model.specs.Shape.{trees_of}
use Rattle.tree_rebuild.proofs.Kept.{built-are, built-held}
use Rattle.commit_rule.proofs.trees.trees_over.Goals as goal

pub returns-in-None-clause-are : goal.returns-in-None-clause-are
returns-in-None-clause-are c =
    IfOk-weaker c.build_apart.result (λ trees. trees.made ≡ trees_of c.as_slice.result.now) (λ trees. Each (λ o. In o (trees_of c.args.files.now)) trees.made)
    (λ trees e. built-are trees.made (trees_of c.args.files.now) (e ∙ ap trees_of c.as_slice.ensures.rows)) c.build_apart.ensures.made

pub returns-in-None-clause-held : goal.returns-in-None-clause-held
returns-in-None-clause-held c =
    IfOk-weaker c.build_apart.result (λ trees. trees.made ≡ trees_of c.as_slice.result.now) (λ trees. Each (λ o. In o (trees.made ++ c.args.git.now)) (trees_of c.args.files.now))
    (λ trees e. built-held c.args.git.now trees.made (trees_of c.args.files.now) (e ∙ ap trees_of c.as_slice.ensures.rows)) c.build_apart.ensures.made
