use Rattle.std.proofs.Common.{IsTrue, ◌↔◌, ◌≡◌, List, refl}
use Rattle.std.proofs.lemmas.Result.{IfOk-weaker}
use Rattle.git_model.specs.Residue.{residue_of, carried, plain_files}
use Rattle.view_model.specs.View.{CommitView}
use Rattle.pair_model.specs.Block.{Block}
use Rattle.pair_known.specs.Over.{IsCommitOver}
use Rattle.plain_rule.specs.CommitHead.{IsHandedOn}
use Rattle.plain_rule.proofs.PlainCommit.{handed-by-test}
use Rattle.plain_rule.proofs.commit.has_what_is_handed_on.Goals as goal

pub returns-clause-same : goal.returns-clause-same
returns-clause-same c =
    let known = c.args.known.now in
    let files = c.args.c.now.files in
    IfOk-weaker c.is_handed_on.result (λ t. IsTrue t ↔ residue_of files ≡ carried c.in_ok-old.old (plain_files files))
    (λ t. (blocks : List Block) → (v : CommitView) → IsCommitOver known blocks c.args.c.now v → IsTrue t ↔ IsHandedOn blocks v)
    (λ t test blocks v over.
    handed-by-test known blocks c.args.c.now v over c.first_tree.ensures.known c.first_tree.result (c.first_tree.ensures.tree blocks v over)
    files c.in_ok-old.old refl c.in_ok-old.ensures t test) c.is_handed_on.ensures
