use Rattle.std.proofs.Common.{◌≤◌, ◌↔◌, List, length}
use Rattle.std.specs.Prelude.{IsTrue}
use Rattle.std.proofs.lemmas.Result.{IfOk-weaker}
use Rattle.git_model.specs.Commit.{commit_text}
use Rattle.git_model.specs.Object.{Object}
use Rattle.view_model.specs.View.{CommitView, CommitFits, commit_limit}
use Rattle.pair_known.specs.Ruled.{IsMadeCommit}
use Rattle.commit_rule.proofs.RuledLemmas.{fits-parts, parts-fit}
use Rattle.commit_rule.proofs.fits.commit_fits.Goals as goal

pub returns : goal.returns
returns c =
    let d = c.args.d.now in
    IfOk-weaker c.text_fits.result (λ fits. IsTrue fits ↔ length (commit_text d.commit) ≤ commit_limit) (λ fits. (known : List Object) (v : CommitView) → IsMadeCommit known d v → IsTrue fits ↔ CommitFits v)
    (λ fits text known v made. (λ t. parts-fit known d v made (c.rows_fit.ensures.0 c.if-not-rows_fit.false) (text.0 t), λ h. text.1 (fits-parts known d v made h).1)) c.text_fits.ensures
