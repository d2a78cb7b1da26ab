use Rattle.std.proofs.Common.{ℕ, length, ap, subst, ◌≤◌}
use Rattle.std.specs.Prelude.{◌↔◌, IsTrue}
use Rattle.view_model.specs.View.{text_limit}
use Rattle.manifest_rule.proofs.ManifestLemmas.{lines-are}
use Rattle.changeset_rule.proofs.fits.manifest_fits.Goals as goal

pub returns-in-None : goal.returns-in-None
returns-in-None c = λ v texts rows.
    subst (λ (n : ℕ). IsTrue c.lines_fit.result ↔ n ≤ text_limit) (ap length (lines-are c.args.d.now.rows v.rows rows)) c.lines_fit.ensures
