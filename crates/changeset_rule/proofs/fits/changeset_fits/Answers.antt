use Rattle.std.proofs.Common.{true≢false, sym, ◌∙◌}
use Rattle.std.proofs.lemmas.Result.{IfOk-weaker}
use Rattle.changeset_rule.proofs.FitsLemmas.{fresh-short, rows-short}
use Rattle.changeset_rule.proofs.fits.changeset_fits.Goals as goal

pub returns-then-not-files_fit : goal.returns-then-not-files_fit
returns-then-not-files_fit c = λ known v added made. (
  (λ e. absurd (true≢false (sym e))),
  (λ fits. absurd (true≢false (sym (c.files_fit.ensures.1 (fresh-short c.args.d.now.fresh v.rows made.of_rows fits.files)) ∙ c.if-not-files_fit.true))),
)

pub returns : goal.returns
returns c =
    IfOk-weaker c.text_fits.result _ _ (λ fits h known v added made.
    let t = h v (made.draft).texts (made.draft).fields in (
      (λ e. record {
        text = t.0 e;
        manifest = (c.manifest_fits.ensures v (made.draft).texts (made.draft).rows).0 c.if-not-manifest_fits.false;
        files = rows-short known added c.args.d.now.fresh v.rows (c.files_fit.ensures.0 c.if-not-files_fit.false) (made.draft).files;
      }),
      (λ all. t.1 all.text),
    )) c.text_fits.ensures
