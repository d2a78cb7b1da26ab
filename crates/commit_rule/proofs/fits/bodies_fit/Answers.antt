use Rattle.std.proofs.Common.{◌≤◌, ◌++◌, length, true≢false, sym, ◌∙◌}
use Rattle.text_model.proofs.Elements.{each_at}
use Rattle.view_model.specs.View.{Row, text_limit}
use Rattle.commit_rule.proofs.ListLemmas.{get-at, each-more}
use Rattle.commit_rule.proofs.BlobLemmas.{row-there}
use Rattle.commit_rule.proofs.fits.bodies_fit.Goals as goal

pub body_fits-requires : goal.body_fits-requires
body_fits-requires c =
    let at = get-at c.args.h.now.rows c.as_slice-rows.result.now c.loop-row.row-index c.row-item.result c.as_slice-rows.ensures c.loop-row-test.true c.row-item.is in
    let r = row-there (c.args.h.now.fresh ++ c.args.known.now.hg) c.args.h.now.rows c.requires.held.0 c.loop-row.row-index c.row-item.result c.requires.held.1 at in
    record { held = (r.0, r.2) }

pub loop-row-preserved : goal.loop-row-preserved
loop-row-preserved c = λ rows added are.
    let i = c.loop-row.row-index in
    let at = get-at c.args.h.now.rows c.as_slice-rows.result.now i c.row-item.result c.as_slice-rows.ensures c.loop-row-test.true c.row-item.is in
    let r = row-there (c.args.h.now.fresh ++ c.args.known.now.hg) c.args.h.now.rows rows i c.row-item.result are at in
    each-more (λ (row : Row). length (row.revision).body ≤ text_limit) rows i r.0 r.1 (c.loop-row.invariant rows added are) ((c.body_fits.ensures r.0 added r.2).0 c.if-not-body_fits.false)

pub returns-then-not-body_fits : goal.returns-then-not-body_fits
returns-then-not-body_fits c = λ rows added are.
    let i = c.loop-row.row-index in
    let at = get-at c.args.h.now.rows c.as_slice-rows.result.now i c.row-item.result c.as_slice-rows.ensures c.loop-row-test.true c.row-item.is in
    let r = row-there (c.args.h.now.fresh ++ c.args.known.now.hg) c.args.h.now.rows rows i c.row-item.result are at in (
      λ t. absurd (true≢false (sym t)),
      λ short. absurd (true≢false (sym ((c.body_fits.ensures r.0 added r.2).1 (each_at (λ (row : Row). length (row.revision).body ≤ text_limit) rows i r.0 r.1 short)) ∙ c.if-not-body_fits.true)),
    )
