use Rattle.std.proofs.Common.{◌++◌, true≢false, sym, ◌∙◌}
use Rattle.text_model.proofs.Elements.{each_at}
use Rattle.commit_rule.proofs.ListLemmas.{get-at, each-more}
use Rattle.commit_rule.proofs.BlobLemmas.{row-there}
use Rattle.pair_choice.specs.Bodies.{IsBodyAlone}
use Rattle.pair_choice.proofs.bodies.has_bodies.Goals as goal

pub has_body-requires : goal.has_body-requires
has_body-requires c =
    let at = get-at c.args.h.now.rows c.as_slice-rows.result.now c.loop-row.row-index c.row-item.result c.as_slice-rows.ensures c.loop-row-test.true c.row-item.is in
    let r = row-there (c.args.h.now.fresh ++ c.args.known.now.hg) c.args.h.now.rows c.requires.held.0 c.loop-row.row-index c.row-item.result c.requires.held.1 at in
    record { held = (r.0, r.2) }

pub loop-row-preserved : goal.loop-row-preserved
loop-row-preserved c = λ rows are.
    let i = c.loop-row.row-index in
    let at = get-at c.args.h.now.rows c.as_slice-rows.result.now i c.row-item.result c.as_slice-rows.ensures c.loop-row-test.true c.row-item.is in
    let r = row-there (c.args.h.now.fresh ++ c.args.known.now.hg) c.args.h.now.rows rows i c.row-item.result are at in
    each-more (IsBodyAlone c.args.known.now.git c.args.d.now.fresh) rows i r.0 r.1 (c.loop-row.invariant rows are) ((c.has_body.ensures r.0 r.2).0 c.if-not-has_body.false)

pub returns-then-not-has_body : goal.returns-then-not-has_body
returns-then-not-has_body c = λ rows are.
    let i = c.loop-row.row-index in
    let at = get-at c.args.h.now.rows c.as_slice-rows.result.now i c.row-item.result c.as_slice-rows.ensures c.loop-row-test.true c.row-item.is in
    let r = row-there (c.args.h.now.fresh ++ c.args.known.now.hg) c.args.h.now.rows rows i c.row-item.result are at in (
      λ t. absurd (true≢false (sym t)),
      λ alone. absurd (true≢false (sym ((c.has_body.ensures r.0 r.2).1 (each_at (IsBodyAlone c.args.known.now.git c.args.d.now.fresh) rows i r.0 r.1 alone)) ∙ c.if-not-has_body.true)),
    )
