use Rattle.std.proofs.Common.{List, refl, sym, ◌∙◌, true≢false, arith, length, ap, subst}
use Rattle.std.proofs.lemmas.List.{length-map}
use Rattle.text_model.specs.Lists.{Each}
use Rattle.text_model.proofs.Elements.{each_at, take_whole}
use Rattle.hg_model.specs.Manifest.{ManifestEntry}
use Rattle.pair_known.specs.Rows.{row_value}
use Rattle.pair_state.proofs.BodyLemmas.{asked-at, each-more, value-at}
use Rattle.state_audit.specs.Audited.{IsFileRight}
use Rattle.state_audit.specs.Seen.{IsLineSeen}
use Rattle.state_audit.proofs.files.are_files_right.Goals as goal

pub is_file_right-requires : goal.is_file_right-requires
is_file_right-requires c =
    let at = value-at c.args.rows.now c.args.rows.now c.loop-row.row-index c.row-item.result refl c.loop-row-test.true c.row-item.is in
    let x = asked-at c.args.known.now.hg c.args.known.now.git c.args.rows.now c.requires.asked.0 c.loop-row.row-index c.row-item.result c.requires.asked.1 at in
    record { asked = (x.row, x.asked) }

pub returns-then-not-is_file_right : goal.returns-then-not-is_file_right
returns-then-not-is_file_right c = λ front files seen compared asked.
    let at = value-at c.args.rows.now c.args.rows.now c.loop-row.row-index c.row-item.result refl c.loop-row-test.true c.row-item.is in
    let x = asked-at c.args.known.now.hg c.args.known.now.git c.args.rows.now files c.loop-row.row-index c.row-item.result asked at in
    let lines = subst (λ (es : List ManifestEntry). Each (IsLineSeen front) es) (sym c.loop-row.invariant.same) seen.lines in (
      (λ t. absurd (true≢false (sym t))),
      (λ each. absurd (true≢false (sym ((c.is_file_right.ensures.right front x.row seen.refers lines compared x.asked).1 (each_at (IsFileRight c.args.known.now.git front) files c.loop-row.row-index x.row x.at each)) ∙ c.if-not-is_file_right.true))),
    )

pub loop-row-preserved : goal.loop-row-preserved
loop-row-preserved c = record {
  right = λ front files seen compared asked.
      let at = value-at c.args.rows.now c.args.rows.now c.loop-row.row-index c.row-item.result refl c.loop-row-test.true c.row-item.is in
      let x = asked-at c.args.known.now.hg c.args.known.now.git c.args.rows.now files c.loop-row.row-index c.row-item.result asked at in
      let lines = subst (λ (es : List ManifestEntry). Each (IsLineSeen front) es) (sym c.loop-row.invariant.same) seen.lines in
      each-more (IsFileRight c.args.known.now.git front) files c.loop-row.row-index x.row (c.loop-row.invariant.right front files seen compared asked) x.at ((c.is_file_right.ensures.right front x.row seen.refers lines compared x.asked).0 c.if-not-is_file_right.false);
  same = c.is_file_right.ensures.same ∙ c.loop-row.invariant.same;
}

pub returns : goal.returns
returns c = λ front files seen compared asked. (
  (λ t.
      let whole = take_whole files c.loop-row.row-index (omega (arith, c.loop-row-test.false, ap length asked.are, length-map files row_value)) in
      subst (Each (IsFileRight c.args.known.now.git front)) whole (c.loop-row.invariant.right front files seen compared asked)),
  (λ each. refl),
)
