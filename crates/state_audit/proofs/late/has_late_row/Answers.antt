use Rattle.std.proofs.Common.{List, sym, subst, ◌∙◌}
use Rattle.text_model.specs.Lists.{Each}
use Rattle.hg_model.specs.Manifest.{ManifestEntry}
use Rattle.state_audit.specs.Seen.{IsLineSeen}
use Rattle.state_audit.proofs.LateRows.{turn, late-here, late-more, none-late}
use Rattle.state_audit.proofs.late.has_late_row.Goals as goal

pub returns-then-is_row_late : goal.returns-then-is_row_late
returns-then-is_row_late c = λ front files seen times are held.
    let known = c.args.hg.now in
    let i = c.loop-row.row-index in
    let v = c.row-item.result in
    let t = turn known front files c.args.rows.now are held i v c.loop-row-test.true c.row-item.is in
    let lines = subst (λ (es : List ManifestEntry). Each (IsLineSeen front) es) (sym c.loop-row.invariant.same) seen.lines in
    sym (late-here known front files c.args.rows.now are held i v t (sym (c.is_row_late.ensures.late front t.file seen.refers lines times t.is t.is_held) ∙ c.if-is_row_late.true))

pub loop-row-preserved : goal.loop-row-preserved
loop-row-preserved c = record {
  none = λ front files seen times are held.
      let known = c.args.hg.now in
      let i = c.loop-row.row-index in
      let v = c.row-item.result in
      let t = turn known front files c.args.rows.now are held i v c.loop-row-test.true c.row-item.is in
      let lines = subst (λ (es : List ManifestEntry). Each (IsLineSeen front) es) (sym c.loop-row.invariant.same) seen.lines in
      late-more known front files c.args.rows.now are held i v t (sym (c.is_row_late.ensures.late front t.file seen.refers lines times t.is t.is_held) ∙ c.if-is_row_late.false)
      (c.loop-row.invariant.none front files seen times are held);
  same = c.is_row_late.ensures.same ∙ c.loop-row.invariant.same;
}

pub returns : goal.returns
returns c = λ front files seen times are held.
    sym (none-late c.args.hg.now front files c.args.rows.now are held c.loop-row.row-index c.loop-row-test.false (c.loop-row.invariant.none front files seen times are held))
