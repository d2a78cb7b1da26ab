use Rattle.std.proofs.Common.{◌≡◌, List, length, sym, ap, subst, ◌∙◌, refl, arith, take_all}
use Rattle.std.proofs.lemmas.List.{length-map}
use Rattle.text_model.specs.Lists.{Each}
use Rattle.view_model.specs.View.{Row, SameRow, SameRows}
use Rattle.pair_known.specs.Rows.{RowValue, row_value}
use Rattle.file_rule.proofs.BackLemmas.{again, rows-again, each-same, each-more, not-here}
use Rattle.file_rule.proofs.RowsLoop.{seen}
use Rattle.changeset_unmark.proofs.RowStep.{item-at, here}
use Rattle.changeset_unmark.proofs.rows.are_rows_ruled.Goals as goal

pub returns-then-not-is_row_ruled : goal.returns-then-not-is_row_ruled
returns-then-not-is_row_ruled c = λ ps v over.
    let at = here c.args.store.now c.args.h.now c.args.first.now c.args.second.now ps v over c.loop-row.row-index c.row-item.result
    (item-at c.args.h.now.rows c.as_slice-rows.result.now c.loop-row.row-index c.row-item.result c.as_slice-rows.ensures c.loop-row-test.true c.row-item.is)
    c.as_slice.result.now c.as_slice-in-loop-row.result.now (c.as_slice.ensures ∙ ap (λ (x : RowValue). x.path) c.row.view_is) (c.as_slice-in-loop-row.ensures ∙ ap (λ (x : RowValue). x.path) c.row.view_is)
    c.get-in_first.result c.get-in_second.result (seen (c.args.first.now.manifest).now c.loop-row.first_walk _ _ _ c.loop-row.invariant.first_seen refl c.get-in_first.ensures.entry) (seen (c.args.second.now.manifest).now c.loop-row.second_walk _ _ _ c.loop-row.invariant.second_seen refl c.get-in_second.ensures.entry) c.is_row_ruled.result c.is_row_ruled.ensures in
    not-here ps v.rows c.loop-row.row-index c.is_row_ruled.result at c.if-not-is_row_ruled.true

pub loop-row-preserved : goal.loop-row-preserved
loop-row-preserved c = record {
  first_seen = c.get-in_first.ensures.same ∙ c.loop-row.invariant.first_seen;
  second_seen = c.get-in_second.ensures.same ∙ c.loop-row.invariant.second_seen;
  back = λ ps v over.
      let at = here c.args.store.now c.args.h.now c.args.first.now c.args.second.now ps v over c.loop-row.row-index c.row-item.result
      (item-at c.args.h.now.rows c.as_slice-rows.result.now c.loop-row.row-index c.row-item.result c.as_slice-rows.ensures c.loop-row-test.true c.row-item.is)
      c.as_slice.result.now c.as_slice-in-loop-row.result.now (c.as_slice.ensures ∙ ap (λ (x : RowValue). x.path) c.row.view_is) (c.as_slice-in-loop-row.ensures ∙ ap (λ (x : RowValue). x.path) c.row.view_is)
      c.get-in_first.result c.get-in_second.result (seen (c.args.first.now.manifest).now c.loop-row.first_walk _ _ _ c.loop-row.invariant.first_seen refl c.get-in_first.ensures.entry) (seen (c.args.second.now.manifest).now c.loop-row.second_walk _ _ _ c.loop-row.invariant.second_seen refl c.get-in_second.ensures.entry) c.is_row_ruled.result c.is_row_ruled.ensures in
      each-more ps v.rows c.loop-row.row-index c.is_row_ruled.result at c.if-not-is_row_ruled.false (c.loop-row.invariant.back ps v over);
}

pub returns : goal.returns
returns c = λ ps v over.
    let n : length v.rows ≡ length c.args.h.now.rows = sym (ap length (over.draft).rows ∙ length-map v.rows row_value) in
    let each = subst (Each (λ h. SameRow (again ps h) h)) (take_all c.loop-row.row-index v.rows (omega (arith, n, ap length c.as_slice-rows.ensures, c.loop-row-test.false))) (c.loop-row.invariant.back ps v over) in
    ((λ _. subst (λ (l : List Row). SameRows l v.rows) (sym (rows-again ps v.rows)) (each-same ps v.rows each)), (λ _. refl))
