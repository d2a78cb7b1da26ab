use Rattle.std.proofs.Common.{◌≡◌, ◌++◌, List, length, refl, sym, ap, ◌∙◌, arith, take_all}
use Rattle.std.specs.List.{flat_map}
use Rattle.std.proofs.lemmas.List.{length-map}
use Rattle.view_model.specs.View.{Row}
use Rattle.pair_known.specs.Rows.{RowValue, row_value}
use Rattle.file_rule.proofs.RowsLoop.{seen}
use Rattle.commit_rule.proofs.ListLemmas.{get-at}
use Rattle.partner_model.specs.Mark.{entry_marks}
use Rattle.commit_mark.proofs.Steps.{row-here, over-here, marks-more, marks-begin}
use Rattle.commit_mark.proofs.put.put_entries.Goals as goal

pub entry_mark-requires : goal.entry_mark-requires
entry_mark-requires c =
    let ps = c.requires.over.0 in
    let v = c.requires.over.1 in
    let is = c.requires.over.2 in
    let over = c.args.over.now in
    let i = c.loop-row.row-index in
    let item = c.row-item.result in
    let at = get-at c.args.h.now.rows c.as_slice-rows.result.now i item c.as_slice-rows.ensures c.loop-row-test.true c.row-item.is in
    let here = row-here over c.args.h.now ps v is i item at in
    let first = seen (over.first.manifest).now c.loop-row.first_walk _ _ _ c.loop-row.invariant.first_seen refl c.get-in_first.ensures.entry in
    let second = seen (over.second.manifest).now c.loop-row.second_walk _ _ _ c.loop-row.invariant.second_seen refl c.get-in_second.ensures.entry in
    let row-over = over-here over c.args.h.now ps v is i item at c.as_slice.result.now c.as_slice-in-loop-row.result.now (c.as_slice.ensures ∙ ap (λ (x : RowValue). x.path) c.row.view_is)
    (c.as_slice-in-loop-row.ensures ∙ ap (λ (x : RowValue). x.path) c.row.view_is) c.get-in_first.result c.get-in_second.result first second in
    record { held = (ps, here.0, row-over) }

pub put-requires : goal.put-requires
put-requires c =
    let ps = c.requires.over.0 in
    let v = c.requires.over.1 in
    let is = c.requires.over.2 in
    let over = c.args.over.now in
    let i = c.loop-row.row-index in
    let item = c.row-item.result in
    let at = get-at c.args.h.now.rows c.as_slice-rows.result.now i item c.as_slice-rows.ensures c.loop-row-test.true c.row-item.is in
    let here = row-here over c.args.h.now ps v is i item at in
    let first = seen (over.first.manifest).now c.loop-row.first_walk _ _ _ c.loop-row.invariant.first_seen refl c.get-in_first.ensures.entry in
    let second = seen (over.second.manifest).now c.loop-row.second_walk _ _ _ c.loop-row.invariant.second_seen refl c.get-in_second.ensures.entry in
    let row-over = over-here over c.args.h.now ps v is i item at c.as_slice.result.now c.as_slice-in-loop-row.result.now (c.as_slice.ensures ∙ ap (λ (x : RowValue). x.path) c.row.view_is)
    (c.as_slice-in-loop-row.ensures ∙ ap (λ (x : RowValue). x.path) c.row.view_is) c.get-in_first.result c.get-in_second.result first second in
    let mark = c.in_ok-mark.ensures ps here.0 is.parents row-over in
    marks-begin over c.args.h.now ps v is i item at c.args.marks.now c.loop-row.marks (c.loop-row.invariant.put ps v is) c.in_ok-mark.mark mark c.requires.over.3

pub loop-row-preserved : goal.loop-row-preserved
loop-row-preserved c = record {
  first_seen = c.get-in_first.ensures.same ∙ c.loop-row.invariant.first_seen;
  second_seen = c.get-in_second.ensures.same ∙ c.loop-row.invariant.second_seen;
  put = λ ps v is.
      let over = c.args.over.now in
      let i = c.loop-row.row-index in
      let item = c.row-item.result in
      let at = get-at c.args.h.now.rows c.as_slice-rows.result.now i item c.as_slice-rows.ensures c.loop-row-test.true c.row-item.is in
      let here = row-here over c.args.h.now ps v is i item at in
      let first = seen (over.first.manifest).now c.loop-row.first_walk _ _ _ c.loop-row.invariant.first_seen refl c.get-in_first.ensures.entry in
      let second = seen (over.second.manifest).now c.loop-row.second_walk _ _ _ c.loop-row.invariant.second_seen refl c.get-in_second.ensures.entry in
      let row-over = over-here over c.args.h.now ps v is i item at c.as_slice.result.now c.as_slice-in-loop-row.result.now (c.as_slice.ensures ∙ ap (λ (x : RowValue). x.path) c.row.view_is)
      (c.as_slice-in-loop-row.ensures ∙ ap (λ (x : RowValue). x.path) c.row.view_is) c.get-in_first.result c.get-in_second.result first second in
      let mark = c.in_ok-mark.ensures ps here.0 is.parents row-over in
      c.in_ok-put.ensures ∙ marks-more over c.args.h.now ps v is i item at c.args.marks.now c.loop-row.marks (c.loop-row.invariant.put ps v is) c.in_ok-mark.mark mark;
}

pub returns : goal.returns
returns c = λ ps v is.
    let n : length v.rows ≡ length c.args.h.now.rows = sym (ap length (is.draft).rows ∙ length-map v.rows row_value) in
    c.loop-row.invariant.put ps v is ∙ ap (λ (rows : List Row). c.args.marks.now ++ flat_map (entry_marks ps) rows) (take_all c.loop-row.row-index v.rows (omega (arith, n, ap length c.as_slice-rows.ensures, c.loop-row-test.false)))
