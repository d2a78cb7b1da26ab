use Rattle.std.proofs.Common.{◌≡◌, ◌<◌, ◌+◌, ℕ, List, Some, true≢false, length, get_or, refl, sym, ap, ◌∙◌, arith, take_all}
use Rattle.std.specs.Prelude.{slice_get}
use Rattle.std.proofs.lemmas.Option.{slice_get-get_or}
use Rattle.hg_model.proofs.ManifestLemmas.{manifest_text-none}
use Rattle.pair_known.specs.Rows.{RowValue}
use Rattle.manifest_rule.proofs.ManifestLemmas.{lines, lines-more, lines-within}
use Rattle.manifest_rule.proofs.manifest.lines_fit.Goals as goal

-- the row at a place of a list
row-at : (rows list : List RowValue) (i : ℕ) (row : RowValue) → list ≡ rows → i < length list → row ≡ get_or list i row → slice_get rows i ≡ Some row
row-at rows list i row same below is = ap (λ (l : List RowValue). slice_get l i) (sym same) ∙ slice_get-get_or list i row below ∙ ap Some (sym is)

pub loop-row-init : goal.loop-row-init
loop-row-init c = omega (arith, ap length manifest_text-none)

pub loop-row-preserved : goal.loop-row-preserved
loop-row-preserved c =
    let rows = c.args.rows.now in
    let i = c.loop-row.row-index in
    let more = lines-more rows i c.row-item.result (row-at rows c.as_slice-rows.result.now i c.row-item.result c.as_slice-rows.ensures c.loop-row-test.true c.row-item.is) in
    omega (arith, more, c.in-Some.ensures, c.loop-row.invariant)

pub returns-in-None : goal.returns-in-None
returns-in-None c =
    let rows = c.args.rows.now in
    let i = c.loop-row.row-index in
    let more = lines-more rows i c.row-item.result (row-at rows c.as_slice-rows.result.now i c.row-item.result c.as_slice-rows.ensures c.loop-row-test.true c.row-item.is) in
    let within = lines-within rows (i + 1) in
    ((λ e. absurd (true≢false (sym e))), (λ le. absurd (omega (arith, le, within, more, c.in-None.ensures, c.loop-row.invariant))))

pub returns : goal.returns
returns c =
    let rows = c.args.rows.now in
    let n = ap length c.as_slice-rows.ensures in
    let all = ap (λ (l : List RowValue). length (lines l)) (take_all c.loop-row.row-index rows (omega (arith, n, c.loop-row-test.false))) in
    ((λ _. omega (arith, all, c.loop-row.invariant)), (λ _. refl))
