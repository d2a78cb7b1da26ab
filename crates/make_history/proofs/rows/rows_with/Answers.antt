use Rattle.std.proofs.Common.{ap, arith, ◌∙◌}
use Rattle.pair_known.specs.Rows.{RowValue}
use Rattle.make_history.proofs.RowsLemmas.{placed, behind-none}
use Rattle.make_history.proofs.rows.rows_with.Goals as goal

pub returns : goal.returns
returns c = λ new old value same held.
    let path_of : RowValue → _ = λ (w : RowValue). w.path in
    let path = c.as_slice-path.ensures ∙ c.in_ok-path.ensures ∙ ap path_of c.row.view_is ∙ ap path_of value in
    placed new old c.args.manifest.now c.as_slice-path.result.now c.place_of-place.result c.len.result c.args.row c.push_others.new.rows c.push.new.self c.push_others-2.new.rows value path same
    (omega arith) c.place_of-place.ensures.below c.place_of-place.ensures.above
    (behind-none _ _ _ (c.in_ok-push_others.ensures old same held) c.new-rows.ensures) c.in_ok-push.ensures.ok (c.in_ok-push_others-2.ensures old same held)
