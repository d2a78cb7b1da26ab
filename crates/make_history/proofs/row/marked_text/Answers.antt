use Rattle.std.proofs.Common.{refl, arith}
use Rattle.std.proofs.lemmas.Result.{IfOk-weaker}
use Rattle.text_model.proofs.ByteLemmas.{IsBytes-by_index}
use Rattle.make_history.proofs.RowLemmas.{text-of}
use Rattle.make_history.proofs.row.marked_text.Goals as goal

pub returns-clause-text : goal.returns-clause-text
returns-clause-text c = IfOk-weaker c.keep.result _ _ (λ text is.
    text-of c.new-text.result.items _ _ _ _ text c.args.meta.now c.args.body.now c.args.meta.now c.new-text.ensures.items c.in_ok-extend_from_slice.ensures.items c.in_ok-extend_from_slice-2.ensures.items
    c.in_ok-extend_from_slice-3.ensures.items c.in_ok-extend_from_slice-4.ensures.items is refl) c.keep.ensures

pub returns-clause-bytes : goal.returns-clause-bytes
returns-clause-bytes c =
    let meta = IsBytes-by_index c.args.meta.now (λ i. omega (arith, c.type_inv.meta i)) in
    let body = IsBytes-by_index c.args.body.now (λ i. omega (arith, c.type_inv.body i)) in
    IfOk-weaker c.keep.result _ _ (λ text is. (meta, body)) c.keep.ensures
