use Rattle.std.proofs.Common.{◌≡◌, ◌≤◌, take, length, arith, rules, true, ap}
use Rattle.std.specs.Result.{is_ok}
use Rattle.std.proofs.lemmas.List.{length-take}
use Rattle.bridge_io.proofs.FillLemmas.{piece_behind, front_lengthened}
use Rattle.bridge_io.proofs.filling.append_piece.Goals as goal

pub returns-clause-bytes : goal.returns-clause-bytes
returns-clause-bytes g c =
    let n = c.in_ok-came.came in
    let start = c.len-start.result in
    let had = c.args.into.now.items in
    let size : start ≡ length had = search (rules, c.len-start.ensures) in
    let ok : is_ok c.resize.result ≡ true = search (rules, c.is_err.ensures, c.if-is_err.ensures) in
    let same : take start c.deref_mut.result.now ≡ had = rw (c.deref_mut.ensures.value, c.resize.ensures.items, ok) (front_lengthened start c.args.room had _ size) in
    let within : start ≤ length c.deref_mut.result.now = omega (arith, ap length same, length-take start c.deref_mut.result.now, size) in
    (take n c.fill.new.buf, rw c.truncate.ensures.items (piece_behind start n _ had c.deref_mut.result.now c.fill.new.buf _ _ size same within c.in_ok-came.ensures.bound (omega (arith, c.fill.auto.buf, c.in_ok-came.ensures.bound))), c.in_ok-came.ensures.bytes)
