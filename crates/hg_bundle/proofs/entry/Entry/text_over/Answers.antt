use Rattle.std.proofs.Common.{length, length-drop, ap, refl, arith}
use Rattle.text_model.specs.Text.{Bytes}
use Rattle.hg_bundle.proofs.Wholes.{patched_part}
use Rattle.hg_bundle.proofs.entry.Entry.text_over.Goals as goal

pub part-requires-clause-order : goal.part-requires-clause-order
part-requires-clause-order c =
    let ends = rw c.in-Lent.is at c.requires.ends in
    omega (arith, c.is_whole.ensures.long c.if-is_whole.true, ap (λ (d : Bytes). length d) ends, length-drop 80 c.in-Lent.payload.now, c.len.ensures.value)

pub returns : goal.returns
returns c =
    let ends = rw c.in-Lent.is at c.requires.ends in
    patched_part c.args.base.now c.args.self.now.delta.now c.in-Lent.payload.now c.part.result ends (c.is_whole.ensures.text c.if-is_whole.true c.args.base.now refl)
    (rw c.len.ensures.value at c.part.ensures)
