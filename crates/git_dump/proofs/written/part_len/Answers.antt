use Rattle.std.proofs.Common.{ap, arith, length, length-append}
use Rattle.text_model.specs.Text.{Bytes}
use Rattle.git_dump.proofs.Between.{text_between}
use Rattle.git_dump.proofs.written.part_len.Goals as goal

pub returns-in-Some : goal.returns-in-Some
returns-in-Some c =
    let written = c.in-Some.written.now in
    omega (
      arith,
      ap (λ (b : Bytes). length b) c.in-Some.ensures,
      length-append written.text (text_between c.args.store.now written.count c.args.end),
      c.len-front.ensures,
      c.places_len.ensures,
      c.saturating_add.ensures,
    )
