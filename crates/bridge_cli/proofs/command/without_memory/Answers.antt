use Rattle.std.proofs.Common.{subst, ◌∙◌}
use Rattle.text_model.specs.Text.{Bytes}
use Rattle.bridge_cli.specs.Outside.{TakesOrFails}
use Rattle.bridge_cli.proofs.RunLemmas.{takes-or-fails}
use Rattle.bridge_cli.proofs.command.without_memory.Goals as goal

pub returns-clause-line : goal.returns-clause-line
returns-clause-line g c =
    let before = g.E.Sink.faults c.args.errors.now in
    let now = g.E.Sink.faults c.write_all.new.out in
    let taken = g.E.Sink.taken c.args.errors.now in
    let takes = g.E.Sink.taken c.write_all.new.out in
    let line = takes-or-fails taken takes before now c.as_slice.result.now c.write_all.result c.write_all.ensures.ok c.write_all.ensures.prefix c.write_all.ensures.cause in
    subst (λ (bytes : Bytes). TakesOrFails taken takes before now bytes) (c.as_slice.ensures.value ∙ c.line_of.ensures) line
