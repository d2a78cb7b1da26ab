use Rattle.std.proofs.Common.{Option, subst}
use Rattle.text_model.specs.Text.{Bytes}
use Rattle.bridge_cli.specs.Makes.{Finishes}
use Rattle.bridge_cli.specs.Status.{command_value}
use Rattle.bridge_cli.proofs.EndLemmas.{work-ends}
use Rattle.bridge_cli.proofs.command.perform.Goals as goal

pub returns-in-Ok-clause-ends : goal.returns-in-Ok-clause-ends
returns-in-Ok-clause-ends g c =
    let old = g.O.Sink.taken c.args.output.now in
    let new = g.O.Sink.taken c.finish.new.output in
    let kept = g.K.Slot.held c.finish.new.slot in
    let finishes = subst (λ (held : Option (Option Bytes)). Finishes old new held kept c.in-Ok.work c.finish.result) c.in-Ok.ensures.held c.finish.ensures.finishes in
    work-ends (command_value c.args.command) (g.I.Source.left c.args.input.now) _ old new (g.K.Slot.held c.args.slot.now) kept c.in-Ok.work c.finish.result c.in-Ok.ensures.makes finishes
