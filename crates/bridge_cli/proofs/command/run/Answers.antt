use Rattle.std.proofs.Common.{◌≡◌, ◌≢◌, Some, sym, ap, subst, ◌∙◌}
use Rattle.text_model.specs.Text.{Bytes}
use Rattle.command_model.specs.Command as model
use Rattle.command_model.specs.Command.{command_of}
use Rattle.command_model.specs.Run as run
use Rattle.bridge_cli.specs.Complete.{NoFault, Completes}
use Rattle.bridge_cli.specs.Ends.{EndsBy}
use Rattle.bridge_cli.specs.Outside.{TakesOrFails}
use Rattle.bridge_cli.specs.Report.{report_value}
use Rattle.bridge_cli.specs.Status.{command_value, status_of}
use Rattle.bridge_cli.specs.declared.report.Report.{Report}
use Rattle.bridge_cli.specs.declared.report.Report.TheVariants.{Done}
use Rattle.bridge_cli.specs.declared.status.Status.{Status}
use Rattle.bridge_cli.specs.declared.status.Status.TheVariants as status
use Rattle.bridge_cli.proofs.AcrossLemmas.{done-is, names-hold}
use Rattle.bridge_cli.proofs.CompleteLemmas.{complete-holds}
use Rattle.bridge_cli.proofs.OutputLemmas.{output-returns}
use Rattle.bridge_cli.proofs.ReturnLemmas.{dump-returns}
use Rattle.bridge_cli.proofs.RunLemmas.{takes-or-fails, of-words, no-words, ends-same, run-headline}
use Rattle.bridge_cli.proofs.command.run.Given.{Over}
use Rattle.bridge_cli.proofs.command.run.Goals.{After-status, in-Some, in-None}
use Rattle.bridge_cli.proofs.command.run.Goals as goal

module _ (g : Over) (c : After-status g) where
  -- the run of a command ends by this report
  abbrev RunEnds : model.Command → run.Report → Type 0
  RunEnds command report =
      EndsBy command (g.I.Source.left c.args.input.now) (g.I.Source.left c.match-command.input) (g.O.Sink.taken c.args.output.now) (g.O.Sink.taken c.match-command.output)
      (g.K.Slot.held c.args.slot.now) (g.K.Slot.held c.match-command.slot) report

  -- how that of the command ends that the words ask for
  ends : (command : model.Command) → command_of c.args.words.now ≡ Some command → RunEnds command (report_value c.match-command.report)
  ends command e = elim c.match-command.branch [
    | in-Some w ↦
        let p = w.perform-report in
        let asked = of-words c.command.result w.in-Some.command _ command w.in-Some.is c.command.ensures e in
        ends-same (command_value w.in-Some.command) command (g.I.Source.left c.args.input.now) (g.I.Source.left p.new.input) (g.I.Source.left c.match-command.input) (g.O.Sink.taken c.args.output.now)
        (g.O.Sink.taken p.new.output) (g.O.Sink.taken c.match-command.output) (g.K.Slot.held c.args.slot.now) (g.K.Slot.held p.new.slot) (g.K.Slot.held c.match-command.slot) p.result c.match-command.report
        asked (ap g.I.Source.left w.input-is) (ap g.O.Sink.taken w.output-is) (ap g.K.Slot.held w.slot-is) w.report-is p.ensures.ends
    | in-None w ↦ absurd (no-words c.command.result _ command w.in-None.is c.command.ensures e)
  ]

  -- it ends as done where its status says so
  ends-done : (command : model.Command) → command_of c.args.words.now ≡ Some command → c.status.result ≡ status.Done → RunEnds command run.Done
  ends-done command e done = subst (RunEnds command) (done-is (report_value c.match-command.report) (sym c.status.ensures ∙ done)) (ends command e)

pub returns-clause-headline : goal.returns-clause-headline
returns-clause-headline g c = λ command e report same.
    let left : c.match-command.report ≢ Done → g.K.Slot.held c.match-command.slot ≡ g.K.Slot.held c.args.slot.now = elim c.match-command.branch [
      | in-Some w ↦ λ undone. ap g.K.Slot.held w.slot-is ∙ w.perform-report.ensures.kept (λ done. undone (w.report-is ∙ done))
      | in-None w ↦ absurd (no-words c.command.result _ command w.in-None.is c.command.ensures e)
    ] in
    run-headline command (g.I.Source.left c.args.input.now) (g.I.Source.left c.match-command.input) (g.O.Sink.taken c.args.output.now) (g.O.Sink.taken c.match-command.output) (g.K.Slot.held c.args.slot.now)
    (g.K.Slot.held c.match-command.slot) c.match-command.report (ends g (goal.at.returns-clause-headline g c).After-status command e) left report (sym c.status.ensures ∙ same)

pub returns-clause-names : goal.returns-clause-names
returns-clause-names g c = λ command e done.
    names-hold command (g.I.Source.left c.args.input.now) (g.I.Source.left c.match-command.input) (g.O.Sink.taken c.args.output.now) (g.O.Sink.taken c.match-command.output) (g.K.Slot.held c.args.slot.now)
    (g.K.Slot.held c.match-command.slot) (ends-done g (goal.at.returns-clause-names g c).After-status command e done)

pub returns-clause-returns : goal.returns-clause-returns
returns-clause-returns g c = λ command e done.
    dump-returns command (g.I.Source.left c.args.input.now) (g.I.Source.left c.match-command.input) (g.O.Sink.taken c.args.output.now) (g.O.Sink.taken c.match-command.output) (g.K.Slot.held c.args.slot.now)
    (g.K.Slot.held c.match-command.slot) (ends-done g (goal.at.returns-clause-returns g c).After-status command e done)

pub returns-clause-comes_back : goal.returns-clause-comes_back
returns-clause-comes_back g c = λ command e done.
    output-returns command (g.I.Source.left c.args.input.now) (g.I.Source.left c.match-command.input) (g.O.Sink.taken c.args.output.now) (g.O.Sink.taken c.match-command.output) (g.K.Slot.held c.args.slot.now)
    (g.K.Slot.held c.match-command.slot) (ends-done g (goal.at.returns-clause-comes_back g c).After-status command e done)

pub returns-clause-report : goal.returns-clause-report
returns-clause-report g c =
    let before = g.E.Sink.faults c.args.errors.now in
    let now = g.E.Sink.faults c.write_all.new.out in
    let taken = g.E.Sink.taken c.args.errors.now in
    let takes = g.E.Sink.taken c.write_all.new.out in
    let line = takes-or-fails taken takes before now c.as_slice.result.now c.write_all.result c.write_all.ensures.ok c.write_all.ensures.prefix c.write_all.ensures.cause in (
      report_value c.match-command.report,
      c.status.ensures,
      ends g (goal.at.returns-clause-report g c).After-status,
      subst (λ (bytes : Bytes). TakesOrFails taken takes before now bytes) (c.as_slice.ensures.value ∙ c.line_of.ensures) line,
    )

pub returns-clause-complete : goal.returns-clause-complete
returns-clause-complete g c = λ command e none_read none_wrote none_saved.
    let input = g.I.Source.left c.args.input.now in
    let old = g.O.Sink.taken c.args.output.now in
    let slot = g.K.Slot.held c.args.slot.now in
    let i = g.I.Source.faults c.args.input.now in
    let o = g.O.Sink.faults c.args.output.now in
    let k = g.K.Slot.faults c.args.slot.now in
    elim c.match-command.branch [
      | in-Some w ↦
          let asked = of-words c.command.result w.in-Some.command _ command w.in-Some.is c.command.ensures e in
          let p = w.perform-report in
          let holds = complete-holds (command_value w.in-Some.command) input (g.I.Source.left p.new.input) old (g.O.Sink.taken p.new.output) slot (g.K.Slot.held p.new.slot)
          i (g.I.Source.faults p.new.input) o (g.O.Sink.faults p.new.output) k (g.K.Slot.faults p.new.slot) (report_value p.result) p.ensures.ends p.ensures.input p.ensures.output p.ensures.slot
          (subst (NoFault i) (ap g.I.Source.faults w.input-is) none_read) (subst (NoFault o) (ap g.O.Sink.faults w.output-is) none_wrote) (subst (NoFault k) (ap g.K.Slot.faults w.slot-is) none_saved) in
          let told = ap (λ (r : Report). status_of (report_value r)) (sym w.report-is) ∙ sym c.status.ensures in
          let same = subst (λ (x : model.Command). Completes x input slot (status_of (report_value p.result))) asked holds in
          subst (λ (x : Status). Completes command input slot x) told same
      | in-None w ↦ absurd (no-words c.command.result _ command w.in-None.is c.command.ensures e)
    ]
