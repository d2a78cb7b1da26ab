use Rattle.std.proofs.Common.{refl}
use Rattle.std.proofs.lemmas.Result.{err_from_is_err_and}
use Rattle.command_model.specs.Command.{ListHg, CheckHg, ListGit, CheckGit}
use Rattle.bridge_cli.proofs.AloneLemmas.{alone-makes, alone-ends}
use Rattle.bridge_cli.proofs.output.work_of.Goals as goal

pub returns-in_err-bundle_lines-in-ListHg-clause-makes : goal.returns-in_err-bundle_lines-in-ListHg-clause-makes
returns-in_err-bundle_lines-in-ListHg-clause-makes g c =
    let p = err_from_is_err_and c.from_residual.result c.from_residual.ensures.1 in
    let end = alone-ends ListHg refl refl (g.I.Source.left c.args.input.now) (g.K.Slot.held c.args.slot.now) c.in_err-bundle_lines-in-ListHg.field-0.0 c.in_err-bundle_lines-in-ListHg.ensures.makes in
    rw (c.in-ListHg.is, p.1, p.2) end

pub returns-in_ok-bundle_lines-in-ListHg-clause-makes : goal.returns-in_ok-bundle_lines-in-ListHg-clause-makes
returns-in_ok-bundle_lines-in-ListHg-clause-makes g c =
    let makes = alone-makes ListHg refl refl (g.I.Source.left c.args.input.now) (g.K.Slot.held c.args.slot.now) _ c.in_ok-bundle_lines-in-ListHg.field-0 c.of_bytes.result c.of_bytes.ensures.output c.of_bytes.ensures.text c.in_ok-bundle_lines-in-ListHg.ensures.makes in
    rw c.in-ListHg.is makes

pub returns-in_err-bundle_counts-in-CheckHg-clause-makes : goal.returns-in_err-bundle_counts-in-CheckHg-clause-makes
returns-in_err-bundle_counts-in-CheckHg-clause-makes g c =
    let p = err_from_is_err_and c.from_residual-in_err-bundle_counts-in-CheckHg.result c.from_residual-in_err-bundle_counts-in-CheckHg.ensures.1 in
    let end = alone-ends CheckHg refl refl (g.I.Source.left c.args.input.now) (g.K.Slot.held c.args.slot.now) c.in_err-bundle_counts-in-CheckHg.field-0.0 c.in_err-bundle_counts-in-CheckHg.ensures.makes in
    rw (c.in-CheckHg.is, p.1, p.2) end

pub returns-in_ok-bundle_counts-in-CheckHg-clause-makes : goal.returns-in_ok-bundle_counts-in-CheckHg-clause-makes
returns-in_ok-bundle_counts-in-CheckHg-clause-makes g c =
    let makes = alone-makes CheckHg refl refl (g.I.Source.left c.args.input.now) (g.K.Slot.held c.args.slot.now) _ c.in_ok-bundle_counts-in-CheckHg.field-0 c.of_bytes-in-CheckHg.result c.of_bytes-in-CheckHg.ensures.output c.of_bytes-in-CheckHg.ensures.text c.in_ok-bundle_counts-in-CheckHg.ensures.makes in
    rw c.in-CheckHg.is makes

pub returns-in_err-stream_lines-in-ListGit-clause-makes : goal.returns-in_err-stream_lines-in-ListGit-clause-makes
returns-in_err-stream_lines-in-ListGit-clause-makes g c =
    let p = err_from_is_err_and c.from_residual-in_err-stream_lines-in-ListGit.result c.from_residual-in_err-stream_lines-in-ListGit.ensures.1 in
    let end = alone-ends ListGit refl refl (g.I.Source.left c.args.input.now) (g.K.Slot.held c.args.slot.now) c.in_err-stream_lines-in-ListGit.field-0.0 c.in_err-stream_lines-in-ListGit.ensures.makes in
    rw (c.in-ListGit.is, p.1, p.2) end

pub returns-in_ok-stream_lines-in-ListGit-clause-makes : goal.returns-in_ok-stream_lines-in-ListGit-clause-makes
returns-in_ok-stream_lines-in-ListGit-clause-makes g c =
    let makes = alone-makes ListGit refl refl (g.I.Source.left c.args.input.now) (g.K.Slot.held c.args.slot.now) _ c.in_ok-stream_lines-in-ListGit.field-0 c.of_bytes-in-ListGit.result c.of_bytes-in-ListGit.ensures.output c.of_bytes-in-ListGit.ensures.text c.in_ok-stream_lines-in-ListGit.ensures.makes in
    rw c.in-ListGit.is makes

pub returns-in_err-stream_counts-in-CheckGit-clause-makes : goal.returns-in_err-stream_counts-in-CheckGit-clause-makes
returns-in_err-stream_counts-in-CheckGit-clause-makes g c =
    let p = err_from_is_err_and c.from_residual-in_err-stream_counts-in-CheckGit.result c.from_residual-in_err-stream_counts-in-CheckGit.ensures.1 in
    let end = alone-ends CheckGit refl refl (g.I.Source.left c.args.input.now) (g.K.Slot.held c.args.slot.now) c.in_err-stream_counts-in-CheckGit.field-0.0 c.in_err-stream_counts-in-CheckGit.ensures.makes in
    rw (c.in-CheckGit.is, p.1, p.2) end

pub returns-in_ok-stream_counts-in-CheckGit-clause-makes : goal.returns-in_ok-stream_counts-in-CheckGit-clause-makes
returns-in_ok-stream_counts-in-CheckGit-clause-makes g c =
    let makes = alone-makes CheckGit refl refl (g.I.Source.left c.args.input.now) (g.K.Slot.held c.args.slot.now) _ c.in_ok-stream_counts-in-CheckGit.field-0 c.of_bytes-in-CheckGit.result c.of_bytes-in-CheckGit.ensures.output c.of_bytes-in-CheckGit.ensures.text c.in_ok-stream_counts-in-CheckGit.ensures.makes in
    rw c.in-CheckGit.is makes

pub returns-in-DumpHg-clause-input : goal.returns-in-DumpHg-clause-input
returns-in-DumpHg-clause-input g c = c.printed_work.ensures.input (g.I.Source.faults c.args.input.now)

pub returns-in-DumpGit-clause-input : goal.returns-in-DumpGit-clause-input
returns-in-DumpGit-clause-input g c = c.printed_work-in-DumpGit.ensures.input (g.I.Source.faults c.args.input.now)

pub returns-in-Map-clause-input : goal.returns-in-Map-clause-input
returns-in-Map-clause-input g c = c.printed_work-in-Map.ensures.input (g.I.Source.faults c.args.input.now)

pub returns-in-NamesHg-clause-input : goal.returns-in-NamesHg-clause-input
returns-in-NamesHg-clause-input g c = c.printed_work-in-NamesHg.ensures.input (g.I.Source.faults c.args.input.now)

pub returns-in-NamesGit-clause-input : goal.returns-in-NamesGit-clause-input
returns-in-NamesGit-clause-input g c = c.printed_work-in-NamesGit.ensures.input (g.I.Source.faults c.args.input.now)

pub returns-in-Verify-clause-input : goal.returns-in-Verify-clause-input
returns-in-Verify-clause-input g c = c.audit_of_history.ensures.input (g.I.Source.faults c.args.input.now)

pub returns-in-Verify-clause-steps : goal.returns-in-Verify-clause-steps
returns-in-Verify-clause-steps g c = rw c.in-Verify.is (c.audit_of_history.ensures.steps (g.I.Source.left c.args.input.now))

pub returns-in-Make-clause-makes : goal.returns-in-Make-clause-makes
returns-in-Make-clause-makes g c = rw c.in-Make.is (c.counts_of_made.ensures.makes (g.I.Source.left c.args.input.now) (g.K.Slot.held c.args.slot.now))

pub returns-in-Make-clause-input : goal.returns-in-Make-clause-input
returns-in-Make-clause-input g c = c.counts_of_made.ensures.input (g.I.Source.faults c.args.input.now)

pub returns-in-Make-clause-slot : goal.returns-in-Make-clause-slot
returns-in-Make-clause-slot g c = c.counts_of_made.ensures.slot (g.K.Slot.faults c.args.slot.now)

pub returns-in-Make-clause-steps : goal.returns-in-Make-clause-steps
returns-in-Make-clause-steps g c = rw c.in-Make.is (c.counts_of_made.ensures.steps (g.I.Source.left c.args.input.now) (g.K.Slot.held c.args.slot.now))
