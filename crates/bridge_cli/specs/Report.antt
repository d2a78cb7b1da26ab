-- The reports of the code, as those of the definitions.
use Rattle.bridge_text.specs.Refusals.{refusal_value}
use Rattle.hg_bundle.specs.declared.fault.BundleFault as bundle_fault
use Rattle.hg_bundle.specs.declared.fault.BundleFault.TheVariants as bundle
use Rattle.git_batch.specs.declared.fault.BatchFault as batch_fault
use Rattle.git_batch.specs.StreamFaults.{stream_fault}
use Rattle.git_batch.specs.declared.stream_fault.StreamFault as object_fault
use Rattle.git_batch.specs.declared.stream_fault.StreamFault.TheVariants as object
use Rattle.command_model.specs.Run as report
use Rattle.state_text.specs.declared.fault.StateFault.{StateFault}
use Rattle.state_text.specs.declared.fault.StateFault.TheVariants as state
use Rattle.pull_outcome.specs.declared.refused.PullFault.{PullFault}
use Rattle.pull_outcome.specs.declared.refused.PullFault.TheVariants as pull
use Rattle.name_engine.specs.declared.fault.SetFault.{SetFault}
use Rattle.name_engine.specs.declared.fault.SetFault.TheVariants as set
use Rattle.make_engine.specs.declared.fault.CountsFault.{CountsFault}
use Rattle.make_engine.specs.declared.fault.CountsFault.TheVariants as counts
use Rattle.bridge_cli.specs.declared.report.Report as code_report
use Rattle.bridge_cli.specs.declared.report.Report.TheVariants as code
use Rattle.bridge_cli.specs.declared.report.BadState as code_bad
use Rattle.bridge_cli.specs.declared.report.BadState.TheVariants as bad

abbrev pub bad_value : code_bad.BadState → report.BadState
bad_value bad.TooLong = report.TooLong
bad_value bad.OtherVersion = report.OtherVersion
bad_value (bad.Shape section) = report.BadShape section

abbrev pub report_value : code_report.Report → report.Report
report_value code.Done = report.Done
report_value (code.Refused why) = report.IsRefused (refusal_value why)
report_value code.Usage = report.Usage
report_value code.ReadFault = report.ReadFault
report_value code.WriteFault = report.WriteFault
report_value code.SlotFault = report.SlotFault
report_value (code.StateBad why) = report.StateBad (bad_value why)
report_value code.Memory = report.Memory
report_value (code.Mismatch kept right) = report.Mismatch kept right

-- how a run ends that reads no bundle
abbrev pub bundle_report : bundle_fault.BundleFault → code_report.Report
bundle_report (bundle.Refused why) = code.Refused why
bundle_report bundle.Read = code.ReadFault
bundle_report bundle.Memory = code.Memory

-- how a run ends that adds no stream to the objects
abbrev pub objects_report : object_fault.StreamFault → code_report.Report
objects_report (object.Refused why) = code.Refused why
objects_report object.Read = code.ReadFault
objects_report object.Memory = code.Memory

-- how a run ends that lists no stream
abbrev pub stream_report : batch_fault.BatchFault → code_report.Report
stream_report fault = objects_report (stream_fault fault)

-- how a run ends whose pull fails
abbrev pub pull_report : PullFault → code_report.Report
pull_report (pull.Refused why) = code.Refused why
pull_report pull.Read = code.ReadFault
pull_report pull.Memory = code.Memory

-- how a run ends that sets no names
abbrev pub set_report : SetFault → code_report.Report
set_report (set.Refused why) = code.Refused why
set_report set.Read = code.ReadFault
set_report set.Memory = code.Memory

-- how a run ends that counts no history
abbrev pub counts_report : CountsFault → code_report.Report
counts_report (counts.Refused why) = code.Refused why
counts_report counts.Memory = code.Memory

-- how a run ends whose slot holds the text of no state
abbrev pub state_report : StateFault → code_report.Report
state_report state.StateVersion = code.StateBad bad.OtherVersion
state_report (state.StateShape section) = code.StateBad (bad.Shape section)
state_report state.Memory = code.Memory
