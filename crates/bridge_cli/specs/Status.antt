-- The statuses and commands of the code, as those of the definitions.
use Rattle.std.specs.Prelude.{ℕ}
use Rattle.command_model.specs.Command as command
use Rattle.command_model.specs.Run as report
use Rattle.bridge_cli.specs.declared.status.Status.{Status}
use Rattle.bridge_cli.specs.declared.status.Status.TheVariants.{Done, Refused, Usage, ReadFault, WriteFault, SlotFault, StateBad, Memory, Mismatch}
use Rattle.bridge_cli.specs.declared.words.Command.{Command}
use Rattle.bridge_cli.specs.declared.words.Command.TheVariants.{ListHg, CheckHg, ListGit, CheckGit, PullHg, PullGit, DumpHg, DumpGit, Map, SetNamesHg, SetNamesGit, NamesHg, NamesGit, Verify, Make}

abbrev pub command_value : Command → command.Command
command_value ListHg = command.ListHg
command_value CheckHg = command.CheckHg
command_value ListGit = command.ListGit
command_value CheckGit = command.CheckGit
command_value PullHg = command.PullHg
command_value PullGit = command.PullGit
command_value DumpHg = command.DumpHg
command_value DumpGit = command.DumpGit
command_value Map = command.Map
command_value SetNamesHg = command.SetNamesHg
command_value SetNamesGit = command.SetNamesGit
command_value NamesHg = command.NamesHg
command_value NamesGit = command.NamesGit
command_value Verify = command.Verify
command_value (Make n seed) = command.Make n seed

-- the exit status of the program
abbrev pub code_of : Status → ℕ
code_of Done = 0
code_of Refused = 1
code_of Usage = 2
code_of ReadFault = 3
code_of WriteFault = 4
code_of SlotFault = 5
code_of StateBad = 6
code_of Memory = 7
code_of Mismatch = 8

-- the status that tells a report
abbrev pub status_of : report.Report → Status
status_of report.Done = Done
status_of (report.IsRefused why) = Refused
status_of report.Usage = Usage
status_of report.ReadFault = ReadFault
status_of report.WriteFault = WriteFault
status_of report.SlotFault = SlotFault
status_of (report.StateBad why) = StateBad
status_of report.Memory = Memory
status_of (report.Mismatch kept right) = Mismatch
