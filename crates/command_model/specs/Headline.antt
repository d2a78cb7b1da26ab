-- What is claimed of a run behind every list of pulls.
use Rattle.std.specs.Prelude.{Option, Some, None, IfSome, ⊤}
use Rattle.text_model.specs.Text.{Bytes}
use Rattle.saved_model.specs.Step.{Pull, OfBundle, OfStream}
use Rattle.saved_model.specs.Theorem.{GoesOn}
use Rattle.command_model.specs.Run.{Report, Done, IsRefused}
use Rattle.command_model.specs.Command.{Command, PullHg, PullGit}

-- what is claimed of a pull that ends with this report; of one that fails nothing is said
abbrev pub EndsAs : Pull → Option Bytes → Option Bytes → Report → Type 0
EndsAs pull before after Done = GoesOn pull before after None
EndsAs pull before after (IsRefused why) = GoesOn pull before after (Some why)
EndsAs pull before after report = ⊤

-- the same of a run with this command, where its input and its slot tell their bytes
abbrev pub Headline : Command → Option Bytes → Option (Option Bytes) → Option (Option Bytes) → Report → Type 0
Headline PullHg left before after report = IfSome left (λ input. IfSome before (λ old. IfSome after (λ new. EndsAs (OfBundle input) old new report)))
Headline PullGit left before after report = IfSome left (λ input. IfSome before (λ old. IfSome after (λ new. EndsAs (OfStream input) old new report)))
Headline command left before after report = ⊤
