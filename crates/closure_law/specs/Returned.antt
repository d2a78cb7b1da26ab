-- What is claimed of a dump that a run writes behind a list of pulls. It is this project's own.
use Rattle.std.specs.Prelude.{List, [], Option, IfSome, ⊤}
use Rattle.std.specs.Io.KnownBytes.{Appends}
use Rattle.text_model.specs.Text.{Bytes}
use Rattle.git_model.specs.Object.{Object}
use Rattle.state_model.specs.Kept.{State, kept_of}
use Rattle.state_model.specs.Saved.{SlotHolds}
use Rattle.saved_model.specs.Step.{Pull, OfBundle, OfStream, Accepts}
use Rattle.command_model.specs.Command.{Command, DumpHg, DumpGit}
use Rattle.closure_model.specs.Closure.{nothing, HasNoFault}
use Rattle.closure_law.specs.After.{IsSavedAfter}

-- where nothing is saved the pull is accepted, and refused for nothing; it brings just the blocks of the state, in its order, and these tags
abbrev pub Returns : Pull → State → List Object → Type 0
Returns pull s tags = Accepts nothing pull s.blocks tags × HasNoFault pull

-- Where the slot holds what a list of pulls left, the output is a dump that returns: a bundle, without tags, or a stream, with those of the state. Nothing
-- is said of another command.
abbrev pub DumpReturns : Command → Option (Option Bytes) → Option Bytes → Option Bytes → Type 0
DumpReturns DumpHg slot old new =
    IfSome slot (λ held. (pulls : List Pull) (s : State) → SlotHolds held s → IsSavedAfter pulls (kept_of s) → (dump : Bytes) × Appends old new dump × Returns (OfBundle dump) s [])
DumpReturns DumpGit slot old new =
    IfSome slot (λ held. (pulls : List Pull) (s : State) → SlotHolds held s → IsSavedAfter pulls (kept_of s) → (dump : Bytes) × Appends old new dump × Returns (OfStream dump) s s.tags)
DumpReturns command slot old new = ⊤
