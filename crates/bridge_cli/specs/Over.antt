-- What is said of a run by what its input and its slot tell.
use Rattle.std.specs.Prelude.{Bool, [], Option, None, IfSome, MatchBool}
use Rattle.text_model.specs.Text.{Bytes}
use Rattle.state_model.specs.Kept.{State}
use Rattle.command_model.specs.Command.{Command, reads_input, reads_slot, BeginsWith}

-- what is said of the bytes of an input that a command reads, where it tells them; one that it doesn't read has none
abbrev pub ToldOf : Bool → Option Bytes → (Bytes → Type 0) → Type 0
ToldOf reads told Says = MatchBool reads (IfSome told Says) (Says [])

-- what is said of what a slot holds with which a command begins, where it tells it; one that it doesn't begin with holds nothing
abbrev pub HeldBy : Bool → Option (Option Bytes) → (Option Bytes → Type 0) → Type 0
HeldBy reads told Says = MatchBool reads (IfSome told Says) (Says None)

-- it holds of the state with which the command begins and of the input, where slot and input tell what they have
abbrev pub Over : Command → Option Bytes → Option (Option Bytes) → (State → Bytes → Type 0) → Type 0
Over command input slot Says =
    ToldOf (reads_input command) input (λ bytes. HeldBy (reads_slot command) slot (λ held. (s : State) × BeginsWith command held s × Says s bytes))

-- it holds of whatever state the command begins with, of which there is none where the slot holds the text of none
abbrev pub OverAny : Command → Option Bytes → Option (Option Bytes) → (State → Bytes → Type 0) → Type 0
OverAny command input slot Says =
    ToldOf (reads_input command) input (λ bytes. HeldBy (reads_slot command) slot (λ held. (s : State) → BeginsWith command held s → Says s bytes))
