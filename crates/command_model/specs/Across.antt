-- What is claimed of the names of a saved state: what one side sets comes back from the other, and pulls leave it.
use Rattle.std.specs.Prelude.{◌≡◌, [], Option, Some, None, IfSome, ⊤}
use Rattle.text_model.specs.Text.{Bytes}
use Rattle.state_model.specs.Kept.{State}
use Rattle.state_model.specs.Saved.{SlotHolds}
use Rattle.command_model.specs.Command.{Command, PullHg, PullGit, SetNamesHg, SetNamesGit, NamesHg, NamesGit, Written, ComesTo}

-- What the command of either side writes of the names leaves the state as it is, where that side sets it again.
pub record ComeBack (s : State) : Type 0 where
  pub hg : (text : Bytes) → ComesTo NamesHg s [] (Written text None) → ComesTo SetNamesHg s text (Written [] (Some s))
  pub git : (text : Bytes) → ComesTo NamesGit s [] (Written text None) → ComesTo SetNamesGit s text (Written [] (Some s))

-- both states have the same names, of which the command of either side writes the same
pub record HaveSameNames (s next : State) : Type 0 where
  pub names : next.names ≡ s.names
  pub hg : (text : Bytes) → ComesTo NamesHg s [] (Written text None) → ComesTo NamesHg next [] (Written text None)
  pub git : (text : Bytes) → ComesTo NamesGit s [] (Written text None) → ComesTo NamesGit next [] (Written text None)

-- what is claimed of the state that names were set in
abbrev pub IsSet : Option Bytes → Type 0
IsSet held = (s : State) × SlotHolds held s × ComeBack s

-- what is claimed of the states before a pull and behind it
abbrev pub LeavesNames : Option Bytes → Option Bytes → Type 0
LeavesNames before after = (s : State) × (next : State) × SlotHolds before s × SlotHolds after next × HaveSameNames s next

-- What is claimed of the names that a run leaves which is done, where its input and its slot tell their bytes: those that were set come back
-- from either side, and those that were there are left by a pull. Of other commands nothing is said.
abbrev pub NamesLaw : Command → Option Bytes → Option (Option Bytes) → Option (Option Bytes) → Type 0
NamesLaw PullHg left before after = IfSome left (λ _. IfSome before (λ old. IfSome after (λ new. LeavesNames old new)))
NamesLaw PullGit left before after = IfSome left (λ _. IfSome before (λ old. IfSome after (λ new. LeavesNames old new)))
NamesLaw SetNamesHg left before after = IfSome left (λ _. IfSome before (λ _. IfSome after (λ new. IsSet new)))
NamesLaw SetNamesGit left before after = IfSome left (λ _. IfSome before (λ _. IfSome after (λ new. IsSet new)))
NamesLaw command left before after = ⊤
