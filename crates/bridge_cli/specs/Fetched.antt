-- The state that a slot gives.
use Rattle.std.specs.Prelude.{◌≡◌, Option, Some, IfSome, IfOk, Result, MatchResult, ⊤}
use Rattle.text_model.specs.Text.{Bytes, IsBytes}
use Rattle.state_model.specs.Kept as model
use Rattle.state_model.specs.Text.{state_text}
use Rattle.state_model.specs.Saved.{SlotHolds, IsStateText}
use Rattle.command_model.specs.Command.{IsBadSlot}
use Rattle.pair_state.specs.declared.state.State.{State}
use Rattle.pull_engine.specs.Read.{IsReadState}
use Rattle.bridge_cli.specs.Report.{bad_value}
use Rattle.name_engine.specs.Set.{IsSaved}
use Rattle.bridge_cli.specs.declared.fetch.Fetched.{Fetched}
use Rattle.bridge_cli.specs.declared.report.Report.{Report}
use Rattle.bridge_cli.specs.declared.report.Report.TheVariants as code

-- the state is what the slot holds, where it tells it, and its text is made of bytes
abbrev pub IsFetched : Option (Option Bytes) → State → Type 0
IsFetched slot s = (m : model.State) × IsReadState s m × IsBytes (state_text m) × IfSome slot (λ held. SlotHolds held m)

-- the same with the text of the state, if there is one
abbrev pub IsFetchedWith : Option (Option Bytes) → Fetched → Type 0
IsFetchedWith slot f = (m : model.State) × IsReadState f.state m × IsBytes (state_text m) × IfSome slot (λ held. SlotHolds held m) × IfSome f.text (λ text. IsStateText text m)

-- what was fetched stands for a saved state, and has its text, if it has one
pub record IsSavedWith (f : Fetched) (m : model.State) : Type 0 where
  pub saved : IsSaved f.state m
  pub text : IfSome f.text (λ text. IsStateText text m)

-- why the slot gives no state
abbrev pub IsNotFetched : Option (Option Bytes) → Report → Type 0
IsNotFetched slot code.SlotFault = ⊤
IsNotFetched slot (code.StateBad why) = IfSome slot (λ held. IsBadSlot held (bad_value why))
IsNotFetched slot code.Memory = ⊤
IsNotFetched slot report = ⊥

-- why bytes are the text of no state
abbrev pub IsNoText : Bytes → Report → Type 0
IsNoText text (code.StateBad why) = IsBadSlot (Some text) (bad_value why)
IsNoText text code.Memory = ⊤
IsNoText text report = ⊥

-- what is read of the text of a slot
abbrev pub ReadsText : Bytes → Result Fetched Report → Type 0
ReadsText text result = MatchResult result (λ f. (m : model.State) × IsReadState f.state m × IsStateText text m × (f.text ≡ Some text)) (IsNoText text)

abbrev pub Fetches : Option (Option Bytes) → Result State Report → Type 0
Fetches slot result = MatchResult result (IsFetched slot) (IsNotFetched slot)

abbrev pub FetchesWith : Option (Option Bytes) → Result Fetched Report → Type 0
FetchesWith slot result = MatchResult result (IsFetchedWith slot) (IsNotFetched slot)

-- the text is the one that the slot holds, where it tells it
abbrev pub HasHeldText : Option (Option Bytes) → Result Fetched Report → Type 0
HasHeldText slot result = IfOk result (λ f. IfSome slot (λ held. held ≡ f.text))
