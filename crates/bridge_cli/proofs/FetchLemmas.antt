-- The state that a slot gives.
use Rattle.std.proofs.Common.{◌≡◌, ℕ, true, false, [], Option, None, Some, Ok, Err, refl, sym, ap, subst, ◌∙◌}
use Rattle.std.specs.Prelude.{Bool, Result, IfSome, OnOk}
use Rattle.text_model.specs.Text.{Bytes, IsBytes}
use Rattle.state_model.specs.Kept as model
use Rattle.state_model.specs.Saved.{SlotHolds, IsStateText}
use Rattle.command_model.specs.Command.{IsBadSlot}
use Rattle.bridge_io.specs.Slot.{FetchGives}
use Rattle.pair_state.specs.declared.state.State.{State}
use Rattle.pair_state.specs.AllBlocks.{HasAllBlocks}
use Rattle.pull_engine.proofs.Empty.{empty-is-read}
use Rattle.bridge_cli.specs.Fetched.{IsFetched, IsFetchedWith, IsNotFetched, IsNoText, ReadsText, FetchesWith, HasHeldText}
use Rattle.bridge_cli.specs.declared.fetch.Fetched.{Fetched}
use Rattle.bridge_cli.specs.Makes.{LeavesSlotCount}
use Rattle.bridge_cli.specs.Report.{bad_value}
use Rattle.bridge_cli.specs.declared.report.Report.{Report}
use Rattle.bridge_cli.specs.declared.report.Report.TheVariants as code
use Rattle.bridge_cli.proofs.EmptyText.{empty-bytes}

-- a text that was read, or is none, leaves the count of the slot's faults
pub leaves-count : (before now : ℕ) (text : Bytes) (result : Result Fetched Report) → ReadsText text result → now ≡ before → LeavesSlotCount before now result
leaves-count before now text (Ok f) reads e = e
leaves-count before now text (Err code.Done) reads e = absurd reads
leaves-count before now text (Err (code.Refused why)) reads e = absurd reads
leaves-count before now text (Err code.Usage) reads e = absurd reads
leaves-count before now text (Err code.ReadFault) reads e = absurd reads
leaves-count before now text (Err code.WriteFault) reads e = absurd reads
leaves-count before now text (Err code.SlotFault) reads e = absurd reads
leaves-count before now text (Err (code.StateBad why)) reads e = e
leaves-count before now text (Err code.Memory) reads e = e
leaves-count before now text (Err (code.Mismatch commit right)) reads e = absurd reads

-- why a slot that holds this text gives no state
no-state : (slot : Option (Option Bytes)) (text : Bytes) (report : Report) → IfSome slot (λ held. held ≡ Some text) → IsNoText text report → IsNotFetched slot report
no-state None text (code.StateBad why) is unread = tt
no-state (Some held) text (code.StateBad why) is unread = subst (λ (x : Option Bytes). IsBadSlot x (bad_value why)) (sym is) unread
no-state slot text code.Memory is unread = tt
no-state slot text code.Done is unread = absurd unread
no-state slot text (code.Refused why) is unread = absurd unread
no-state slot text code.Usage is unread = absurd unread
no-state slot text code.ReadFault is unread = absurd unread
no-state slot text code.WriteFault is unread = absurd unread
no-state slot text code.SlotFault is unread = absurd unread
no-state slot text (code.Mismatch commit right) is unread = absurd unread

held-text : (slot : Option (Option Bytes)) (text : Bytes) (m : model.State) → IfSome slot (λ held. held ≡ Some text) → IsStateText text m → IfSome slot (λ held. SlotHolds held m)
held-text None text m is h = tt
held-text (Some held) text m is h = subst (λ (x : Option Bytes). SlotHolds x m) (sym is) h

true-false : true ≡ false → ⊥
true-false e = cc

-- what was fetched is the text that is held
gives-text : (slot : Option (Option Bytes)) (max : ℕ) (into : Bytes) (found : Bool) → FetchGives slot max (Ok found) into → found ≡ true → IfSome slot (λ held. held ≡ Some into)
gives-text None max into found gives is = tt
gives-text (Some None) max into found gives is = absurd (true-false (sym is ∙ gives))
gives-text (Some (Some bytes)) max into found gives is = sym (ap Some gives.1)

-- the state of a text that was fetched
pub text-fetched : (slot : Option (Option Bytes)) (max : ℕ) (text : Bytes) (found : Bool) (result : Result Fetched Report) → FetchGives slot max (Ok found) text → found ≡ true
    → OnOk result (IsBytes text) → ReadsText text result → FetchesWith slot result
text-fetched slot max text found (Ok f) gives is are (m, read, text-is, has) =
    (m, read, subst IsBytes text-is.1 are, held-text slot text m (gives-text slot max text found gives is) text-is, subst (λ (t : Option Bytes). IfSome t (λ own. IsStateText own m)) (sym has) text-is)
text-fetched slot max text found (Err report) gives is are unread = no-state slot text report (gives-text slot max text found gives is) unread

-- the text that was fetched is the state's
pub text-held : (slot : Option (Option Bytes)) (max : ℕ) (text : Bytes) (found : Bool) (result : Result Fetched Report) → FetchGives slot max (Ok found) text → found ≡ true
    → ReadsText text result → HasHeldText slot result
text-held slot max text found (Ok f) gives is (m, read, text-is, has) = subst (λ (t : Option Bytes). IfSome slot (λ held. held ≡ t)) (sym has) (gives-text slot max text found gives is)
text-held slot max text found (Err report) gives is unread = tt

-- nothing is held, and there is no text
pub none-held : (slot : Option (Option Bytes)) (max : ℕ) (into : Bytes) (found : Bool) → FetchGives slot max (Ok found) into → found ≡ false → IfSome slot (λ held. held ≡ None)
none-held None max into found gives is = tt
none-held (Some None) max into found gives is = refl
none-held (Some (Some bytes)) max into found gives is = absurd (true-false (sym gives.0 ∙ is))

-- nothing is held: the empty state
pub nothing-fetched : (slot : Option (Option Bytes)) (max : ℕ) (into : Bytes) (found : Bool) (s : State) → FetchGives slot max (Ok found) into → found ≡ false
    → HasAllBlocks s [] → s.known.hg ≡ [] → s.known.git ≡ [] → s.tags ≡ [] → s.names ≡ [] → IsFetchedWith slot (record { state = s; text = None })
nothing-fetched slot max into found s gives is blocks revisions objects tags names =
    (model.empty_state, empty-is-read s blocks revisions objects tags names, empty-bytes, held slot gives, tt)
  where
    held : (slot : Option (Option Bytes)) → FetchGives slot max (Ok found) into → IfSome slot (λ held. SlotHolds held model.empty_state)
    held None gives = tt
    held (Some None) gives = refl
    held (Some (Some bytes)) gives = absurd (true-false (sym gives.0 ∙ is))

-- the state alone
pub state-fetched : (slot : Option (Option Bytes)) (f : Fetched) → IsFetchedWith slot f → IsFetched slot f.state
state-fetched slot f (m, read, are, holds, text) = (m, read, are, holds)
