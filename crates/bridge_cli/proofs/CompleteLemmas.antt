-- A run without faults of the outside, whose command is not refused, is done, or tells a mismatch, or has no memory.
use Rattle.std.proofs.Common.{◌≡◌, ℕ, Bool, true, false, [], Option, None, Some, inl, inr, refl, sym, subst, ◌∙◌}
use Rattle.std.specs.Prelude.{MatchBool}
use Rattle.text_model.specs.Text.{Bytes}
use Rattle.text_model.proofs.Options.{none_some}
use Rattle.state_model.specs.Kept.{State, empty_state}
use Rattle.state_model.specs.Saved.{SlotHolds}
use Rattle.command_model.specs.Run.{Report, Done, IsRefused, Usage, ReadFault, WriteFault, SlotFault, StateBad, Memory, Mismatch, BadState}
use Rattle.command_model.specs.Command.{Command, Refused, Mismatched, reads_input, reads_slot, ComesTo, BeginsWith, IsBadSlot}
use Rattle.history_law.proofs.States.{slot-one}
use Rattle.bridge_cli.specs.Over.{ToldOf, HeldBy, Over}
use Rattle.bridge_cli.specs.Ends.{EndsBy}
use Rattle.bridge_cli.specs.Outside.{InputCause, OutputCause, SlotCause}
use Rattle.bridge_cli.specs.Status.{status_of}
use Rattle.bridge_cli.specs.Complete.{Tells, NoFault, Completes}
use Rattle.bridge_cli.proofs.OverLemmas.{some-is}
use Rattle.bridge_cli.proofs.GoodText.{good-text}
use Rattle.bridge_cli.proofs.OutcomeLemmas.{done-apart, refused-apart}

-- ---- what is said of a run is said of what its input and its slot tell

told-one : (reads : Bool) (told : Option Bytes) (bytes : Bytes) (P : Bytes → Type 0) → Tells reads told [] bytes → ToldOf reads told P → P bytes
told-one true None bytes P tells h = absurd (none_some tells)
told-one true (Some x) bytes P tells h = subst P (some-is tells) h
told-one false told bytes P tells h = subst P (sym tells) h

held-one : (reads : Bool) (told : Option (Option Bytes)) (held : Option Bytes) (P : Option Bytes → Type 0) → Tells reads told None held → HeldBy reads told P → P held
held-one true None held P tells h = absurd (none_some tells)
held-one true (Some x) held P tells h = subst P (some-is tells) h
held-one false told held P tells h = subst P (sym tells) h

begins-one : (reads : Bool) (held : Option Bytes) (s t : State) → MatchBool reads (SlotHolds held s) (s ≡ empty_state) → MatchBool reads (SlotHolds held t) (t ≡ empty_state) → s ≡ t
begins-one true held s t h k = slot-one held s t h k
begins-one false held s t h k = h ∙ sym k

over-one : (command : Command) (input : Option Bytes) (slot : Option (Option Bytes)) (bytes : Bytes) (held : Option Bytes) (s : State) (P : State → Bytes → Type 0)
    → Tells (reads_input command) input [] bytes → Tells (reads_slot command) slot None held → BeginsWith command held s → Over command input slot P → P s bytes
over-one command input slot bytes held s P input_tells slot_tells begins over =
    let told = told-one (reads_input command) input bytes (λ b. HeldBy (reads_slot command) slot (λ h. (t : State) × BeginsWith command h t × P t b)) input_tells over in
    let x = held-one (reads_slot command) slot held (λ h. (t : State) × BeginsWith command h t × P t bytes) slot_tells told in
    subst (λ (t : State). P t bytes) (begins-one (reads_slot command) held x.0 s x.1 begins) x.2

-- the text of a state, or nothing, is no bad slot
no-bad : (reads : Bool) (slot : Option (Option Bytes)) (held : Option Bytes) (s : State) (why : BadState) → Tells reads slot None held → MatchBool reads (SlotHolds held s) (s ≡ empty_state)
    → ¬ (HeldBy reads slot (λ h. IsBadSlot h why))
no-bad true slot None s why tells begins bad = held-one true slot None (λ h. IsBadSlot h why) tells bad
no-bad true slot (Some text) s why tells begins bad = good-text text s why begins (held-one true slot (Some text) (λ h. IsBadSlot h why) tells bad)
no-bad false slot held s why tells begins bad = bad

-- ---- how a run ends

module _ (command : Command) (input rest old new : Option Bytes) (slot kept : Option (Option Bytes)) (i j o p k l : ℕ) where
  -- where none of the counts of faults rose
  pub complete-holds : (report : Report) → EndsBy command input rest old new slot kept report → InputCause i j (status_of report) → OutputCause o p (status_of report) → SlotCause k l (status_of report)
      → NoFault i j → NoFault o p → NoFault k l → Completes command input slot (status_of report)
  complete-holds Done ends read wrote saved none_read none_wrote none_saved = λ bytes held s input_tells slot_tells begins. record {
    done = λ never never_mismatched. inl refl;
    mismatch = λ commit right comes.
        let x = over-one command input slot bytes held s _ input_tells slot_tells begins ends.1 in
        absurd (done-apart commit right command s bytes x.0 x.1 x.2 comes);
  }
  complete-holds (IsRefused why) ends read wrote saved none_read none_wrote none_saved = λ bytes held s input_tells slot_tells begins.
      let due = over-one command input slot bytes held s (λ t b. ComesTo command t b (Refused why)) input_tells slot_tells begins ends.1 in
      record {
        done = λ never never_mismatched. absurd (never why due);
        mismatch = λ commit right comes. absurd (refused-apart commit right command s bytes why due comes);
      }
  complete-holds Usage ends read wrote saved none_read none_wrote none_saved = absurd ends
  complete-holds ReadFault ends read wrote saved none_read none_wrote none_saved = absurd (none_read read)
  complete-holds WriteFault ends read wrote saved none_read none_wrote none_saved = absurd (none_wrote wrote)
  complete-holds SlotFault ends read wrote saved none_read none_wrote none_saved = absurd (none_saved saved)
  complete-holds (StateBad why) ends read wrote saved none_read none_wrote none_saved = λ bytes held s input_tells slot_tells begins.
      absurd (no-bad (reads_slot command) slot held s why slot_tells begins ends)
  complete-holds Memory ends read wrote saved none_read none_wrote none_saved = λ bytes held s input_tells slot_tells begins. record {
    done = λ never never_mismatched. inr refl;
    mismatch = λ commit right comes. inr refl;
  }
  complete-holds (Mismatch commit right) ends read wrote saved none_read none_wrote none_saved = λ bytes held s input_tells slot_tells begins.
      let differs = over-one command input slot bytes held s (λ t b. ComesTo command t b (Mismatched commit right)) input_tells slot_tells begins ends.1 in
      record {
        done = λ never never_mismatched. absurd (never_mismatched commit right differs);
        mismatch = λ other id comes. inl refl;
      }
