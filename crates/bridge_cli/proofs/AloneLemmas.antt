-- What a command makes that uses no slot.
use Rattle.std.proofs.Common.{◌≡◌, ℕ, Bool, true, false, [], Option, None, Some, Ok, refl, sym, subst}
use Rattle.std.specs.Prelude.{IfSome, MatchBool, ⊤}
use Rattle.std.specs.Global.{Vec}
use Rattle.std.specs.Io.KnownBytes.{IsAtEnd}
use Rattle.text_model.specs.Text.{Bytes}
use Rattle.hg_model.specs.Bundle.{ListsBundle}
use Rattle.state_model.specs.Kept.{State, empty_state}
use Rattle.state_model.specs.Saved.{SlotHolds}
use Rattle.command_model.specs.Command.{Command, Written, Refused, reads_input, reads_slot, ComesTo}
use Rattle.bridge_text.specs.Refusals.{refusal_value}
use Rattle.bridge_cli.specs.Over.{ToldOf, HeldBy, Over}
use Rattle.bridge_cli.specs.Makes.{IsTextOf, IsEndAlone, MakesAlone, IsEndOf, Makes, ListsTheBundle, WorksTheListing}
use Rattle.bridge_cli.specs.declared.report.Report.{Report}
use Rattle.bridge_cli.specs.declared.report.Report.TheVariants as code
use Rattle.bridge_cli.specs.declared.work.Work.{Work}

-- what holds over the empty state and the input
over-by : (reads uses : Bool) (input : Option Bytes) (slot : Option (Option Bytes)) (P : State → Bytes → Type 0) → reads ≡ true → uses ≡ false → IfSome input (P empty_state)
    → ToldOf reads input (λ bytes. HeldBy uses slot (λ held. (s : State) × MatchBool uses (SlotHolds held s) (s ≡ empty_state) × P s bytes))
over-by true false None slot P reads uses h = tt
over-by true false (Some bytes) slot P reads uses h = (empty_state, refl, h)
over-by true true input slot P reads uses h = absurd (true-false uses)
  where
    true-false : true ≡ false → ⊥
    true-false e = cc
over-by false uses input slot P reads used h = absurd (false-true reads)
  where
    false-true : false ≡ true → ⊥
    false-true e = cc

-- the empty state is that with which the command begins
begins-by : (command : Command) (uses : Bool) (slot : Option (Option Bytes)) → uses ≡ false → HeldBy uses slot (λ held. (s : State) × MatchBool uses (SlotHolds held s) (s ≡ empty_state))
begins-by command false slot none = (empty_state, refl)
begins-by command true slot none = absurd (true-false none)
  where
    true-false : true ≡ false → ⊥
    true-false e = cc

module _ (command : Command) (reads : reads_input command ≡ true) (uses : reads_slot command ≡ false) (input : Option Bytes) (slot : Option (Option Bytes)) where
  over-alone : (P : State → Bytes → Type 0) → IfSome input (P empty_state) → Over command input slot P
  over-alone P h = over-by (reads_input command) (reads_slot command) input slot P reads uses h

  -- the work of an output without a text
  pub alone-makes : (rest : Option Bytes) (output : Vec ℕ) (w : Work) → w.output ≡ output.items → w.text ≡ None → MakesAlone command input rest (Ok output) → Makes command input rest slot (Ok w)
  alone-makes rest output w same none (end, comes) = (
    subst (λ (b : Bool). MatchBool b (IsAtEnd rest) ⊤) (sym reads) end,
    over-alone (λ s bytes. (saved : Option State) × ComesTo command s bytes (Written w.output saved) × IsTextOf saved w.text) (told input comes),
  )
    where
      told : (o : Option Bytes) → IfSome o (λ bytes. ComesTo command empty_state bytes (Written output.items None))
          → IfSome o (λ bytes. (saved : Option State) × ComesTo command empty_state bytes (Written w.output saved) × IsTextOf saved w.text)
      told None h = tt
      told (Some bytes) h = (None, subst (λ (v : Bytes). ComesTo command empty_state bytes (Written v None)) (sym same) h, subst (IsTextOf None) (sym none) tt)

  -- of a run without work
  pub alone-ends : (report : Report) → IsEndAlone command input report → IsEndOf command input slot report
  alone-ends (code.Refused why) end = (end.0, over-alone (λ s bytes. ComesTo command s bytes (Refused (refusal_value why))) end.1)
  alone-ends code.ReadFault end = begins-by command (reads_slot command) slot uses
  alone-ends code.Memory end = tt
  alone-ends code.Done end = absurd end
  alone-ends code.Usage end = absurd end
  alone-ends code.WriteFault end = absurd end
  alone-ends code.SlotFault end = absurd end
  alone-ends (code.StateBad why) end = absurd end
  alone-ends (code.Mismatch commit right) end = absurd end

-- the lines of a bundle are what is to be written
pub works-the-listing : (input : Option Bytes) (output : Vec ℕ) (w : Work) → w.output ≡ output.items → ListsTheBundle input (Ok output) → WorksTheListing input (Ok w)
works-the-listing None output w same lists = tt
works-the-listing (Some bytes) output w same lists = subst (λ (v : Bytes). ListsBundle bytes [] v) (sym same) lists
