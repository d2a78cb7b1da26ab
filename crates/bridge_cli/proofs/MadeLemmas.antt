-- What is counted of a history that is made, as the work of its command.
use Rattle.std.proofs.Common.{◌≡◌, ℕ, Option, None, Ok, refl, sym, subst}
use Rattle.std.specs.Global.{Vec}
use Rattle.text_model.specs.Text.{Bytes}
use Rattle.state_model.specs.Kept.{empty_state}
use Rattle.make_engine.specs.Faults.{IsRefusedFor}
use Rattle.make_engine.specs.Names.{IsOfCounts}
use Rattle.make_engine.specs.declared.fault.CountsFault.{CountsFault}
use Rattle.make_engine.specs.declared.fault.CountsFault.TheVariants as counts
use Rattle.command_model.specs.Made.{MakesCounts, RefusesMake}
use Rattle.command_model.specs.Command.{Make}
use Rattle.bridge_cli.specs.Makes.{IsTextOf, IsEndOf, Makes, EndCause, FetchEndCause}
use Rattle.bridge_cli.specs.Report.{counts_report}
use Rattle.bridge_cli.specs.declared.work.Work.{Work}

module _ (n seed : ℕ) where
  -- the counts, with no state to be saved
  pub made-makes : (w : Work) (lines : Vec ℕ) → MakesCounts n seed lines.items → w.output ≡ lines.items → w.text ≡ None
      → (input : Option Bytes) (slot : Option (Option Bytes)) → Makes (Make n seed) input input slot (Ok w)
  made-makes w lines counts same none input slot =
      (tt, (empty_state, refl, (None, subst (λ (v : Bytes). MakesCounts n seed v) (sym same) counts, subst (IsTextOf None) (sym none) tt)))

  -- why there are none
  pub made-refuses : (e : CountsFault) → IsOfCounts e → IsRefusedFor (RefusesMake n seed) e → (input : Option Bytes) (slot : Option (Option Bytes)) → IsEndOf (Make n seed) input slot (counts_report e)
  made-refuses (counts.Refused why) named due input slot = ((why.fault, refl, named), (empty_state, refl, due))
  made-refuses counts.Memory named due input slot = tt

-- nothing outside has failed
pub made-cause : (e : CountsFault) (faults : ℕ) → EndCause faults faults (counts_report e)
made-cause (counts.Refused why) faults = refl
made-cause counts.Memory faults = refl

pub made-slot : (e : CountsFault) (faults : ℕ) → FetchEndCause faults faults (counts_report e)
made-slot (counts.Refused why) faults = refl
made-slot counts.Memory faults = refl
