-- How a run ends whose work is done, or comes to none.
use Rattle.std.proofs.Common.{Option, None, Some, inl, inr, refl}
use Rattle.std.specs.Prelude.{MatchBool, ⊤}
use Rattle.std.specs.Io.KnownBytes.{IsAtEnd}
use Rattle.text_model.specs.Text.{Bytes}
use Rattle.state_model.specs.Kept.{State}
use Rattle.command_model.specs.Command.{Command, Written, reads_input, ComesTo}
use Rattle.bridge_cli.specs.Over.{Over}
use Rattle.bridge_cli.specs.Ends.{Keeps, EndsBy}
use Rattle.bridge_cli.specs.Makes.{IsTextOf, IsEndOf, Stores, Finishes}
use Rattle.bridge_cli.specs.Report.{report_value}
use Rattle.bridge_cli.specs.declared.report.Report.{Report}
use Rattle.bridge_cli.specs.declared.report.Report.TheVariants as code
use Rattle.bridge_cli.specs.declared.work.Work.{Work}
use Rattle.bridge_cli.proofs.OverLemmas.{some-is, over-map}

keeps : (slot kept : Option (Option Bytes)) (saved : Option State) (text : Option Bytes) → IsTextOf saved text → Stores slot kept text → Keeps slot kept saved
keeps None kept saved text is stores = tt
keeps (Some before) None saved text is stores = tt
keeps (Some before) (Some after) None None is stores = some-is stores
keeps (Some before) (Some after) (Some s) (Some text) is stores = (text, stores, is)
keeps (Some before) (Some after) None (Some text) is stores = absurd is
keeps (Some before) (Some after) (Some s) None is stores = absurd is

-- what is to be written is the output and the text of what the command comes to
abbrev pub IsWork : Command → Option Bytes → Option Bytes → Option (Option Bytes) → Work → Type 0
IsWork command input rest slot w = MatchBool (reads_input command) (IsAtEnd rest) ⊤
    × Over command input slot (λ s bytes. (saved : Option State) × ComesTo command s bytes (Written w.output saved) × IsTextOf saved w.text)

-- of work that is written, or fails at that
pub work-ends : (command : Command) (input rest old new : Option Bytes) (slot kept : Option (Option Bytes)) (w : Work) (report : Report)
    → IsWork command input rest slot w → Finishes old new slot kept w report → EndsBy command input rest old new slot kept (report_value report)
work-ends command input rest old new slot kept w code.Done work (appends, stores) =
    (work.0, over-map command input slot _ _ (λ s bytes x. (w.output, x.0, x.1, appends, keeps slot kept x.0 w.text x.2 stores)) work.1)
work-ends command input rest old new slot kept w code.WriteFault work front = over-map command input slot _ _ (λ s bytes x. (w.output, x.0, x.1, front)) work.1
work-ends command input rest old new slot kept w code.SlotFault work appends =
    inr (over-map command input slot _ _ (λ s bytes x. (w.output, x.0, x.1, appends)) work.1)
work-ends command input rest old new slot kept w (code.Refused why) work never = absurd never
work-ends command input rest old new slot kept w code.Usage work never = absurd never
work-ends command input rest old new slot kept w code.ReadFault work never = absurd never
work-ends command input rest old new slot kept w (code.StateBad why) work never = absurd never
work-ends command input rest old new slot kept w code.Memory work never = absurd never
work-ends command input rest old new slot kept w (code.Mismatch commit right) work never = absurd never

-- of a run without work
pub no-work : (command : Command) (input rest taken : Option Bytes) (slot kept : Option (Option Bytes)) (report : Report)
    → IsEndOf command input slot report → EndsBy command input rest taken taken slot kept (report_value report)
no-work command input rest taken slot kept (code.Refused why) end = end
no-work command input rest taken slot kept code.ReadFault end = end
no-work command input rest taken slot kept code.SlotFault end = inl refl
no-work command input rest taken slot kept (code.StateBad why) end = end
no-work command input rest taken slot kept code.Memory end = tt
no-work command input rest taken slot kept (code.Mismatch commit right) end = end
no-work command input rest taken slot kept code.Done end = absurd end
no-work command input rest taken slot kept code.Usage end = absurd end
no-work command input rest taken slot kept code.WriteFault end = absurd end
