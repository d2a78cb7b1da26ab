-- What a run says by the report of its command.
use Rattle.std.proofs.Common.{◌≡◌, ◌≢◌, ℕ, Option, None, Some, Ok, Err, inl, inr, sym, ap, subst, ◌∙◌}
use Rattle.std.specs.Prelude.{Result, OnOk, option_map}
use Rattle.std.specs.Io.KnownBytes.{Appends}
use Rattle.text_model.specs.Text.{Bytes}
use Rattle.text_model.specs.Fault.{Refusal}
use Rattle.text_model.proofs.Options.{none_some}
use Rattle.bridge_io.specs.Causes.{HasCause}
use Rattle.bridge_io.specs.Sink.{AppendsPrefix}
use Rattle.command_model.specs.Run.{Report, Done, IsRefused}
use Rattle.command_model.specs.Command.{Command}
use Rattle.command_model.specs.Headline.{Headline}
use Rattle.bridge_cli.specs.Ends.{EndsBy}
use Rattle.bridge_cli.specs.Outside.{TakesOrFails}
use Rattle.bridge_cli.specs.Report.{report_value}
use Rattle.bridge_cli.specs.Status.{command_value, status_of}
use Rattle.bridge_cli.specs.declared.report.Report as code_report
use Rattle.bridge_cli.specs.declared.report.Report.TheVariants as code
use Rattle.bridge_cli.specs.declared.words.Command as words
use Rattle.bridge_cli.proofs.OverLemmas.{some-is}
use Rattle.bridge_cli.proofs.HeadlineLemmas.{headline-holds, same-headline}

-- the errors took the line, or failed
pub takes-or-fails : {T E : Type 0} (old new : Option Bytes) (before now : ℕ) (bytes : Bytes) (result : Result T E) → OnOk result (Appends old new bytes) → AppendsPrefix old new bytes
    → HasCause before now result → TakesOrFails old new before now bytes
takes-or-fails old new before now bytes (Ok x) all front cause = inl (all, cause.kept)
takes-or-fails old new before now bytes (Err e) all front cause = inr (front, cause.rose)

-- ---- the words

-- the command is the one that they ask for
pub of-words : (o : Option words.Command) (asked : words.Command) (w : Option Command) (command : Command) → o ≡ Some asked → option_map command_value o ≡ w → w ≡ Some command
    → command_value asked ≡ command
of-words o asked w command is named same = some-is (sym (ap (option_map command_value) is) ∙ named ∙ same)

-- there is none
pub no-words : (o : Option words.Command) (w : Option Command) (command : Command) → o ≡ None → option_map command_value o ≡ w → w ≡ Some command → ⊥
no-words o w command is named same = none_some (sym (ap (option_map command_value) is) ∙ named ∙ same)

-- ---- the end

-- the same end of the same command
pub ends-same : (asked command : Command) (input rest left old new out : Option Bytes) (slot kept held : Option (Option Bytes)) (ended report : code_report.Report)
    → asked ≡ command → left ≡ rest → out ≡ new → held ≡ kept → report ≡ ended
    → EndsBy asked input rest old new slot kept (report_value ended) → EndsBy command input left old out slot held (report_value report)
ends-same asked command input rest left old new out slot kept held ended report a b c d e ends =
    let on_command = subst (λ (x : Command). EndsBy x input rest old new slot kept (report_value ended)) a ends in
    let on_input = subst (λ (x : Option Bytes). EndsBy command input x old new slot kept (report_value ended)) (sym b) on_command in
    let on_output = subst (λ (x : Option Bytes). EndsBy command input left old x slot kept (report_value ended)) (sym c) on_input in
    let on_slot = subst (λ (x : Option (Option Bytes)). EndsBy command input left old out slot x (report_value ended)) (sym d) on_output in
    subst (λ (x : code_report.Report). EndsBy command input left old out slot held (report_value x)) (sym e) on_slot

refused-undone : (why : Refusal) (report : code_report.Report) → report_value report ≡ IsRefused why → report ≢ code.Done
refused-undone why report is done = let e : Done ≡ IsRefused why = sym (ap report_value done) ∙ is in cc

-- a report of the same status says the same of the history
pub run-headline : (command : Command) (input rest old new : Option Bytes) (slot kept : Option (Option Bytes)) (ended : code_report.Report)
    → EndsBy command input rest old new slot kept (report_value ended) → (ended ≢ code.Done → kept ≡ slot)
    → (report : Report) → status_of (report_value ended) ≡ status_of report → Headline command input slot kept report
run-headline command input rest old new slot kept ended ends same report e =
    let holds = headline-holds command input rest old new slot kept (report_value ended) ends (λ why is. same (refused-undone why ended is)) in
    same-headline command input slot kept (report_value ended) report e holds
