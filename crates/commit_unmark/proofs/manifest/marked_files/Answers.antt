use Rattle.std.proofs.Common.{Some, None, sym, ap, ◌∙◌}
use Rattle.std.specs.Prelude.{option_map}
use Rattle.mark_code.specs.Values.{mark_value}
use Rattle.partner_model.specs.Filled.{files_mark}
use Rattle.commit_unmark.proofs.PartLemmas.{first-by}
use Rattle.commit_unmark.proofs.manifest.marked_files.Goals as goal

pub returns-in_err-mark-clause-named : goal.returns-in_err-mark-clause-named
returns-in_err-mark-clause-named c = ap (option_map _) c.from_residual.ensures ∙ sym (first-by files_mark c.args.marks.now None (sym (ap (option_map (λ m. mark_value m.now)) c.in_err-mark.was) ∙ c.first_of.ensures.first))

pub returns-clause-named : goal.returns-clause-named
returns-clause-named c = c.files_in.ensures ∙ sym (first-by files_mark c.args.marks.now (Some (mark_value c.in_ok-mark.mark.now)) (sym (ap (option_map (λ m. mark_value m.now)) c.in_ok-mark.was) ∙ c.first_of.ensures.first))
