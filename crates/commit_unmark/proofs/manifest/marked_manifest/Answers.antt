use Rattle.std.proofs.Common.{Some, None, sym, ap, ◌∙◌}
use Rattle.std.specs.Prelude.{option_map}
use Rattle.mark_code.specs.Values.{mark_value}
use Rattle.partner_model.specs.Filled.{manifest_mark}
use Rattle.commit_unmark.proofs.PartLemmas.{first-by}
use Rattle.commit_unmark.proofs.manifest.marked_manifest.Goals as goal

pub returns-in_err-mark : goal.returns-in_err-mark
returns-in_err-mark c = ap (option_map _) c.from_residual.ensures ∙ sym (first-by manifest_mark c.args.marks.now None (sym (ap (option_map (λ m. mark_value m.now)) c.in_err-mark.was) ∙ c.first_of.ensures.first))

pub returns : goal.returns
returns c = c.manifest_in.ensures ∙ sym (first-by manifest_mark c.args.marks.now (Some (mark_value c.in_ok-mark.mark.now)) (sym (ap (option_map (λ m. mark_value m.now)) c.in_ok-mark.was) ∙ c.first_of.ensures.first))
