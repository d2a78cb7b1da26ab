use Rattle.std.proofs.Common.{subst}
use Rattle.hg_model.specs.Changeset.{Changeset}
use Rattle.hg_changeset.specs.Values.{date_value}
use Rattle.partner_model.specs.Partner.{IsHeldView}
use Rattle.unmark_law.proofs.ChangesetOne.{marks_in}
use Rattle.changeset_unmark.specs.Heads.{IsDateOf}
use Rattle.changeset_unmark.proofs.WholeLemmas.{unmarked-date, marks-none}
use Rattle.changeset_unmark.proofs.unmark.unmark_changeset.Goals as goal

pub returns-in_default : goal.returns-in_default
returns-in_default c = λ blocks v inside commit u.
    let date = subst (λ (x : Changeset). IsDateOf x.date (marks_in blocks commit)) inside.draft.fields (unmarked-date blocks (IsHeldView c.args.known.now.hg) v commit u) in
    marks-none (date_value c.args.h.now.changeset.date) c.in_ok-marks.field-0 c.in_default.is c.in_ok-marks.ensures (marks_in blocks commit) date
