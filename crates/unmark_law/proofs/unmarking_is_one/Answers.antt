use Rattle.partner_model.specs.Partner.{IsHeldView}
use Rattle.unmark_law.proofs.CommitOne.{commit_one}
use Rattle.unmark_law.proofs.ChangesetOne.{changeset_one}
use Rattle.unmark_law.proofs.unmarking_is_one.Goals as goal

pub returns : goal.returns
returns c = λ blocks known t a. (commit_one blocks t, changeset_one blocks (IsHeldView known) t a)
