use Rattle.partner_model.specs.Partner.{IsHeldView}
use Rattle.residue_law.proofs.FilledCommits.{commit_filled}
use Rattle.residue_law.proofs.commit_is_filled.Goals as goal

pub returns : goal.returns
returns c = λ blocks known. commit_filled blocks (IsHeldView known)
