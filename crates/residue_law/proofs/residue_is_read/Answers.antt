use Rattle.partner_model.specs.Partner.{IsHeldView}
use Rattle.residue_law.proofs.Fits as law
use Rattle.residue_law.proofs.residue_is_read.Goals as goal

pub returns-clause-read : goal.returns-clause-read
returns-clause-read c = λ blocks known. law.residue_read blocks (IsHeldView known)

pub returns-clause-rows : goal.returns-clause-rows
returns-clause-rows c = λ blocks known. law.rows_read blocks (IsHeldView known)

pub returns-clause-fits : goal.returns-clause-fits
returns-clause-fits c = λ blocks known. law.residue_fits blocks (IsHeldView known)

pub returns-clause-items : goal.returns-clause-items
returns-clause-items c = λ blocks known. law.items_fit blocks (IsHeldView known)

pub returns-clause-builds : goal.returns-clause-builds
returns-clause-builds c = law.residue_builds

pub returns-clause-handed : goal.returns-clause-handed
returns-clause-handed c = law.hands_on
