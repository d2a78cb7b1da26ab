use Rattle.text_model.proofs.EscapeLemmas.{escape-injective}
use Rattle.mark_law.proofs.Marks.{marks_one}
use Rattle.mark_law.proofs.Residues.{residue_one}
use Rattle.mark_law.proofs.Extras.{extras_one}
use Rattle.mark_law.proofs.texts_are_one.Goals as goal

pub returns-clause-escapes : goal.returns-clause-escapes
returns-clause-escapes c = escape-injective

pub returns-clause-marks : goal.returns-clause-marks
returns-clause-marks c = marks_one

pub returns-clause-residues : goal.returns-clause-residues
returns-clause-residues c = λ xs ys h k. residue_one xs ys h.0 k.0

pub returns-clause-extras : goal.returns-clause-extras
returns-clause-extras c = extras_one
