use Rattle.state_law.proofs.Lengths.{text-fits}
use Rattle.state_law.proofs.text_fits.Goals as goal

pub returns : goal.returns
returns c = text-fits
