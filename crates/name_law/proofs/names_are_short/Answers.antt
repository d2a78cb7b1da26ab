use Rattle.name_law.proofs.Sizes.{refs-short}
use Rattle.name_law.proofs.names_are_short.Goals as goal

pub returns : goal.returns
returns c = λ t names a n. refs-short t a names n
