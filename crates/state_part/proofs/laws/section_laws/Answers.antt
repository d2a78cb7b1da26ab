use Rattle.state_part.proofs.SectionLemmas.{one_section}
use Rattle.state_part.proofs.PairLemmas.{one_map}
use Rattle.state_part.proofs.laws.section_laws.Goals as goal

pub returns-clause-text : goal.returns-clause-text
returns-clause-text c = one_section

pub returns-clause-pairs : goal.returns-clause-pairs
returns-clause-pairs c = one_map
