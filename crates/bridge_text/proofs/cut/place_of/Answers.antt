use Rattle.bridge_text.proofs.PlaceLemmas.{position-first}
use Rattle.bridge_text.proofs.cut.place_of.Goals as goal

pub returns-clause-first : goal.returns-clause-first
returns-clause-first c = position-first c.args.byte c.args.bytes.now c.find_byte.result c.find_byte.ensures
