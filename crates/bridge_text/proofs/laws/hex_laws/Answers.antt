use Rattle.text_model.proofs.HexLemmas.{id_of_hex-hex, id_of_hex-takes}
use Rattle.bridge_text.proofs.laws.hex_laws.Goals as goal

pub returns-clause-again : goal.returns-clause-again
returns-clause-again c = id_of_hex-hex

pub returns-clause-takes : goal.returns-clause-takes
returns-clause-takes c = id_of_hex-takes
