use Rattle.text_model.proofs.OrderLemmas.{node_id-either_order}
use Rattle.bridge_text.proofs.laws.node_laws.Goals as goal

pub returns : goal.returns
returns c = node_id-either_order
