use Rattle.pair_state.proofs.AllBlocks.{named-all}
use Rattle.pair_state.proofs.state.State.with_names.Goals as goal

pub from_parts-requires : goal.from_parts-requires
from_parts-requires c =
    let history = c.into_parts-parts.ensures.history in
    record { history = (history.0, named-all c.into_parts-parts.result c.args.names history.0 history.1) }
