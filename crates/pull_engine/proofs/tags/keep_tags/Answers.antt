use Rattle.std.proofs.Common.{sym}
use Rattle.pull_engine.proofs.Tagged.{history-stays, has-tags}
use Rattle.pull_engine.proofs.tags.keep_tags.Goals as goal

pub from_parts-requires : goal.from_parts-requires
from_parts-requires c =
    let h = c.into_parts-parts.ensures.history in
    record { history = (h.0, history-stays c.into_parts-parts.result c.put_behind.new.list h.0 h.1) }

pub returns : goal.returns
returns c =
    rw (c.from_parts.ensures, sym c.into_parts-parts.ensures.parts) (has-tags c.into_parts-parts.result c.put_behind.new.list c.args.tags.now c.in_ok-put_behind.ensures)
