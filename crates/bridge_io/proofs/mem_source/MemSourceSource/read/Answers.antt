use Rattle.std.proofs.Common.{length}
use Rattle.bridge_io.proofs.Pieces.{gives_front, gives_end}
use Rattle.bridge_io.proofs.mem_source.MemSourceSource.read.Goals as goal

pub returns-clause-bytes : goal.returns-clause-bytes
returns-clause-bytes c =
    let bytes = c.self.inside.bytes.items in
    let at = c.self.inside.at in
    let given = c.copy_front-count.new.buf in
    let n = c.copy_front-count.result in
    let copied = c.copy_front-count.ensures in (
      rw (← c.self.view_is) (gives_front bytes given at n (rw (c.split_at.ensures.back, c.deref.ensures.value) at copied.front)),
      gives_end bytes at c.self.inside.cut (length given) n (rw (c.split_at.ensures.back, c.deref.ensures.value) at copied.count),
    )
