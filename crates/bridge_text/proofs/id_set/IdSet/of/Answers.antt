use Rattle.std.proofs.Common.{◌<◌, length, arith}
use Rattle.bridge_text.proofs.Sets.{one-more}
use Rattle.bridge_text.proofs.id_set.IdSet.of.Goals as goal

pub loop-id-preserved : goal.loop-id-preserved
loop-id-preserved c =
    let below : c.loop-id.id-index < length c.args.ids.now = omega (arith, c.loop-id-test.true) in
    one-more c.loop-id.set c.args.ids.now c.loop-id.id-index c.id-item.result c.loop-id.invariant below c.id-item.is
    c.insert.new.self c.in_ok-insert.field-0 c.in_ok-insert.ensures.new c.in_ok-insert.ensures.ok
