use Rattle.bridge_text.proofs.UnescapeLemmas.{Unescaped-more, Unescaped-bad}
use Rattle.bridge_text.proofs.escape.push_unescaped.Goals as goal

pub returns-in_default-clause-fault : goal.returns-in_default-clause-fault
returns-in_default-clause-fault c =
    Unescaped-bad c.args.text.now c.bytes.rest.now c.args.out.now.items c.bytes.out.items c.bytes.invariant c.in_default.ensures c.bytes-test.ensures

pub bytes-preserved : goal.bytes-preserved
bytes-preserved c =
    Unescaped-more c.args.text.now c.bytes.rest.now c.in-Some.after.now c.args.out.now.items c.bytes.out.items c.push.new.out.items c.in-Some.byte c.bytes.invariant c.in-Some.ensures c.in_ok-push.ensures.ok
