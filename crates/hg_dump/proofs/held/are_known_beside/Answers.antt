use Rattle.std.proofs.Common.{sym, ◌∙◌}
use Rattle.hg_manifest.specs.Values.{manifest_entry}
use Rattle.hg_dump.proofs.HeldLines.{starts, goes-on, ends}
use Rattle.hg_dump.proofs.held.are_known_beside.Goals as goal

pub loop-line-init : goal.loop-line-init
loop-line-init c = starts c.args.store.now c.args.walk

pub loop-line-preserved : goal.loop-line-preserved
loop-line-preserved c =
    goes-on c.args.store.now c.args.walk.lines c.args.walk.other c.loop-line.walk c.next.new.self (manifest_entry c.in-Some.line.now) c.requires.near c.loop-line.invariant c.in-Some.ensures.some (sym c.is_known.ensures ∙ c.if-not-is_known.false)

pub returns : goal.returns
returns c = λ yes. ends c.args.store.now c.args.walk.lines c.args.walk.other c.loop-line.walk c.requires.near c.loop-line.invariant (c.next.ensures.none c.in_default.is)
