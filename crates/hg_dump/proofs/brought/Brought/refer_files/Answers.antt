use Rattle.hg_manifest.specs.Values.{manifest_entry}
use Rattle.hg_dump.proofs.WalkLemmas.{starts, goes-on, ends}
use Rattle.hg_dump.proofs.brought.Brought.refer_files.Goals as goal

pub loop-entry-init : goal.loop-entry-init
loop-entry-init c = starts c.args.walk c.args.is_new c.args.link.now c.args.self.now

pub loop-entry-preserved : goal.loop-entry-preserved
loop-entry-preserved c =
    goes-on c.args.walk.other c.args.is_new c.args.link.now c.args.walk.lines c.loop-entry.walk c.next.new.self (manifest_entry c.in-Some.entry.now) c.args.self.now c.loop-entry.self c.refer_line.new.self
    c.loop-entry.invariant c.in-Some.ensures.some c.in_ok-refer_line.ensures

pub returns : goal.returns
returns c = ends c.args.walk.other c.args.is_new c.args.link.now c.args.walk.lines c.loop-entry.walk c.args.self.now c.loop-entry.self c.loop-entry.invariant (c.next.ensures.none c.in_default.is)
