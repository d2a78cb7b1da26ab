use Rattle.std.proofs.Common.{sym, ◌∙◌}
use Rattle.hg_manifest.specs.Values.{manifest_entry}
use Rattle.hg_manifest.proofs.BesideLemmas.{later-none, later-more}
use Rattle.pull_bundle.proofs.LateLemmas.{none-late, refers-in, next-file, late-here, late-more, all-in_time}
use Rattle.pull_bundle.proofs.late.has_late_file.Goals as goal

pub loop-line-init : goal.loop-line-init
loop-line-init c = record {
  none = λ blocks files taking are held near. rw c.of-walk.ensures (none-late blocks files c.args.lines are);
  later = rw c.of-walk.ensures (later-none c.args.near);
}

pub returns-then-has_late_parent : goal.returns-then-has_late_parent
returns-then-has_late_parent c = λ blocks files taking are held near.
    let known = ((c.args.taking.now).state).known.hg in
    let n = next-file known blocks files c.loop-line.walk c.next.new.self (manifest_entry c.in-Some.line.now) c.args.near held near c.loop-line.invariant.later (c.loop-line.invariant.none blocks files taking are held near) c.in-Some.ensures.some in
    sym (late-here known blocks files _ _ n (sym (c.has_late_parent.ensures blocks n.file (refers-in c.args.taking.now blocks taking) n.told n.is_held) ∙ c.if-has_late_parent.true))

pub loop-line-preserved : goal.loop-line-preserved
loop-line-preserved c = record {
  none = λ blocks files taking are held near.
      let known = ((c.args.taking.now).state).known.hg in
      let n = next-file known blocks files c.loop-line.walk c.next.new.self (manifest_entry c.in-Some.line.now) c.args.near held near c.loop-line.invariant.later (c.loop-line.invariant.none blocks files taking are held near) c.in-Some.ensures.some in
      late-more known blocks files _ _ n (sym (c.has_late_parent.ensures blocks n.file (refers-in c.args.taking.now blocks taking) n.told n.is_held) ∙ c.if-has_late_parent.false);
  later = later-more c.args.near (c.loop-line.walk).other (c.next.new.self).other c.loop-line.invariant.later (c.in-Some.ensures.some).later;
}

pub returns : goal.returns
returns c = λ blocks files taking are held near.
    sym (all-in_time ((c.args.taking.now).state).known.hg blocks files c.loop-line.walk c.args.near held near c.loop-line.invariant.later (c.loop-line.invariant.none blocks files taking are held near) (c.next.ensures.none c.in_default.is))
