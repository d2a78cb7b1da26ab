use Rattle.tree_residue.proofs.Takes.{take-same}
use Rattle.state_audit.proofs.kept.are_same_files.Goals as goal

pub loop-place-preserved : goal.loop-place-preserved
loop-place-preserved c =
    take-same c.args.a.now c.args.b.now c.loop-place.place _ _ c.at.ensures c.at-in-loop-place.ensures (c.is_same_file.ensures.0 c.if-not-is_same_file.false) c.loop-place.invariant
