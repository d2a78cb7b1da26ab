use Rattle.std.proofs.Common.{◌≡◌, take}
use Rattle.state_text.specs.Sections.{paired}
use Rattle.state_text.proofs.blocks.blocks_of.Given as goal

abbrev pub invariant-loop-i : goal.invariant-loop-i
invariant-loop-i l = l.blocks ≡ paired (take l.i l.heads) (take l.i l.commits)
