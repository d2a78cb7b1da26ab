use Rattle.std.proofs.Common.{◌≡◌, map, take}
use Rattle.state_text.specs.Sections.{pair_in}
use Rattle.state_text.proofs.blocks.pairs_of.Given as goal

abbrev pub invariant-loop-block : goal.invariant-loop-block
invariant-loop-block l = l.pairs ≡ map pair_in (take l.block-index l.blocks)
