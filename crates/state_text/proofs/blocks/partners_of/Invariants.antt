use Rattle.std.proofs.Common.{◌≡◌, map, take}
use Rattle.state_text.proofs.blocks.partners_of.Given as goal

abbrev pub invariant-loop-block : goal.invariant-loop-block
invariant-loop-block l = l.partners ≡ map (λ b. (b.node, b.commit)) (take l.block-index l.blocks)
