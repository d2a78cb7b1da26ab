use Rattle.std.proofs.Common.{◌≡◌, ◌+◌, List}
use Rattle.pair_model.specs.Block.{Block}
use Rattle.partner_model.specs.Partner.{Member, IsHeldView, IsPlain}
use Rattle.partner_model.specs.Given.{Peels}
use Rattle.pair_choice.specs.Depths.{IsClear, IsDraftOf}
use Rattle.pair_choice.proofs.DepthLemmas.{IsDown}
use Rattle.pair_choice.proofs.depth.depth_over.Given as goal

-- the last one stands for a member; so many unmarkings stand below the top, and as many steps but two were counted
abbrev pub invariant-loop-count : goal.invariant-loop-count
invariant-loop-count g l = record {
  some : (blocks : List Block) × (m : Member) × IsDraftOf l.known blocks l.last m;
  down : (blocks : List Block) (top m : Member) → IsClear l.known blocks 2 top → Peels blocks (IsHeldView l.known.hg) 2 top m → (¬ (IsPlain blocks m)) → IsDraftOf l.known blocks l.initial.last m → (n : Member) × IsDown l.known blocks l.count top l.last n;
  steps : l.steps + 2 ≡ l.initial.steps + l.count;
}
