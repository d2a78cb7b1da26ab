use Rattle.std.proofs.Common.{List}
use Rattle.view_model.specs.View.{ChangesetView}
use Rattle.pair_model.specs.Block.{Block}
use Rattle.pair_state.specs.Came.{ArePartsOf}
use Rattle.pair_state.proofs.PartLemmas.{LinksSo}
use Rattle.pair_state.proofs.parts.add_parts.Given as goal

-- the links so far came
abbrev pub invariant-loop-link : goal.invariant-loop-link
invariant-loop-link l = (blocks : List Block) (ls : List ChangesetView) (h : ChangesetView) → ArePartsOf l.initial.hg l.saved l.block blocks ls h
    → LinksSo l.initial.hg l.hg l.saved l.links blocks ls h l.link-index
