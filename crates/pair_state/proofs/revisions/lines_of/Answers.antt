use Rattle.std.proofs.Common.{ap, ◌∙◌, take_all, arith}
use Rattle.std.specs.List.{flat_map}
use Rattle.std.proofs.lemmas.Result.{IfOk-weaker}
use Rattle.pair_state.specs.Step.{line_of}
use Rattle.pair_state.proofs.revisions.lines_of.Goals as goal

pub returns : goal.returns
returns c =
    IfOk-weaker c.keep-2.result _ _ (λ text kept.
    kept ∙ c.loop-row.invariant
    ∙ ap (flat_map line_of) (take_all c.loop-row.row-index c.as_slice-list.result.now (omega (arith, c.loop-row-test.false)) ∙ c.as_slice-list.ensures)) c.keep-2.ensures
