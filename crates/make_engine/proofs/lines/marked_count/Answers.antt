use Rattle.std.proofs.Common.{List, true, false, refl, sym, ap, ◌∙◌, arith}
use Rattle.std.specs.Prelude.{count_by}
use Rattle.view_model.specs.View.{CommitView}
use Rattle.command_model.specs.Made.{is_marked}
use Rattle.state_text.proofs.Loops.{at-turn}
use Rattle.make_engine.proofs.MarkedLemmas.{counted-next, whole}
use Rattle.make_engine.proofs.lines.marked_count.Goals as goal
use Rattle.make_engine.proofs.lines.marked_count.Goals.{then-is_marked, else-is_marked}

pub loop-id-preserved : goal.loop-id-preserved
loop-id-preserved c =
    let ids = c.args.ids.now in
    let at = at-turn ids ids c.loop-id.id-index c.id-item.result refl c.loop-id-test.true c.id-item.is in
    elim c.if-is_marked.branch [
      | then-is_marked w ↦ record {
        so_far = λ cs are.
            let next = counted-next c.args.git.now ids cs are c.loop-id.id-index c.id-item.result at true (λ v held. sym w.if-is_marked.true ∙ c.is_marked.ensures v held) in
            omega (arith, w.count-is, c.loop-id.invariant.so_far cs are, next);
        few = omega (arith, w.count-is, c.loop-id.invariant.few);
      }
      | else-is_marked w ↦ record {
        so_far = λ cs are.
            let next = counted-next c.args.git.now ids cs are c.loop-id.id-index c.id-item.result at false (λ v held. sym w.if-is_marked.false ∙ c.is_marked.ensures v held) in
            omega (arith, w.count-is, c.loop-id.invariant.so_far cs are, next);
        few = omega (arith, w.count-is, c.loop-id.invariant.few);
      }
    ]

pub returns : goal.returns
returns c = λ cs are. c.loop-id.invariant.so_far cs are ∙ ap (λ (l : List CommitView). count_by is_marked l) (whole c.args.git.now c.args.ids.now cs are c.loop-id.id-index c.loop-id-test.false)
