use Rattle.std.proofs.Common.{length, refl, ap, ◌∙◌}
use Rattle.std.proofs.lemmas.Result.{IfOk-weaker}
use Rattle.pair_known.specs.declared.known.Known.{Known}
use Rattle.make_engine.specs.Lines.{last_ids}
use Rattle.make_engine.proofs.LineLemmas.{lines-are}
use Rattle.make_engine.proofs.lines.lines_of.Goals as goal

pub returns : goal.returns
returns c =
    IfOk-weaker c.lines_with.result _ _ (λ lines is m stands.
    is
    ∙ lines-are c.args.state.now m stands c.len-changesets.result (length c.as_slice-commits.result.now) c.marked_count-marked.result c.last_ids-last.result c.known.result.now.git c.as_slice-commits.result.now
    (c.len-changesets.ensures ∙ ap length c.changesets.ensures)
    (ap (λ (k : Known). k.git) c.known.ensures)
    (c.as_slice-commits.ensures ∙ c.commits.ensures)
    refl
    c.marked_count-marked.ensures
    (c.last_ids-last.ensures ∙ ap last_ids (c.as_slice.ensures ∙ c.blocks-2.ensures)))
    c.lines_with.ensures
