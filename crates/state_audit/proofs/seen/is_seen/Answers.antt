use Rattle.std.proofs.Common.{◌≡◌, Bool, true, false, sym, ap, ◌∙◌}
use Rattle.std.specs.Bool.{OnTrue}
use Rattle.hg_model.specs.Revision.{FilesAt, knows}
use Rattle.view_model.specs.Dump.{revisions_in}
use Rattle.pair_model.specs.Block.{changesets_in}
use Rattle.pair_known.specs.Rows.{RowValue}
use Rattle.state_audit.specs.Seen.{is_seen_at}
use Rattle.state_audit.proofs.SeenLemmas.{line-seen}
use Rattle.state_audit.proofs.seen.is_seen.Goals as goal

when_true : {X : Type 0} (b : Bool) → b ≡ true → OnTrue b X → X
when_true true e h = h
when_true false e h = absurd cc

pub returns-then-has_line-clause-seen : goal.returns-then-has_line-clause-seen
returns-then-has_line-clause-seen c = λ hg front refers lines.
    let path = c.as_slice-path.ensures ∙ ap (λ (r : RowValue). r.path) c.row.view_is in
    let node = ap (λ (r : RowValue). r.node) c.row.view_is in
    let seen = line-seen front c.args.lines.now _ _ (when_true c.has_line.result c.if-has_line.true c.has_line.ensures.found) lines in
    c.if-has_line.true ∙ sym seen ∙ (λ i. is_seen_at front (path i) (node i))

pub returns-else-has_line-clause-seen : goal.returns-else-has_line-clause-seen
returns-else-has_line-clause-seen c = λ hg front refers lines.
    let rs = revisions_in (changesets_in front) in
    let path = c.as_slice-path.ensures ∙ ap (λ (r : RowValue). r.path) c.row.view_is in
    let node = ap (λ (r : RowValue). r.node) c.row.view_is in
    c.has.ensures rs refers.refers ∙ (λ i. knows rs (FilesAt (path i)) (node i))
