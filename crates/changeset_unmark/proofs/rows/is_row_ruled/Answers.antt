use Rattle.std.proofs.Common.{ap, ◌∙◌}
use Rattle.hg_model.specs.Revision.{FilesAt, revision_of}
use Rattle.pair_known.specs.Rows.{RowValue}
use Rattle.pair_known.specs.Fresh.{fresh_revision}
use Rattle.changeset_unmark.proofs.FreshRows.{fresh_row, held_row}
use Rattle.changeset_unmark.proofs.rows.is_row_ruled.Goals as goal

pub returns-in-Some : goal.returns-in-Some
returns-in-Some c = λ r s w is.
    let at = c.in-Some.ensures ∙ (λ i. revision_of c.args.fresh.now (FilesAt ((c.as_slice.ensures ∙ ap (λ (x : RowValue). x.path) c.row.view_is) i)) (c.row.view_is i).node) in
    c.is_fresh_ruled.ensures r s w (fresh_row c.args.fresh.now c.args.store.now c.args.row.now _ _ r s w is (fresh_revision c.in-Some.file.now) at)

pub returns-in-None : goal.returns-in-None
returns-in-None c = λ r s w is.
    let at = c.in-None.ensures ∙ (λ i. revision_of c.args.fresh.now (FilesAt ((c.as_slice.ensures ∙ ap (λ (x : RowValue). x.path) c.row.view_is) i)) (c.row.view_is i).node) in
    c.is_ruled.ensures r s w (held_row c.args.fresh.now c.args.store.now c.args.row.now _ _ r s w is at)
