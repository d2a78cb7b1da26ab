use Rattle.std.proofs.Common.{subst}
use Rattle.text_model.specs.Text.{Bytes}
use Rattle.hg_store.specs.Known.{AreFileParents}
use Rattle.pair_known.specs.Rows.{RowValue}
use Rattle.changeset_unmark.proofs.FreshRows.{held_parents}
use Rattle.changeset_unmark.proofs.rows.is_held_so.Goals as goal

pub returns-then-has_parents : goal.returns-then-has_parents
returns-then-has_parents c = λ w path node held.
    let are = subst (λ (x : RowValue). AreFileParents c.args.store.now x.path x.node c.args.parents) c.row.view_is
    (subst (λ (x : Bytes). AreFileParents c.args.store.now x c.row.inside.node c.args.parents) c.as_slice.ensures (c.has_parents.ensures.held c.if-has_parents.true)) in
    let meta = c.has_meta.ensures w path node held in (
      (λ t. (held_parents c.args.store.now w c.args.row.now.path c.args.row.now.node path node held c.args.parents are, meta.0 t)),
      (λ h. meta.1 h.1),
    )
