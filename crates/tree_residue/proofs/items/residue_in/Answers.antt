use Rattle.std.proofs.Common.{◌∙◌, ◌+◌, ◌++◌, [], ◌∷◌, refl, sym, subst, take}
use Rattle.git_model.specs.Unfold.{FileRow}
use Rattle.git_model.proofs.SortLemmas.{rises-ascends}
use Rattle.git_object.specs.Values.{AreItems}
use Rattle.tree_shape.proofs.ClashLemmas.{rises-take}
use Rattle.tree_residue.proofs.Takes.{turn-some, turn-none}
use Rattle.tree_residue.proofs.RowsOf.{row_item, residue-rises}
use Rattle.tree_residue.proofs.items.residue_in.Goals as goal
use Rattle.tree_residue.proofs.items.residue_in.Goals.{in-Some+in_ok-push, in_default}

pub push-requires : goal.push-requires
push-requires c =
    let rows = c.args.rows.now in
    let i = c.loop-row.row-index in
    subst AreItems (sym (turn-some row_item [] c.loop-row.residue (c.loop-row.residue ++ c.in-Some.item ∷ []) rows i c.row-item.result c.in-Some.item c.loop-row-test.true c.row-item.is (cc (c.in_ok-item.ensures, c.in-Some.is)) c.loop-row.invariant refl))
    (residue-rises (take (i + 1) rows) (rises-ascends (λ (r : FileRow). r.path) (take (i + 1) rows) (rises-take (i + 1) rows c.requires)))

pub loop-row-preserved : goal.loop-row-preserved
loop-row-preserved c = elim c.match-branch-2.branch [
  | in-Some+in_ok-push w ↦ turn-some row_item [] c.loop-row.residue c.match-branch-2.residue c.args.rows.now c.loop-row.row-index c.row-item.result w.in-Some.item c.loop-row-test.true c.row-item.is
      (cc (c.in_ok-item.ensures, w.in-Some.is)) c.loop-row.invariant (cc (w.residue-is, w.in_ok-push.ensures.ok))
  | in_default w ↦ w.residue-is ∙ turn-none row_item [] c.loop-row.residue c.args.rows.now c.loop-row.row-index c.row-item.result c.loop-row-test.true c.row-item.is
      (cc (c.in_ok-item.ensures, w.in_default.is)) c.loop-row.invariant
]
