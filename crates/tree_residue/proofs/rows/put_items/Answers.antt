use Rattle.git_model.specs.Residue.{row_of_item}
use Rattle.tree_residue.proofs.Takes.{turn-some, turn-none}
use Rattle.tree_residue.proofs.rows.put_items.Goals as goal
use Rattle.tree_residue.proofs.rows.put_items.Goals.{in-Some+in_ok-push, in_default}

pub loop-item-preserved : goal.loop-item-preserved
loop-item-preserved c = elim c.match-branch-2.branch [
  | in-Some+in_ok-push w ↦ turn-some row_of_item c.args.rows.now.items c.loop-item.rows.items c.match-branch-2.rows.items c.args.items.now c.loop-item.item-index c.item-item.result w.in-Some.row c.loop-item-test.true c.item-item.is
      (cc (c.in_ok-row.ensures, w.in-Some.is)) c.loop-item.invariant (cc (w.rows-is, w.in_ok-push.ensures.items))
  | in_default w ↦ rw w.rows-is (turn-none row_of_item c.args.rows.now.items c.loop-item.rows.items c.args.items.now c.loop-item.item-index c.item-item.result c.loop-item-test.true c.item-item.is
      (cc (c.in_ok-row.ensures, w.in_default.is)) c.loop-item.invariant)
]
