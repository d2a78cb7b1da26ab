use Rattle.std.proofs.Common.{Some, None, arith, sym, ◌∙◌}
use Rattle.mark_code.proofs.ExtrasLemmas.{tree-more, tree-other, tree-read}
use Rattle.mark_code.proofs.changeset_marks.tree_at.Goals as goal

pub returns-then-place-len-2 : goal.returns-then-place-len-2
returns-then-place-len-2 c = tree-more c.args.extras.now c.args.place c.at-item.result.now (omega arith) c.at-item.ensures

pub returns-then-ne : goal.returns-then-ne
returns-then-ne c =
    tree-other c.args.extras.now c.args.place c.at-item.result.now c.item.inside.key c.item.inside.value (omega arith) c.at-item.ensures c.item.view_is
    (omega arith) c.as_slice.result.now c.as_slice.ensures c.if-ne.ensures

pub returns-in-Some : goal.returns-in-Some
returns-in-Some c =
    tree-read c.args.extras.now c.args.place c.at-item.result.now c.item.inside.key c.item.inside.value (omega arith) c.at-item.ensures c.item.view_is
    (omega arith) c.as_slice.result.now c.as_slice-2.result.now (Some c.in-Some.tree) c.as_slice.ensures c.if-ne.ensures c.as_slice-2.ensures (sym c.in-Some.is ∙ c.in_ok-tree.ensures)

pub returns-in-None : goal.returns-in-None
returns-in-None c =
    tree-read c.args.extras.now c.args.place c.at-item.result.now c.item.inside.key c.item.inside.value (omega arith) c.at-item.ensures c.item.view_is
    (omega arith) c.as_slice.result.now c.as_slice-2.result.now None c.as_slice.ensures c.if-ne.ensures c.as_slice-2.ensures (sym c.in-None.is ∙ c.in_ok-tree.ensures)
