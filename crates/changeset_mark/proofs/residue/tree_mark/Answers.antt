use Rattle.changeset_mark.proofs.Handed.{mark-none, mark-some}
use Rattle.changeset_mark.proofs.residue.tree_mark.Goals as goal

pub returns-then-branch : goal.returns-then-branch
returns-then-branch c = λ blocks v over.
    mark-none blocks v over.view.rows c.args.c.now.files over.draft.files c.in_ok-old.old (c.in_ok-old.ensures blocks v over)
    c.in_ok-is_handed_on.field-0 c.in_ok-is_handed_on.ensures c.if-branch.true

pub returns : goal.returns
returns c = λ blocks v over.
    mark-some blocks v over.view.rows c.args.c.now.files over.draft.files c.in_ok-old.old (c.in_ok-old.ensures blocks v over)
    c.in_ok-is_handed_on.field-0 c.in_ok-is_handed_on.ensures c.if-branch.false c.in_ok-residue.residue c.in_ok-residue.ensures
