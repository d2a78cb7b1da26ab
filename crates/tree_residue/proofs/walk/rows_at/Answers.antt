use Rattle.std.proofs.Common.{sym}
use Rattle.tree_residue.proofs.Visits.{items-some, items-none, items-distinct}
use Rattle.tree_residue.proofs.walk.rows_at.Goals as goal
use Rattle.tree_residue.proofs.walk.rows_at.Goals.{in-Some+in_ok-visit_tree, in_default}

pub returns-clause-rows : goal.returns-clause-rows
returns-clause-rows g c =
    let known = g.G.Objects.objects c.args.store.now in
    elim c.match-tree.branch [
      | in-Some+in_ok-visit_tree w ↦ rw w.rows-is (items-some known c.args.root.now w.in-Some.tree.now w.new-path.result.items c.new-rows.result.items w.visit_tree.new.rows.items (sym w.in-Some.ensures.tree) w.new-path.ensures.items c.new-rows.ensures.items w.in_ok-visit_tree.ensures.rows)
      | in_default w ↦ rw w.rows-is (items-none known c.args.root.now c.new-rows.result.items (sym w.in_default.ensures.tree) c.new-rows.ensures.items)
    ]

pub returns-clause-apart : goal.returns-clause-apart
returns-clause-apart g c =
    let known = g.G.Objects.objects c.args.store.now in
    items-distinct known c.args.root.now c.match-tree.rows.items c.tree.ensures.objects (elim c.match-tree.branch [
      | in-Some+in_ok-visit_tree w ↦ rw w.rows-is (items-some known c.args.root.now w.in-Some.tree.now w.new-path.result.items c.new-rows.result.items w.visit_tree.new.rows.items (sym w.in-Some.ensures.tree) w.new-path.ensures.items c.new-rows.ensures.items w.in_ok-visit_tree.ensures.rows)
      | in_default w ↦ rw w.rows-is (items-none known c.args.root.now c.new-rows.result.items (sym w.in_default.ensures.tree) c.new-rows.ensures.items)
    ])
