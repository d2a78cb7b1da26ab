use Rattle.std.proofs.Common.{true, false, ◌≡◌}
use Rattle.std.proofs.lemmas.Result.{on_ok_weaker, IfErr-weaker}
use Rattle.git_model.specs.Unfold.{is_row, is_object_there}
use Rattle.tree_shape.specs.Walks.{row_at}
use Rattle.tree_shape.proofs.VisitLemmas.{dir-there, met, met-over, entered, empty-dir, full-dir}
use Rattle.tree_shape.proofs.walk.Walk.enter.Goals as goal

pub returns-then-is_empty-clause-ok : goal.returns-then-is_empty-clause-ok
returns-then-is_empty-clause-ok g c =
    let known = g.G.Objects.objects c.args._store.now in
    let v = row_at c.args.self.now.path.items c.args.entry.now in
    let row : is_row known v ≡ true = empty-dir known v c.args.subtree.now c.is_empty.result c.is_empty.ensures c.if-is_empty.true c.requires.directory c.requires.subtree in
    let held : is_object_there known v ≡ true = dir-there known v c.args.subtree.now c.requires.directory c.requires.subtree in
    on_ok_weaker c.put_row.result (λ h. met known c.args.self.now.size c.put_row.new.self.size c.args.self.now.rows.items c.put_row.new.self.rows.items v c.requires.fit held row h) c.put_row.ensures.ok

pub returns-then-is_empty-clause-fault : goal.returns-then-is_empty-clause-fault
returns-then-is_empty-clause-fault g c =
    let known = g.G.Objects.objects c.args._store.now in
    let v = row_at c.args.self.now.path.items c.args.entry.now in
    let row : is_row known v ≡ true = empty-dir known v c.args.subtree.now c.is_empty.result c.is_empty.ensures c.if-is_empty.true c.requires.directory c.requires.subtree in
    let held : is_object_there known v ≡ true = dir-there known v c.args.subtree.now c.requires.directory c.requires.subtree in
    IfErr-weaker c.put_row.result _ _ (λ err h. met-over known c.args.self.now.size v err c.requires.fit held row h) c.put_row.ensures.fault

pub returns-else-is_empty-clause-ok : goal.returns-else-is_empty-clause-ok
returns-else-is_empty-clause-ok g c =
    let known = g.G.Objects.objects c.args._store.now in
    let v = row_at c.args.self.now.path.items c.args.entry.now in
    let row : is_row known v ≡ false = full-dir known v c.args.subtree.now c.is_empty.result c.is_empty.ensures c.if-is_empty.false c.requires.directory c.requires.subtree in
    let held : is_object_there known v ≡ true = dir-there known v c.args.subtree.now c.requires.directory c.requires.subtree in
    entered known c.args.self.now.size c.args.self.now.rows.items v c.requires.within c.requires.fit held row
