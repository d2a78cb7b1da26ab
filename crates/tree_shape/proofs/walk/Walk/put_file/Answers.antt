use Rattle.std.proofs.Common.{true, ◌≡◌, ◌∙◌}
use Rattle.std.proofs.lemmas.Result.{on_ok_weaker, IfErr-weaker}
use Rattle.git_model.specs.Unfold.{is_object_there}
use Rattle.tree_shape.specs.Walks.{row_at}
use Rattle.tree_shape.proofs.VisitLemmas.{file-there, row-file, met, met-over}
use Rattle.tree_shape.proofs.walk.Walk.put_file.Goals as goal

pub returns-clause-ok : goal.returns-clause-ok
returns-clause-ok g c =
    let known = g.G.Objects.objects c.args.store.now in
    let v = row_at c.args.self.now.path.items c.args.entry.now in
    let held : is_object_there known v ≡ true = file-there known v c.has_object.result c.requires.file c.has_object.ensures ∙ (cc (c.if-not-has_object.false)) in
    on_ok_weaker c.put_row.result (λ h. met known c.args.self.now.size c.put_row.new.self.size c.args.self.now.rows.items c.put_row.new.self.rows.items v c.requires.fit held (row-file known v c.requires.file) h) c.put_row.ensures.ok

pub returns-clause-fault : goal.returns-clause-fault
returns-clause-fault g c =
    let known = g.G.Objects.objects c.args.store.now in
    let v = row_at c.args.self.now.path.items c.args.entry.now in
    let held : is_object_there known v ≡ true = file-there known v c.has_object.result c.requires.file c.has_object.ensures ∙ (cc (c.if-not-has_object.false)) in
    IfErr-weaker c.put_row.result _ _ (λ err h. met-over known c.args.self.now.size v err c.requires.fit held (row-file known v c.requires.file) h) c.put_row.ensures.fault
