use Rattle.std.proofs.Common.{◌==◌, length, false, ap, ◌∙◌}
use Rattle.git_model.specs.Commit.{Commit}
use Rattle.make_engine.proofs.MarkedLemmas.{marked-at, no-commit}
use Rattle.make_engine.proofs.lines.is_marked.Goals as goal

pub returns-in-Some : goal.returns-in-Some
returns-in-Some c =
    marked-at c.args.git.now c.args.id.now c.in-Some.found.now c.is_empty.result c.in-Some.ensures.commit
    (c.is_empty.ensures ∙ ap (λ (x : Commit). length x.headers == 0) c.found.view_is)

pub returns-in-None : goal.returns-in-None
returns-in-None c = no-commit c.args.git.now c.args.id.now false c.in-None.ensures.commit
