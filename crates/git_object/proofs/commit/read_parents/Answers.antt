use Rattle.git_object.proofs.ParentLemmas.{Followed-more, Followed-shorter}
use Rattle.git_object.proofs.commit.read_parents.Goals as goal

pub parents-smaller : goal.parents-smaller
parents-smaller c = Followed-shorter c.parents.rest.now c.in-Some.line.0 c.in-Some.line.1.now c.in-Some.ensures

pub parents-preserved : goal.parents-preserved
parents-preserved c =
    Followed-more c.args.text.now c.args.parents.now c.parents.parents c.push.new.self c.parents.rest.now c.in-Some.line.0 c.in-Some.line.1.now c.parents.invariant c.in-Some.ensures c.in_ok-push.ensures.ok
