use Rattle.std.proofs.Common.{subst}
use Rattle.text_model.specs.Lists.{Each}
use Rattle.git_dump.specs.Walks.{IsMetEntry}
use Rattle.git_dump.proofs.walk.next_beside.Goals as goal

pub returns-then-is_of_same : goal.returns-then-is_of_same
returns-then-is_of_same c = λ met all. subst (Each (IsMetEntry met)) c.in-Some.ensures.cases.0 (c.passed.invariant met all)

pub returns-then-not-is_below : goal.returns-then-not-is_below
returns-then-not-is_below c = λ met all.
    let left = c.passed.invariant met all in
    ((subst (Each (IsMetEntry met)) c.in-Some.ensures.cases.0 left).0, left)

pub passed-preserved : goal.passed-preserved
passed-preserved c = λ met all. (subst (Each (IsMetEntry met)) c.in-Some.ensures.cases.0 (c.passed.invariant met all)).1

pub returns : goal.returns
returns c = λ met all. (tt, c.passed.invariant met all)
