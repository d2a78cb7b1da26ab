use Rattle.std.proofs.Common.{List}
use Rattle.text_model.specs.Lists.{Each}
use Rattle.text_model.specs.Id.{Id}
use Rattle.git_dump.specs.Walks.{IsMetEntry}
use Rattle.git_dump.proofs.walk.next_beside.Given as goal

-- where all were met, those that are left were
abbrev pub invariant-passed : goal.invariant-passed
invariant-passed l = (met : List Id) → Each (IsMetEntry met) l.others → Each (IsMetEntry met) l.ahead
