use Rattle.std.proofs.Common.{◌≡◌, ◌++◌, take}
use Rattle.pull_engine.proofs.tags.put_behind.Given as goal

-- the ids so far stand behind the others
abbrev pub invariant-loop-id : goal.invariant-loop-id
invariant-loop-id l = l.list ≡ l.fn.list ++ take l.id-index l.more
