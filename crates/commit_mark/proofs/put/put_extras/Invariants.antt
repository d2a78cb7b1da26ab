use Rattle.std.proofs.Common.{◌≡◌, ◌++◌, take, map}
use Rattle.pair_model.specs.MarkList.{OneExtra}
use Rattle.commit_mark.proofs.put.put_extras.Given as goal

-- the marks of the items so far are there
abbrev pub invariant-loop-place : goal.invariant-loop-place
invariant-loop-place l = l.marks ≡ l.fn.marks ++ map OneExtra (take l.place l.extras)
