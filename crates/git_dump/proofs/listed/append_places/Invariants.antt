use Rattle.std.proofs.Common.{◌≡◌, ◌++◌}
use Rattle.git_dump.proofs.Between.{text_between, IsOnWay}
use Rattle.git_dump.proofs.listed.append_places.Given as goal

abbrev pub invariant-loop-place : goal.invariant-loop-place
invariant-loop-place l = record {
  way : IsOnWay l.start l.end l.place;
  text : l.out ≡ l.initial.out ++ text_between l.store l.start l.place;
}
