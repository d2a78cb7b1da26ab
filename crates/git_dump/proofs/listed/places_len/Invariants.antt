use Rattle.std.proofs.Common.{◌≡◌, ◌-◌, ◌^◌, length, min}
use Rattle.git_dump.proofs.Between.{text_between, IsOnWay}
use Rattle.git_dump.proofs.listed.places_len.Given as goal

abbrev pub invariant-loop-place : goal.invariant-loop-place
invariant-loop-place l = record {
  way : IsOnWay l.start l.end l.place;
  len : l.len ≡ min (length (text_between l.store l.start l.place)) (2 ^ 64 - 1);
}
