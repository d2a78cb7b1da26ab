use Rattle.std.proofs.Common.{◌≡◌, ◌++◌, length}
use Rattle.std.specs.List.{flat_map}
use Rattle.text_model.specs.Lists.{Each}
use Rattle.state_part.specs.Pairs.{IsPair, pair_line}
use Rattle.state_part.proofs.map.read_map.Given as goal

abbrev pub invariant-lines : goal.invariant-lines
invariant-lines l = record {
  so_far : l.initial.rest ≡ flat_map pair_line l.pairs ++ l.rest;
  ids : Each IsPair l.pairs;
  count : length l.pairs ≡ l.counter;
}
