use Rattle.std.proofs.Common.{◌≡◌, ◌+◌, ◌-◌, ◌++◌, map, drop, length}
use Rattle.std.specs.Prelude.{option_map}
use Rattle.path_law.proofs.Order.{IsUp}
use Rattle.manifest_rule.specs.Listed.{entry_of_value, entries_or_none}
use Rattle.manifest_rule.proofs.MergeLemmas.{entry_paths, listed_among}
use Rattle.manifest_rule.proofs.files.files_listed.Given as goal

-- the paths so far and those to come are all that are listed
abbrev pub invariant-paths : goal.invariant-paths
invariant-paths l =
    let es = map entry_of_value l.rows in
    let fs = entries_or_none (option_map (λ m. m.now) l.first) in
    let gs = entries_or_none (option_map (λ m. m.now) l.second) in
    IsUp (entry_paths es) → l.paths ++ listed_among (l.there).first (l.there).second (drop l.place es) (drop l.in_first fs) (drop l.in_second gs) ≡ listed_among (l.there).first (l.there).second es fs gs

abbrev pub decreases-paths : goal.decreases-paths
decreases-paths l =
    (length l.rows - l.place) + (length (entries_or_none (option_map (λ m. m.now) l.first)) - l.in_first) + (length (entries_or_none (option_map (λ m. m.now) l.second)) - l.in_second)
