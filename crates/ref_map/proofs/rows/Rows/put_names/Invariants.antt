use Rattle.std.proofs.Common.{◌≡◌, ◌++◌, map}
use Rattle.std.specs.Io.{StartsWith}
use Rattle.name_model.specs.Reading.{names_text}
use Rattle.ref_map.specs.Entries.{entry_row}
use Rattle.ref_map.proofs.rows.Rows.put_names.Given as goal

-- what is written, and behind it what is left, are the whole
abbrev pub invariant-loop-name : goal.invariant-loop-name
invariant-loop-name g l =
    let t = g.K.Lookup.targets l.known in
    record {
      whole : l.out.items ++ names_text t (map entry_row l.name-iterator) ≡ l.initial.out.items ++ names_text t l.self;
      front : StartsWith l.out.items l.initial.out.items;
    }
