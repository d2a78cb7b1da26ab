use Rattle.std.proofs.Common.{◌≡◌, ◌++◌, map}
use Rattle.std.specs.Io.{StartsWith}
use Rattle.state_model.specs.Text.{refs_text}
use Rattle.ref_map.specs.Entries.{entry_row}
use Rattle.ref_map.proofs.rows.Rows.put_refs.Given as goal

-- what is written, and behind it what is left, are the whole
abbrev pub invariant-loop-name : goal.invariant-loop-name
invariant-loop-name l = record {
  whole : l.out.items ++ refs_text (map entry_row l.name-iterator) ≡ l.initial.out.items ++ refs_text l.self;
  front : StartsWith l.out.items l.initial.out.items;
}
