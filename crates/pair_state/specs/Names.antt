-- A state with other names.
use Rattle.std.specs.Prelude.{List}
use Rattle.state_model.specs.Kept.{NameRow}
use Rattle.pair_state.specs.declared.state_parts.StateParts.{StateParts}

-- the state with these names in place of its own
abbrev pub with_names : StateParts → List NameRow → StateParts
with_names s names = record {
  known = s.known;
  blocks = s.blocks;
  changesets = s.changesets;
  commits = s.commits;
  tags = s.tags;
  names = names;
  agreed = s.agreed;
  alloc = s.alloc;
}
