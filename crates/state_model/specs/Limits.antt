-- The limits of a saved state. Each may be reached and not passed.
use Rattle.std.specs.Prelude.{ℕ, ◌^◌, ◌-◌}

-- the bytes of the bundle of all changesets, and those of the stream of all commits and kept tags: either may be the input of one command
abbrev pub dump_limit : ℕ
dump_limit = 2 ^ 29

-- the changesets, links among them
abbrev pub changeset_limit : ℕ
changeset_limit = 1000000

-- the links of a block
abbrev pub link_limit : ℕ
link_limit = 62

-- the bytes of a state's text
abbrev pub slot_limit : ℕ
slot_limit = 2 ^ 31 - 1

-- the names, and so the lines of a text that sets them
abbrev pub name_limit : ℕ
name_limit = 100000

-- the bytes of a ref's name
abbrev pub ref_limit : ℕ
ref_limit = 4096
