-- The numbers of entries, one put to the others.
use Rattle.std.specs.Prelude.{◌≤◌, ◌+◌, ◌*◌, ◌==◌, ℕ, max, if◌then◌else◌}
use Rattle.text_model.specs.Limits.{rows_limit, path_limit}
use Rattle.tree_sum.specs.declared.sum.Sum.{Sum}

-- where nothing stands below
abbrev pub none_below : Sum
none_below = record { rows = 0; size = 0; longest = 0; deepest = 0 }

-- a row with a name of so many bytes
abbrev pub row_named : ℕ → Sum
row_named len = record { rows = 1; size = len + 42; longest = len + 1; deepest = 1 }

-- a directory with a name of so many bytes, below which this stands: the name and a slash come before the path of each row
abbrev pub directory_named : ℕ → Sum → Sum
directory_named len s = record { rows = s.rows; size = s.size + s.rows * (len + 1); longest = s.longest + len + 1; deepest = s.deepest + 1 }

-- an entry with a name of so many bytes, below which this stands
abbrev pub under : ℕ → Sum → Sum
under len s = if s.longest == 0 then row_named len else directory_named len s

-- entries and others
abbrev pub both : Sum → Sum → Sum
both s t = record { rows = s.rows + t.rows; size = s.size + t.size; longest = max s.longest t.longest; deepest = max s.deepest t.deepest }

-- The numbers are within the limits, where so many levels of names may stand. Each row has a size.
pub record IsWithin (levels : ℕ) (s : Sum) : Type 0 where
  pub counted : s.rows ≤ s.size
  pub size : s.size ≤ rows_limit
  pub longest : s.longest ≤ path_limit + 1
  pub deepest : s.deepest ≤ levels
