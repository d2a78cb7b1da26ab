-- The limits of this project. Each may be reached and not passed.
use Rattle.std.specs.Prelude.{ℕ, ◌^◌}

-- the bytes of the input of one command
abbrev pub input_limit : ℕ
input_limit = 2 ^ 29

-- the bytes of all texts that the entries of one bundle make
abbrev pub sum_limit : ℕ
sum_limit = 2 ^ 30

-- the bytes of a file text, a manifest, a blob, a tree or an annotated tag
abbrev pub text_limit : ℕ
text_limit = 2 ^ 26

-- the bytes of a changeset's text or of a commit
abbrev pub commit_limit : ℕ
commit_limit = 2 ^ 24

-- the rows of a commit's tree, each counted as the bytes of its path and 42
abbrev pub rows_limit : ℕ
rows_limit = 2 ^ 26

-- the parents of a commit
abbrev pub parent_limit : ℕ
parent_limit = 64

-- the bytes of a path
abbrev pub path_limit : ℕ
path_limit = 4096

-- the components of a path
abbrev pub component_limit : ℕ
component_limit = 256

-- the bytes of an object's line in a stream, its LF among them
abbrev pub line_limit : ℕ
line_limit = 4096
