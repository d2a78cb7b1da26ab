-- What of a commit comes back from its changeset.
use Rattle.std.specs.Prelude.{◌≡◌, ◌≤◌, ◌==◌, true, List, [], ◌∷◌, length, map}
use Rattle.std.specs.List.{ends_with}
use Rattle.text_model.specs.Text.{Bytes, lf}
use Rattle.text_model.specs.Id.{Id}
use Rattle.git_model.specs.Commit.{Commit}
use Rattle.git_model.specs.Residue.{ResidueItem, residue_of, carried, plain_files}
use Rattle.view_model.specs.View.{CommitView}
use Rattle.view_model.specs.Held.{file_row_of}
use Rattle.pair_model.specs.Block.{Block}
use Rattle.pair_model.specs.Octopus.{partners_of_parents, first_of}
use Rattle.pair_model.specs.Rule.{old_residue}
use Rattle.pair_model.specs.User.{line_of_user, user_of_line}

-- the author's line of the user and the date that a line has
abbrev pub line_again : Bytes → Bytes
line_again line = line_of_user (user_of_line line).user (user_of_line line).time (user_of_line line).tz

-- two parents at most, no headers, one line for author and committer, which comes back from its user and its date, and an LF at the message's end
pub record IsPlainHead (c : Commit) : Type 0 where
  pub few : length c.parents ≤ 2
  pub headers : c.headers ≡ []
  pub committer : c.committer ≡ c.author
  pub author : line_again c.author ≡ c.author
  pub message : ends_with ◌==◌ c.message (lf ∷ []) ≡ true

-- the partner of the first parent, null without one
abbrev pub first_partner : List Block → CommitView → Id
first_partner blocks c = first_of (partners_of_parents blocks c)

-- what the commit of the first parent hands on to the files that a changeset has of the tree
abbrev pub handed_to : List Block → CommitView → List ResidueItem
handed_to blocks c = carried (old_residue blocks (first_partner blocks c)) (plain_files (map file_row_of c.rows))

-- the tree has that beside these files
abbrev pub IsHandedOn : List Block → CommitView → Type 0
IsHandedOn blocks c = residue_of (map file_row_of c.rows) ≡ handed_to blocks c
