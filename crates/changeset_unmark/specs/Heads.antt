-- The fields of the commit that the marks of a changeset name, and what of the changeset comes back from them.
use Rattle.std.specs.Prelude.{◌≡◌, List, [], unwrap_or, Option, ℤ}
use Rattle.text_model.specs.Text.{Bytes}
use Rattle.text_model.specs.Id.{Id}
use Rattle.hg_model.specs.Changeset.{Changeset, DateLine, Plain, Raw}
use Rattle.git_model.specs.Commit.{Commit, IsCommit}
use Rattle.pair_model.specs.MarkList.{ChangesetMarks, extras_of, AreChangesetMarks}
use Rattle.pair_model.specs.User.{UserDate, user_of_line, message_of, description_of}
use Rattle.pair_model.specs.Rule.{author_by}
use Rattle.partner_model.specs.Mark.{part_unless}

-- the date line has no extras but those of the marks
abbrev pub IsDateOf : DateLine → ChangesetMarks → Type 0
IsDateOf date m = (time : ℤ) × (tz : ℤ) × (date ≡ Plain time tz (extras_of m)) × AreChangesetMarks m

-- the author's line by its mark, or of the user and the date
abbrev pub author_named : Changeset → ChangesetMarks → Bytes
author_named x m = unwrap_or m.author (author_by x.user x.date)

-- the fields of the commit with this tree and these parents
abbrev pub head_named : Id → List Id → Changeset → ChangesetMarks → Commit
head_named root parents x m = record {
  tree_id = root;
  parents = parents;
  author = author_named x m;
  committer = unwrap_or m.committer (author_named x m);
  headers = unwrap_or m.headers [];
  message = unwrap_or m.message (message_of x.description);
}

-- the part that the mark names has this mark, where the rule gives the other one
abbrev pub IsNeeded : Option Bytes → Bytes → Type 0
IsNeeded mark given = part_unless (unwrap_or mark given) given ≡ mark

-- the time and the time zone are those of the date line
abbrev pub HasDate : UserDate → DateLine → Type 0
HasDate given (Plain time tz extras) = (given.time ≡ time) × (given.tz ≡ tz)
HasDate given (Raw text) = ⊥

-- user, date and description come back from these fields
pub record ComesBack (x : Changeset) (c : Commit) : Type 0 where
  pub user : (user_of_line c.author).user ≡ x.user
  pub date : HasDate (user_of_line c.author) x.date
  pub description : description_of c.message ≡ x.description

-- each mark of the fields is needed
pub record AreHeadsNeeded (x : Changeset) (m : ChangesetMarks) : Type 0 where
  pub author : IsNeeded m.author (author_by x.user x.date)
  pub committer : IsNeeded m.committer (author_named x m)
  pub headers : IsNeeded m.headers []
  pub message : IsNeeded m.message (message_of x.description)

-- the marks name the fields of a commit, from which those of the changeset come back with the same marks
pub record IsHead (root : Id) (parents : List Id) (x : Changeset) (m : ChangesetMarks) : Type 0 where
  pub needed : AreHeadsNeeded x m
  pub back : ComesBack x (head_named root parents x m)
  pub commit : IsCommit (head_named root parents x m)
