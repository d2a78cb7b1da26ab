-- A saved state: the history, the kept tags and the names. All of it is this project's own.
use Rattle.std.specs.Prelude.{Bool, List, [], map}
use Rattle.text_model.specs.Text.{Bytes}
use Rattle.text_model.specs.Id.{Id, tag, same_kind}
use Rattle.git_model.specs.Object.{Object}
use Rattle.view_model.specs.View.{ChangesetView, CommitView}
use Rattle.view_model.specs.Dump.{hg_increment, git_increment, revisions_in}
use Rattle.pair_model.specs.Block.{Block}

-- a ref name and the commit or tag that it names
pub record NameRow : Type 0 where
  pub id : Id
  pub name : Bytes

pub record State : Type 0 where
  pub blocks : List Block
  pub tags : List Object
  pub names : List NameRow

-- what the pulls make of a state: its history and its tags, without the names
pub record Kept : Type 0 where
  pub blocks : List Block
  pub tags : List Object

abbrev pub kept_of : State → Kept
kept_of s = record { blocks = s.blocks; tags = s.tags }

-- the state with these blocks and tags in place of its own
abbrev pub with_kept : State → Kept → State
with_kept s k = record { blocks = k.blocks; tags = k.tags; names = s.names }

abbrev pub empty_state : State
empty_state = record { blocks = []; tags = []; names = [] }

-- the bundle of a whole history: the base of an entry is the text of an earlier one, or empty
abbrev pub hg_dump : List ChangesetView → Bytes
hg_dump changesets = hg_increment (revisions_in changesets) [] changesets

-- the stream of a whole history without tags
abbrev pub git_dump : List CommitView → Bytes
git_dump commits = git_increment [] commits

abbrev pub is_tag : Object → Bool
is_tag o = same_kind o.kind tag

abbrev pub ids_of : List Object → List Id
ids_of objects = map (λ o. o.id) objects
