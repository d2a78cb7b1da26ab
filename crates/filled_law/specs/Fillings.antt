-- What the marks of a commit name, and when that is the commit's unmarking.
use Rattle.std.specs.Prelude.{◌≡◌, ◌≤◌, false, List, [], length, Some}
use Rattle.view_model.specs.View.{ChangesetView, IsChangesetView, CommitView, IsCommitView}
use Rattle.pair_model.specs.Block.{Block}
use Rattle.pair_model.specs.User.{message_of}
use Rattle.pair_model.specs.MarkList.{Mark, AreHeadersOf}
use Rattle.pair_model.specs.Octopus.{is_link_view}
use Rattle.pair_model.specs.Rule.{author_by, carried_to}
use Rattle.pair_model.specs.Plain.{IsPlainCommit, changeset_by_rule}
use Rattle.partner_model.specs.Mark.{commit_marks, parents_of_changeset, residue_in}
use Rattle.partner_model.specs.Partner.{AreCommitParentsPaired, UnmarksCommit}
use Rattle.partner_model.specs.Filled.{filled_changeset}

-- an unmarking of a commit is the changeset that the commit's marks name
abbrev pub FilledIsUnmarking : List Block → Type 0
FilledIsUnmarking blocks = (c : CommitView) (h : ChangesetView) (marks : List Mark) → AreHeadersOf (c.value).headers marks → UnmarksCommit blocks c h → filled_changeset blocks c marks ≡ Some h

-- what is to be asked of the changeset that a commit's marks name
pub record IsFilledRight (blocks : List Block) (c : CommitView) (h : ChangesetView) (marks : List Mark) : Type 0 where
  pub filled : filled_changeset blocks c marks ≡ Some h
  pub residue : residue_in c.rows ≡ carried_to blocks h
  pub view : IsChangesetView h
  pub no_link : is_link_view h ≡ false
  pub marks_are : marks ≡ commit_marks (parents_of_changeset blocks h) h
  pub author : (c.value).author ≡ author_by (h.fields).user (h.fields).date
  pub committer : (c.value).committer ≡ (c.value).author
  pub message : (c.value).message ≡ message_of (h.fields).description

-- a commit of two parents at most, each of which has a partner
pub record IsNarrow (blocks : List Block) (c : CommitView) : Type 0 where
  pub view : IsCommitView c
  pub paired : AreCommitParentsPaired blocks c
  pub few : length (c.value).parents ≤ 2

-- the changeset that a commit's marks name is its unmarking, where that holds of it
abbrev pub RightIsUnmarking : List Block → Type 0
RightIsUnmarking blocks = (c : CommitView) (h : ChangesetView) (marks : List Mark) → IsNarrow blocks c → AreHeadersOf (c.value).headers marks → IsFilledRight blocks c h marks → UnmarksCommit blocks c h

-- and so it is, where it is unmarked
abbrev pub UnmarkingIsRight : List Block → Type 0
UnmarkingIsRight blocks = (c : CommitView) (h : ChangesetView) (marks : List Mark) → AreHeadersOf (c.value).headers marks → UnmarksCommit blocks c h → IsNarrow blocks c → IsFilledRight blocks c h marks

-- a plain commit is unmarked to the changeset of the rule, if that is a view; and a commit without headers that has an unmarking is plain
abbrev pub PlainIsUnmarked : List Block → Type 0
PlainIsUnmarked blocks = (c : CommitView) → IsNarrow blocks c → IsPlainCommit blocks c → IsChangesetView (changeset_by_rule blocks c) → UnmarksCommit blocks c (changeset_by_rule blocks c)

abbrev pub UnmarkedIsPlain : List Block → Type 0
UnmarkedIsPlain blocks = (c : CommitView) (h : ChangesetView) → (c.value).headers ≡ [] → UnmarksCommit blocks c h → IsPlainCommit blocks c
