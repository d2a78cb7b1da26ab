-- The changeset that the marks of a commit name, as a draft.
use Rattle.std.specs.Prelude.{◌≡◌, ◌==◌, true, false, List, [], ◌∷◌, Option, Some, MatchOption}
use Rattle.std.specs.List.{ends_with}
use Rattle.text_model.specs.Text.{lf}
use Rattle.hg_model.specs.Changeset.{Changeset}
use Rattle.hg_model.specs.Revision.{Revision}
use Rattle.git_model.specs.Commit.{Commit}
use Rattle.view_model.specs.View.{ChangesetView, IsChangesetView, CommitView}
use Rattle.pair_model.specs.Block.{Block}
use Rattle.pair_model.specs.MarkList.{Mark, marks_text}
use Rattle.pair_model.specs.Octopus.{is_link_view}
use Rattle.pair_model.specs.Rule.{author_by}
use Rattle.partner_model.specs.Mark.{commit_marks, parents_of_changeset}
use Rattle.partner_model.specs.Filled.{filled_changeset}
use Rattle.partner_model.specs.Partner.{UnmarksCommit}
use Rattle.pair_known.specs.Ruled.{IsMadeChangeset}
use Rattle.plain_rule.specs.CommitHead.{IsHandedOn}
use Rattle.pair_known.specs.declared.hg_draft.HgDraft.{HgDraft}

-- the marks name no changeset that is a right one
abbrev pub NamesNoChangeset : List Block → CommitView → List Mark → Type 0
NamesNoChangeset blocks c marks = (h : ChangesetView) → filled_changeset blocks c marks ≡ Some h → IsChangesetView h → ⊥

-- they name one, and the draft is its
abbrev pub NamesChangeset : List Revision → List Block → CommitView → List Mark → HgDraft → Type 0
NamesChangeset known blocks c marks d = (h : ChangesetView) × (filled_changeset blocks c marks ≡ Some h) × IsChangesetView h × IsMadeChangeset known d h

-- the draft of the unmarking, or none where there is none
abbrev pub IsAnswer : List Revision → List Block → CommitView → Option HgDraft → Type 0
IsAnswer known blocks c found = MatchOption found ((h : ChangesetView) → ¬ (UnmarksCommit blocks c h)) (λ d. (h : ChangesetView) × UnmarksCommit blocks c h × IsMadeChangeset known d h)

-- one line for author and committer, which is that of the changeset's user and date, and an LF at the message's end
pub record HasHead (c : Commit) (x : Changeset) : Type 0 where
  pub committer : c.committer ≡ c.author
  pub author : author_by x.user x.date ≡ c.author
  pub message : ends_with ◌==◌ c.message (lf ∷ []) ≡ true

-- what the tests tell of a changeset that a commit's marks name
pub record IsRight (blocks : List Block) (c : CommitView) (h : ChangesetView) : Type 0 where
  pub no_link : is_link_view h ≡ false
  pub head : HasHead c.value h.fields
  pub residue : IsHandedOn blocks c
  pub headers : marks_text (commit_marks (parents_of_changeset blocks h) h) ≡ (c.value).headers
