-- What drafts of commits stand for, where a store holds what they don't bring themselves.
use Rattle.std.specs.Prelude.{◌≡◌, List, ◌++◌, map}
use Rattle.text_model.specs.Lists.{Each}
use Rattle.git_model.specs.Object.{Object}
use Rattle.view_model.specs.View.{CommitView}
use Rattle.view_model.specs.Held.{IsRowHeld, file_row_of}
use Rattle.pair_known.specs.declared.git_draft.GitDraft.{GitDraft}

-- the commit has these fields and these rows; the content of each file is that of a blob that the draft brings, or else is held
pub record IsGitDraft (known : List Object) (d : GitDraft) (c : CommitView) : Type 0 where
  pub value : c.value ≡ d.commit
  pub files : d.files ≡ map file_row_of c.rows
  pub blobs : Each (IsRowHeld (d.fresh ++ known)) c.rows
