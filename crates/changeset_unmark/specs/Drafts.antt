-- The draft of a commit that an unmarking gives.
use Rattle.std.specs.Prelude.{◌≡◌, false, List, ◌++◌, map, IsTrue}
use Rattle.text_model.specs.Lists.{Each, In, SomeOf}
use Rattle.git_model.specs.Object.{Object, knows_object}
use Rattle.git_model.specs.Shape.{trees_of}
use Rattle.view_model.specs.View.{CommitView, IsCommitView, files_among}
use Rattle.view_model.specs.Held.{file_row_of}
use Rattle.pair_known.specs.declared.git_draft.GitDraft.{GitDraft}
use Rattle.pair_known.specs.Ruled.{blob_of_row}

-- The draft has the fields and the rows of the commit, and a blob for each id of a file that isn't known. Of the trees of the rows it has
-- those that aren't stored, and perhaps others. It is all of a made commit but that each body is within the limit of a text.
pub record IsBuiltCommit (known : List Object) (d : GitDraft) (c : CommitView) : Type 0 where
  pub value : c.value ≡ d.commit
  pub files : d.files ≡ map file_row_of c.rows
  pub trees_are : Each (λ o. In o (trees_of d.files)) d.trees
  pub trees_held : Each (λ o. In o (d.trees ++ known)) (trees_of d.files)
  pub blobs : Each (λ o. SomeOf (files_among c.rows) (λ row. o ≡ blob_of_row row)) d.fresh
  pub are_new : Each (λ o. knows_object known o.id ≡ false) d.fresh
  pub all : Each (λ row. IsTrue (knows_object (d.fresh ++ known) row.id)) (files_among c.rows)
  pub view : IsCommitView c
