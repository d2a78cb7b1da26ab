-- What the text of a saved history says of its changesets, its commits and its tags, as far as its dumps and their blocks ask it.
use Rattle.std.specs.Prelude.{◌≡◌, false, List, [], ◌++◌}
use Rattle.text_model.specs.Lists.{Each, In}
use Rattle.text_model.specs.Id.{is_null, blob}
use Rattle.hg_model.specs.Revision.{Revision, known_after_all}
use Rattle.git_model.specs.Object.{Object}
use Rattle.view_model.specs.View.{IsChangesetView, ChangesetFits, TreeRow, IsCommitView, files_among, commit_objects}
use Rattle.view_model.specs.Dump.{revisions_in, objects_in}
use Rattle.pair_model.specs.Block.{Block, changesets_in, commits_in}
use Rattle.partner_model.specs.Partner.{IsHeldView}
use Rattle.state_model.specs.Kept.{Kept}
use Rattle.state_model.specs.Saved.{AreBlocks, has_otherwise, has_other_content}
use Rattle.saved_model.specs.Step.{known_of, dump_revisions}
use Rattle.frame_law.specs.Ground.{IsGround}

-- the revisions that are known once the bundle of these blocks is read
abbrev pub known_dumped : List Block → List Revision
known_dumped blocks = known_after_all [] (dump_revisions (changesets_in blocks))

-- the revisions that are known once a stream has brought these blocks, one behind another
abbrev pub known_brought : List Block → List Revision
known_brought blocks = known_after_all [] (revisions_in (changesets_in blocks))

-- the first blocks, as many as they are, are the history of what they refer to
abbrev pub AreGrounds : List Block → Type 0
AreGrounds blocks = (before after : List Block) → blocks ≡ before ++ after → IsGround before (IsHeldView (known_brought before))

-- The changesets and commits are views, links by their form, within the limits; each revision has one text and one pair of parents, and none is null;
-- each object has one content, and is known where the history is saved.
pub record AreShaped (k : Kept) : Type 0 where
  pub links : AreBlocks k.blocks
  pub changesets : Each IsChangesetView (changesets_in k.blocks)
  pub fits : Each ChangesetFits (changesets_in k.blocks)
  pub commits : Each (λ b. IsCommitView b.commit) k.blocks
  pub ground : IsGround k.blocks (IsHeldView (known_of k).revisions)
  pub grounds : AreGrounds k.blocks
  pub one_revision : has_otherwise (revisions_in (changesets_in k.blocks)) ≡ false
  pub one_object : has_other_content (objects_in (commits_in k.blocks)) ≡ false
  pub real : Each (λ r. is_null r.node ≡ false) (revisions_in (changesets_in k.blocks))
  pub objects : Each (λ o. In o (known_of k).objects) (objects_in (commits_in k.blocks))

-- the blob of a row that is a file
abbrev pub blob_of : TreeRow → Object
blob_of row = record { id = row.id; kind = blob; content = row.content }

-- the blobs of the files are among the objects, commit by commit
abbrev pub AreBlobsWritten : List Block → Type 0
AreBlobsWritten blocks = Each (λ b. Each (λ row. In (blob_of row) (commit_objects b.commit)) (files_among (b.commit).rows)) blocks
