-- How the dumps of a saved history arrive where nothing is known. Their texts are well-shaped, so no byte of them is refused.
use Rattle.std.specs.Prelude.{◌≡◌, false, None, Ok, List, [], ◌++◌, map, filter}
use Rattle.text_model.specs.Lists.{Each, In}
use Rattle.text_model.specs.Id.{null}
use Rattle.hg_model.specs.Revision.{Revision, Manifests, revision_of}
use Rattle.hg_model.specs.Reading.{Arrival, bundle_reading}
use Rattle.git_model.specs.Object.{Object, objects_after_all}
use Rattle.git_model.specs.Order.{Ancestry}
use Rattle.git_model.specs.Stream.{Placed, stream_text, stream_reading}
use Rattle.git_model.specs.Unfold.{walk_fault}
use Rattle.view_model.specs.View.{changeset_node}
use Rattle.view_model.specs.Held.{IsCommitHeld}
use Rattle.view_model.specs.Dump.{revisions_in}
use Rattle.pair_model.specs.Block.{Block, id_of, changesets_in, commits_in}
use Rattle.history_model.specs.Pull.{revisions_among, changesets_among, objects_among, ancestries}
use Rattle.state_model.specs.Kept.{Kept, hg_dump, git_dump, is_tag}
use Rattle.state_model.specs.Saved.{AreTagsSaved, passes_limit}
use Rattle.saved_model.specs.Step.{dump_revisions, dump_objects}
use Rattle.closure_model.specs.Shaped.{AreShaped, AreBlobsWritten, known_dumped}

-- The bundle brings the revisions in its order, the changesets among them in theirs, and each of them belongs to a changeset. No manifest has the null
-- node.
pub record BundleArrives (blocks : List Block) : Type 0 where
  pub arrivals : List Arrival
  pub reads : bundle_reading [] (hg_dump (changesets_in blocks)) ≡ Ok arrivals
  pub revisions : revisions_among arrivals ≡ dump_revisions (changesets_in blocks)
  pub nodes : map (λ (r : Revision). r.node) (revisions_among (changesets_among arrivals)) ≡ map changeset_node (changesets_in blocks)
  pub among : Each (λ a. In a.revision (revisions_in (changesets_in blocks))) arrivals
  pub no_null : revision_of (known_dumped blocks) Manifests null ≡ None

-- the commits are known, and the walk through each tree passes
pub record AreCommitsRead (objects : List Object) (blocks : List Block) : Type 0 where
  pub held : Each (λ b. IsCommitHeld objects (id_of b) b.commit) blocks
  pub walks : Each (λ b. walk_fault objects ((b.commit).value).tree_id ≡ None) blocks

-- the commit of a block with its parents
abbrev pub ancestry_of_block : Block → Ancestry
ancestry_of_block b = record { id = id_of b; parents = ((b.commit).value).parents }

-- The stream brings the objects in its order, the commits among them in theirs, and then the tags; each commit is known then, and its tree can be walked.
pub record StreamArrives (blocks : List Block) (tags : List Object) : Type 0 where
  pub came : List Placed
  pub reads : stream_reading [] (git_dump (commits_in blocks) ++ stream_text tags) ≡ Ok came
  pub objects : objects_among came ≡ dump_objects (commits_in blocks) ++ tags
  pub commits : ancestries came ≡ map ancestry_of_block blocks
  pub read : AreCommitsRead (objects_after_all [] (objects_among came)) blocks
  pub tags_are : filter is_tag (objects_among came) ≡ tags

-- what the shape of a state's text gives of both dumps. Nothing of it speaks of partners.
pub record IsReadAgain (k : Kept) : Type 0 where
  pub shaped : AreShaped k
  pub blobs : AreBlobsWritten k.blocks
  pub tags : AreTagsSaved (commits_in k.blocks) k.tags
  pub small : passes_limit k ≡ false
  pub bundle : BundleArrives k.blocks
  pub stream : StreamArrives k.blocks k.tags
