-- In a right history no two bodies have one blob id: each is the content of an object of its commits, and an id has one content.
use Rattle.std.proofs.Common.{◌≡◌, false, List, []}
use Rattle.text_model.specs.Lists.{Each, In}
use Rattle.text_model.proofs.Elements.{each_from, each_in, in_map}
use Rattle.hg_model.specs.Revision.{Revision}
use Rattle.git_model.specs.Object.{Object}
use Rattle.view_model.specs.View.{IsCommitView, commit_objects, files_among}
use Rattle.view_model.specs.Dump.{objects_in}
use Rattle.pair_model.specs.Block.{Block, changesets_in, commits_in}
use Rattle.partner_model.specs.Table.{AreBlobsApart}
use Rattle.state_model.specs.Saved.{has_other_content}
use Rattle.unmark_law.proofs.ChangesetOne.{file_rows}
use Rattle.dump_law.proofs.Elements.{in-flat}
use Rattle.verify_model.specs.Holds.{Holds}
use Rattle.frame_law.proofs.Bodies.{one_of, bodies_apart}
use Rattle.frame_law.proofs.Right.{AreBlobsIn, all_blobs}
use Rattle.closure_model.specs.Shaped.{blob_of, AreBlobsWritten}
use Rattle.right_law.proofs.Brought.{contents_by}

pub blobs_in : (blocks : List Block) (all : List Object) → ((o : Object) → In o (objects_in (commits_in blocks)) → In o all) → Each (λ b. IsCommitView b.commit) blocks → AreBlobsWritten blocks → Each (AreBlobsIn all) blocks
blobs_in blocks all there views w = each_from (AreBlobsIn all) blocks (λ b i.
    let files = files_among (b.commit).rows in
    let own = each_in (λ b. Each (λ row. In (blob_of row) (commit_objects b.commit)) (files_among (b.commit).rows)) blocks b w i in
    contents_by all files (file_rows (b.commit).rows (each_in (λ b. IsCommitView b.commit) blocks b views i).rows)
    (each_from (λ row. In (blob_of row) all) files (λ row j. there (blob_of row) (in-flat commit_objects b.commit (blob_of row) (commits_in blocks) (in_map (λ (b : Block). b.commit) b blocks i) (each_in (λ row. In (blob_of row) (commit_objects b.commit)) files row own j)))))

pub bodies_one : (known : List Revision) (objects : List Object) (blocks : List Block) → Each (λ b. IsCommitView b.commit) blocks → AreBlobsWritten blocks → has_other_content (objects_in (commits_in blocks)) ≡ false → Holds known objects [] blocks
    → AreBlobsApart (changesets_in blocks)
bodies_one known objects blocks views w one h =
    let all : List Object = objects_in (commits_in blocks) in
    bodies_apart (objects_in (commits_in blocks)) (one_of (objects_in (commits_in blocks)) one) (changesets_in blocks) (all_blobs known objects (objects_in (commits_in blocks)) [] blocks (blobs_in blocks (objects_in (commits_in blocks)) (λ o i. i) views w) h tt)
