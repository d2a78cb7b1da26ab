-- What a stream brings is right over what the text of the whole brings.
use Rattle.std.proofs.Common.{◌≡◌, List, [], ◌++◌, sym, ap, subst}
use Rattle.text_model.specs.Lists.{Each, In}
use Rattle.text_model.specs.Text.{Bytes}
use Rattle.text_model.specs.Id.{Id}
use Rattle.text_model.proofs.EachLemmas.{Each-rest}
use Rattle.text_model.proofs.Elements.{each_in}
use Rattle.hg_model.specs.Revision.{Revision}
use Rattle.git_model.specs.Object.{Object}
use Rattle.view_model.specs.View.{IsChangesetView, IsCommitView, CommitFits}
use Rattle.view_model.specs.Dump.{objects_in}
use Rattle.pair_model.specs.Block.{Block, changesets_in, commits_in}
use Rattle.partner_model.specs.Partner.{IsHeldView}
use Rattle.history_model.specs.Pull.{CommitsBring, objects_with}
use Rattle.state_model.specs.Kept.{Kept}
use Rattle.saved_model.specs.Step.{OfStream, Steps, known_of, dump_objects}
use Rattle.pull_law.proofs.Known.{own-some}
use Rattle.verify_model.specs.Holds.{Holds}
use Rattle.frame_law.specs.Ground.{IsGround}
use Rattle.frame_law.proofs.Right.{AreBlobsIn}
use Rattle.closure_model.specs.Shaped.{AreShaped, AreBlobsWritten}
use Rattle.history_law.specs.Sound.{AreOfBlocks, IsSound}
use Rattle.history_law.proofs.Dumps.{known-from}
use Rattle.stream_return_law.proofs.Bodies.{blobs_in}
use Rattle.stream_return_law.proofs.Ones.{known_one}
use Rattle.stream_return_law.proofs.Brought.{stream_holds}

pub stream_right : (known start : List Revision) (objects had : List Object) (blocks new : List Block) (ids : List Id) (next : Kept) → next.blocks ≡ blocks ++ new
    → IsGround blocks (IsHeldView known) → AreOfBlocks start blocks → AreShaped next → AreBlobsWritten next.blocks → Each (λ b. CommitFits b.commit) new
    → Holds known objects [] blocks → CommitsBring start had blocks ids new → Holds (known_of next).revisions (known_of next).objects [] next.blocks
stream_right known start objects had blocks new ids next e g are shaped w fits h brings =
    let came = (known_of next).revisions in
    let all = (known_of next).objects in
    let blobs = blobs_in next.blocks all (λ o i. each_in (λ o. In o (known_of next).objects) (objects_in (commits_in next.blocks)) o shaped.objects i) shaped.commits w in
    subst (λ (l : List Block). Holds (known_of next).revisions (known_of next).objects [] l) (sym e)
    (stream_holds known start came objects had all (known_one (dump_objects (commits_in next.blocks) ++ next.tags)) blocks new ids g are (subst (λ (l : List Block). IsGround l (IsHeldView (known_of next).revisions)) e shaped.ground)
    (subst (λ (l : List Block). Each IsChangesetView (changesets_in l)) e shaped.changesets) (subst (λ (l : List Block). Each (λ b. IsCommitView b.commit) l) e shaped.commits) (subst (λ (l : List Block). Each (AreBlobsIn (known_of next).objects) l) e blobs) fits h brings)

-- over what the text of a saved history brings, a stream that is accepted
pub stream_pulled : (s next : Kept) (stream made : Bytes) → IsSound s → IsGround s.blocks (IsHeldView (known_of s).revisions) → AreShaped next → AreBlobsWritten next.blocks → Each (λ b. CommitFits b.commit) next.blocks
    → Steps s (OfStream stream) next made → Holds (known_of s).revisions (known_of s).objects [] s.blocks → Holds (known_of next).revisions (known_of next).objects [] next.blocks
stream_pulled s next stream made sound g shaped w fits (new, tags, a, is, out) h =
    let e : next.blocks ≡ s.blocks ++ new = ap (λ (k : Kept). k.blocks) is in
    let are : AreOfBlocks (known_of s).revisions s.blocks = record { some = own-some (known_of s).revisions (sound.state).revisions; held = sound.held; only = known-from s.blocks } in
    let own = Each-rest (λ (b : Block). CommitFits b.commit) s.blocks new (subst (Each (λ (b : Block). CommitFits b.commit)) e fits) in
    stream_right (known_of s).revisions (known_of s).revisions (known_of s).objects (objects_with (known_of s) a.came) s.blocks new (a.brings).ordered next e g are shaped w own h (a.brings).brings
