-- The blocks that changesets bring are right over those before them, and right blocks stay right when more is known.
use Rattle.std.proofs.Common.{◌≡◌, false, List, [], ◌∷◌, ◌++◌, refl, sym, ap, subst, ◌∙◌, inl, inr, append-nil}
use Rattle.text_model.specs.Lists.{Each, In}
use Rattle.text_model.specs.Id.{blob}
use Rattle.text_model.proofs.Elements.{each_from, each_in}
use Rattle.text_model.proofs.EachLemmas.{Each-front}
use Rattle.hg_model.specs.Revision.{Revision}
use Rattle.git_model.specs.Object.{Object, object_of}
use Rattle.view_model.specs.View.{TreeRow, ChangesetView, CommitView, IsChangesetView, IsCommitView, HasBodiesOf, commit_objects, files_among}
use Rattle.view_model.specs.Dump.{objects_in}
use Rattle.pair_model.specs.Block.{Block, changesets_in, commits_in}
use Rattle.partner_model.specs.Partner.{IsHeldView}
use Rattle.history_model.specs.Pull.{BringBlocks, ViewPasses}
use Rattle.state_model.specs.Saved.{has_other_content}
use Rattle.unmark_law.proofs.ChangesetOne.{IsFileRow, file_rows}
use Rattle.verify_model.specs.Holds.{HasPartner, IsRight, Holds}
use Rattle.closure_model.specs.Shaped.{blob_of, AreBlobsWritten}
use Rattle.frame_law.specs.Ground.{IsGround}
use Rattle.frame_law.proofs.Frame.{block_in, ground_table}
use Rattle.frame_law.proofs.Fronts.{ground_front, changesets_front}
use Rattle.right_law.specs.Views.{AreViews}
use Rattle.right_law.proofs.Exact.{bodies_of, right_by}
use Rattle.right_law.proofs.Order.{behind, split_in, links_known, front_ground, own_at}
use Rattle.right_law.proofs.Judged.{AreHere, partner_too}
use Rattle.right_law.proofs.Changesets.{objects_of_block, objects_before}
use Rattle.frame_law.proofs.Bodies.{HasBlob, IsBlobIn, blobs_of_rows}
use Rattle.frame_law.proofs.Rows.{all_push}
use Rattle.right_law.proofs.Bodies.{no_meeting}

-- the blobs of files are objects of their contents
pub contents_by : (all : List Object) (files : List TreeRow) → Each IsFileRow files → Each (λ row. In (blob_of row) all) files → Each (IsBlobIn all) files
contents_by all [] f w = tt
contents_by all (row ∷ files) f w =
    let same : blob_of row ≡ object_of blob row.content = λ i. record { id = (f.0).1 i; kind = blob; content = row.content } in
    (subst (λ (o : Object). In o all) same w.0, contents_by all files f.1 w.1)

-- ---- the bodies of the blocks so far

module _ (known : List Revision) (objects : List Object) (blocks : List Block) (g : IsGround blocks (IsHeldView known)) (v : AreViews blocks) (w : AreBlobsWritten blocks) (all : List Object) (here : AreHere (objects_in (commits_in blocks)) all) where
  abbrev Written : List Block → Type 0
  Written before = Each (λ (x : ChangesetView). Each (HasBlob all) x.rows) (changesets_in before)

  module _ (before after : List Block) (b : Block) (e : blocks ≡ before ++ b ∷ after) (p : HasPartner known objects before b.changeset b) where
    view_at_b : IsChangesetView b.changeset
    view_at_b = each_in IsChangesetView (changesets_in blocks) b.changeset v.changesets (block_in blocks b (split_in blocks before after b e))

    contents : Each (IsBlobIn all) (files_among (b.commit).rows)
    contents =
        let among = split_in blocks before after b e in
        let sound = each_in (λ (d : Block). IsCommitView d.commit) blocks b v.commits among in
        let blobs = each_in (λ (d : Block). Each (λ row. In (blob_of row) (commit_objects d.commit)) (files_among (d.commit).rows)) blocks b w among in
        let files = files_among (b.commit).rows in
        contents_by all files (file_rows (b.commit).rows sound.rows) (each_from (λ row. In (blob_of row) all) files (λ row i.
        here (blob_of row) (objects_of_block blocks b among (blob_of row) (each_in (λ row. In (blob_of row) (commit_objects b.commit)) files row blobs i))))

    own_written : Each (HasBlob all) (b.changeset).rows
    own_written =
        let commit : b.commit ≡ (p.block).0 = ap (λ (d : Block). d.commit) (p.block).2 in
        let table = ground_table before (IsHeldView known) (front_ground known objects blocks g v before (b ∷ after) e) in
        let bodies = bodies_of before (IsHeldView known) table b.changeset (p.block).0 view_at_b (p.block).1 in
        blobs_of_rows all (b.changeset).rows (files_among (b.commit).rows) (subst (λ (c : CommitView). HasBodiesOf (b.changeset).rows c.rows) (sym commit) bodies) contents

    pushed : Written before → Written (before ++ b ∷ [])
    pushed each = all_push (Each (HasBlob all)) tt before each b (p.block).0 (ap (λ (d : Block). d.links) (p.block).2) own_written

    -- it is right over other known changesets, and whatever other objects are known
    right_too : (came : List Revision) (others : List Object) → IsGround blocks (IsHeldView came) → has_other_content (all ++ others) ≡ false → Written before → IsRight came others before b
    right_too came others k one each =
        let first = front_ground known objects blocks g v before (b ∷ after) e in
        let second = front_ground came objects blocks k v before (b ∷ after) e in
        let links = links_known blocks (IsHeldView came) k b (split_in blocks before after b e) in
        let partner = partner_too known came objects others before b.changeset b first second links p (no_meeting all others one before (IsHeldView known) each b.changeset own_written) in
        right_by came others before b second view_at_b partner

  -- ---- right blocks stay right

  module _ (came : List Revision) (others : List Object) (k : IsGround blocks (IsHeldView came)) (one : has_other_content (all ++ others) ≡ false) where
    still_hold : (before rest : List Block) → blocks ≡ before ++ rest → Written before → Holds known objects before rest → Holds came others before rest
    unfolding Holds
    still_hold before [] e each h = tt
    still_hold before (b ∷ rest) e each h =
        let p = own_at known objects blocks g v before rest b e h.0 in
        (right_too before rest b e p came others k one each, still_hold (before ++ b ∷ []) rest (e ∙ behind before b rest) (pushed before rest b e p each) h.1)

    pub holds_too : Holds known objects [] blocks → Holds came others [] blocks
    holds_too h = still_hold [] blocks refl tt h

  -- the bodies of all blocks
  written_by : (before rest : List Block) → blocks ≡ before ++ rest → Written before → Holds known objects before rest → Written (before ++ rest)
  unfolding Holds
  written_by before [] e each h = subst Written (sym (append-nil before)) each
  written_by before (b ∷ rest) e each h =
      let p = own_at known objects blocks g v before rest b e h.0 in
      subst Written (sym (behind before b rest)) (written_by (before ++ b ∷ []) rest (e ∙ behind before b rest) (pushed before rest b e p each) h.1)

  pub all_written : Holds known objects [] blocks → Written blocks
  all_written h = written_by [] blocks refl tt h

-- ---- what changesets bring

-- a changeset that isn't refused has its partner
passes_partner : (known : List Revision) (objects : List Object) (before : List Block) (h : ChangesetView) (b : Block) → ViewPasses known objects before h b → HasPartner known objects before b.changeset b
passes_partner known objects before h b v =
    let own : b.changeset ≡ h = ap (λ (d : Block). d.changeset) (v.block).2 in
    subst (λ (x : ChangesetView). HasPartner known objects before x b) (sym own) (record {
      no_clash = v.no_clash;
      on_no_link = v.on_no_link;
      no_collision = v.no_collision;
      not_deep = v.not_deep;
      block = v.block;
      fits = v.fits;
      files_in_time = v.files_in_time;
      manifest_in_time = v.manifest_in_time;
    })

module _ (came : List Revision) (others : List Object) (blocks : List Block) (k : IsGround blocks (IsHeldView came)) (v : AreViews blocks) (w : AreBlobsWritten blocks) (all : List Object) (here : AreHere (objects_in (commits_in blocks)) all)
    (one : has_other_content (all ++ others) ≡ false) where
  brought_hold : (objects : List Object) (before : List Block) (rs : List Revision) (new : List Block) → blocks ≡ before ++ new → Each (λ (x : ChangesetView). Each (HasBlob all) x.rows) (changesets_in before) → BringBlocks came objects before rs new → Holds came others before new
  unfolding BringBlocks Holds
  brought_hold objects before [] new e each h = subst (Holds came others before) (sym h) tt
  brought_hold objects before (r ∷ rs) new e each (inl h) = brought_hold objects before rs new e each h.1
  brought_hold objects before (r ∷ rs) new e each (inr (inl h)) = brought_hold objects before rs new e each h.2
  brought_hold objects before (r ∷ rs) new e each (inr (inr h)) =
      let split : blocks ≡ before ++ h.2 ∷ h.3 = e ∙ ap (λ (l : List Block). before ++ l) h.4 in
      let p = passes_partner came objects before (h.5).view h.2 (h.5).passes in
      let right = right_too came objects blocks k v w all here before h.3 h.2 split p came others k one each in
      let more = brought_hold (objects ++ commit_objects (h.2).commit) (before ++ h.2 ∷ []) rs h.3 (split ∙ behind before h.2 h.3) (pushed came objects blocks k v w all here before h.3 h.2 split p each) h.6 in
      subst (Holds came others before) (sym h.4) (right, more)

pub both_hold : (came : List Revision) (others : List Object) (first before new : List Block) → Holds came others first before → Holds came others (first ++ before) new → Holds came others first (before ++ new)
unfolding Holds
both_hold came others first [] new h k = subst (λ (x : List Block). Holds came others x new) (append-nil first) k
both_hold came others first (b ∷ before) new h k = (h.0, both_hold came others (first ++ b ∷ []) before new h.1 (subst (λ (x : List Block). Holds came others x new) (behind first b before) k))

views_front : (front more : List Block) → AreViews (front ++ more) → AreViews front
views_front front more v = record {
  changesets = Each-front IsChangesetView (changesets_in front) (changesets_in more) (subst (Each IsChangesetView) (changesets_front front more) v.changesets);
  commits = Each-front (λ (b : Block). IsCommitView b.commit) front more v.commits;
}

pub bundle_holds : (known came : List Revision) (objects earlier others : List Object) (blocks : List Block) (rs : List Revision) (new : List Block) → IsGround blocks (IsHeldView known) → IsGround (blocks ++ new) (IsHeldView came)
    → AreViews (blocks ++ new) → AreBlobsWritten (blocks ++ new) → has_other_content (objects_in (commits_in (blocks ++ new)) ++ others) ≡ false
    → Holds known objects [] blocks → BringBlocks came earlier blocks rs new → Holds came others [] (blocks ++ new)
bundle_holds known came objects earlier others blocks rs new g k v w one h brings =
    let views = views_front blocks new v in
    let blobs = Each-front (λ (b : Block). Each (λ row. In (blob_of row) (commit_objects b.commit)) (files_among (b.commit).rows)) blocks new w in
    let front = objects_before (blocks ++ new) blocks new refl in
    let still = holds_too known objects blocks g views blobs (objects_in (commits_in (blocks ++ new))) front came others (ground_front blocks new (IsHeldView came) k) one h in
    let each = all_written known objects blocks g views blobs (objects_in (commits_in (blocks ++ new))) front h in
    both_hold came others [] blocks new still (brought_hold came others (blocks ++ new) k v w (objects_in (commits_in (blocks ++ new))) (λ o i. i) one earlier blocks rs new refl each brings)
