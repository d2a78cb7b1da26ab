-- What a stream brings over a right history is right, and so is the whole, over what is known by then.
use Rattle.std.proofs.Common.{◌≡◌, List, [], ◌∷◌, ◌++◌, refl, sym, ap, subst, ◌∙◌, inl, inr, append_assoc, append-nil}
use Rattle.text_model.specs.Lists.{Each, In}
use Rattle.text_model.specs.Id.{Id}
use Rattle.text_model.proofs.EachLemmas.{Each-front, Each-rest, Each-weaker}
use Rattle.text_model.proofs.Elements.{each_from, each_in, in_right}
use Rattle.hg_model.specs.Revision.{Revision}
use Rattle.git_model.specs.Object.{Object}
use Rattle.view_model.specs.View.{ChangesetView, CommitView, IsChangesetView, IsCommitView, CommitFits, HasBodiesOf, SameChangeset, changeset_node, files_among}
use Rattle.pair_model.specs.Block.{Block, changesets_in}
use Rattle.pair_model.specs.Octopus.{links_of}
use Rattle.partner_model.specs.Mark.{mark_commit}
use Rattle.partner_model.specs.Partner.{OfHg, OfGit, IsHeldView, IsKnownAs, IsPartner, AreCommitParentsPaired}
use Rattle.partner_model.specs.Given.{IsCommitFor, IsChangesetFor}
use Rattle.partner_model.specs.Table.{IsTable}
use Rattle.history_model.specs.Pull.{CommitsBring, FilesPass}
use Rattle.unmark_law.proofs.Tables.{one_for}
use Rattle.unmark_law.proofs.Same.{same_changeset, same_commit}
use Rattle.depth_law.proofs.PlainCommit.{commit_paired}
use Rattle.partner_law.proofs.Parities.{commits_through}
use Rattle.verify_model.specs.Holds.{IsRight, Holds}
use Rattle.frame_law.specs.Ground.{IsGround}
use Rattle.frame_law.proofs.Frame.{AreTwo, ground_table, not_null_in}
use Rattle.frame_law.proofs.Kept.{changeset_for_down, deep_up}
use Rattle.frame_law.proofs.First.{not_on_link}
use Rattle.frame_law.proofs.Fronts.{ground_front}
use Rattle.frame_law.proofs.Bodies.{AreOne, HasBlob, never_collides, blobs_of_rows}
use Rattle.frame_law.proofs.Right.{AreBlobsIn, blobs_push}
use Rattle.right_law.proofs.Exact.{commit_is, own_partner, right_by}
use Rattle.right_law.proofs.Judged.{partner_too}
use Rattle.right_law.proofs.Brought.{both_hold}
use Rattle.history_law.specs.Sound.{AreOfBlocks}
use Rattle.history_law.proofs.Known.{block-more, to-blocks}
use Rattle.stream_return_law.proofs.On.{no_clash, bodies_on, partner_on, not_deep_on}
use Rattle.stream_return_law.proofs.Parts.{known_behind, known_push, each_own}

-- the bodies of the history are objects
abbrev HaveBlobs : List Object → List Block → Type 0
HaveBlobs all blocks = Each (λ v. Each (HasBlob all) v.rows) (changesets_in blocks)

-- ---- one commit

module _ (behind came : List Revision) (had all : List Object) (one : AreOne all) (before : List Block) (b : Block) (g : IsGround before (IsHeldView behind)) (k : IsGround before (IsHeldView came)) (old : HaveBlobs all before)
    (is_view : IsChangesetView b.changeset) (sound : IsCommitView b.commit) (fits : CommitFits b.commit) (blobs : AreBlobsIn all b) (links : Each (IsKnownAs (IsHeldView came)) b.links) (passes : FilesPass behind had before b.commit b) where
  abbrev h : ChangesetView
  h = b.changeset

  abbrev c : CommitView
  c = b.commit

  t : IsTable before
  t = ground_table before (IsHeldView came) k

  two : AreTwo before (IsHeldView behind) before (IsHeldView came)
  two = record { first = g; second = k; among = each_from (λ d. In d before) before (λ d i. i) }

  there : IsChangesetFor before (IsHeldView behind) c h
  there = subst (λ (v : ChangesetView). IsChangesetFor before (IsHeldView behind) c v) (sym (ap (λ (x : Block). x.changeset) (passes.block).2)) (passes.block).1

  here : IsChangesetFor before (IsHeldView came) c h
  here = changeset_for_down before (IsHeldView behind) before (IsHeldView came) two c h there

  links_are : b.links ≡ links_of before c
  links_are = ap (λ (x : Block). x.links) (passes.block).2

  walked : Each (IsKnownAs (IsHeldView came)) (links_of before c)
  walked = subst (Each (IsKnownAs (IsHeldView came))) links_are links

  paired : AreCommitParentsPaired before c
  paired = by there
    where
      by : IsChangesetFor before (IsHeldView behind) c h → AreCommitParentsPaired before c
      by (inl x) = x.1
      by (inr x) = commit_paired before c h (x.1).paired (x.1).marked

  bodies : HasBodiesOf h.rows c.rows
  bodies = bodies_on all one before (IsHeldView came) t k.apart old h c sound blobs walked here

  exact : IsCommitFor before (IsHeldView came) h c
  exact = by (partner_on all one before (IsHeldView came) t k.apart old h c sound blobs walked here)
    where
      by : IsPartner before (IsHeldView came) (OfHg h) (OfGit c) → IsCommitFor before (IsHeldView came) h c
      by (inr x) = inr x
      by (inl x) =
          let marked = mark_commit before h in
          inl (x.0, x.1, commit_is before (IsHeldView came) t h is_view c sound bodies (mark_commit before h) (inl (x.0, x.1, refl)) (commits_through marked c marked x.2 (same_commit marked)))

  pub brought_right : IsRight came all before b
  brought_right = record {
    partner = b;
    gets = record {
      no_clash = no_clash h c bodies sound;
      on_no_link = not_on_link before (IsHeldView came) h c exact;
      no_collision = never_collides all one before (IsHeldView came) old (OfHg h) (blobs_of_rows all h.rows (files_among c.rows) bodies blobs);
      not_deep = not_deep_on all one before (IsHeldView came) t k.apart old h c sound blobs walked here (λ deep. passes.not_deep (deep_up before (IsHeldView behind) before (IsHeldView came) two (OfGit c) paired deep));
      block = (c, exact, (λ i. record { links = links_are i; changeset = h; commit = c }));
      fits = fits;
      files_in_time = passes.files_in_time;
      manifest_in_time = passes.manifest_in_time;
    };
    commit = same_commit c;
    links = refl;
    bodies = bodies;
  }

-- ---- the blocks

-- what the whole history says of its blocks, and which objects and changesets are known of it
record IsWhole (came : List Revision) (all : List Object) (blocks : List Block) : Type 0 where
  pub ground : IsGround blocks (IsHeldView came)
  pub views : Each IsChangesetView (changesets_in blocks)
  pub commits : Each (λ b. IsCommitView b.commit) blocks
  pub blobs : Each (AreBlobsIn all) blocks

-- what it says of one of them
record IsPart (came : List Revision) (all : List Object) (before : List Block) (b : Block) : Type 0 where
  pub ground : IsGround before (IsHeldView came)
  pub views : Each IsChangesetView (b.links ++ b.changeset ∷ [])
  pub view : IsChangesetView b.changeset
  pub commit : IsCommitView b.commit
  pub blobs : AreBlobsIn all b
  pub links : Each (IsKnownAs (IsHeldView came)) b.links

part : (came : List Revision) (all : List Object) (blocks before after : List Block) (b : Block) → blocks ≡ before ++ b ∷ after → IsWhole came all blocks → IsPart came all before b
part came all blocks before after b e w =
    let among : In b blocks = subst (In b) (sym e) (in_right b before (b ∷ after) (inl refl)) in
    let at = λ (P : ChangesetView → Type 0) (each : Each P (changesets_in blocks)). each_own before after b P (subst (λ (x : List Block). Each P (changesets_in x)) e each) in
    record {
      ground = ground_front before (b ∷ after) (IsHeldView came) (subst (λ (x : List Block). IsGround x (IsHeldView came)) e (w.ground));
      views = at IsChangesetView w.views;
      view = (Each-rest IsChangesetView b.links (b.changeset ∷ []) (at IsChangesetView w.views)).0;
      commit = each_in (λ b. IsCommitView b.commit) blocks b w.commits among;
      blobs = each_in (AreBlobsIn all) blocks b w.blobs among;
      links = Each-weaker (IsHeldView came) (IsKnownAs (IsHeldView came)) (λ v held. (v, held, same_changeset v)) b.links (Each-front (IsHeldView came) b.links (b.changeset ∷ []) (at (IsHeldView came) (w.ground).known));
    }

-- over all that is known while a stream brings blocks, those so far are the history of it
ground_by : (behind : List Revision) (blocks : List Block) (K : ChangesetView → Type 0) → IsGround blocks K → AreOfBlocks behind blocks → IsGround blocks (IsHeldView behind)
ground_by behind blocks K g are = record {
  nodes = g.nodes;
  ids = g.ids;
  rows = g.rows;
  known = are.held;
  no_links = g.no_links;
  apart = λ k l x y e. subst (SameChangeset k) (one_for changeset_node (changesets_in blocks) g.nodes k l (to-blocks behind blocks are k x) (to-blocks behind blocks are l y) e) (same_changeset k);
  real = λ v x. not_null_in blocks K g v (to-blocks behind blocks are v x);
}

-- the blocks that were right are right over more
old_right : (known came : List Revision) (objects all : List Object) → AreOne all → (blocks more : List Block) → IsGround blocks (IsHeldView known) → IsWhole came all (blocks ++ more)
    → (before rest : List Block) → blocks ≡ before ++ rest → HaveBlobs all before → Holds known objects before rest → Holds came all before rest × HaveBlobs all (before ++ rest)
unfolding Holds
old_right known came objects all one blocks more g w before [] e old h = (tt, subst (HaveBlobs all) (sym (append-nil before)) old)
old_right known came objects all one blocks more g w before (b ∷ rest) e old h =
    let x = part came all (blocks ++ more) before (rest ++ more) b (ap (λ (l : List Block). l ++ more) e ∙ append_assoc before (b ∷ rest) more) w in
    let first = ground_front before (b ∷ rest) (IsHeldView known) (subst (λ (l : List Block). IsGround l (IsHeldView known)) e g) in
    let own = own_partner known objects before b first x.view x.commit h.0 in
    let free = never_collides all one before (IsHeldView known) old (OfHg b.changeset) (blobs_of_rows all (b.changeset).rows (files_among (b.commit).rows) (h.0).bodies x.blobs) in
    let right : IsRight came all before b = right_by came all before b x.ground x.view (partner_too known came objects all before b.changeset b first x.ground x.links own free) in
    let later = old_right known came objects all one blocks more g w (before ++ b ∷ []) rest (e ∙ sym (append_assoc before (b ∷ []) rest)) (blobs_push known objects all before b x.blobs h.0 old) h.1 in
    ((right, later.0), subst (HaveBlobs all) (append_assoc before (b ∷ []) rest) later.1)

-- and those that the commits bring are right behind them
new_right : (start came : List Revision) (had all : List Object) → AreOne all → (blocks new : List Block) → IsWhole came all (blocks ++ new) → Each (λ b. CommitFits b.commit) new
    → (front rest : List Block) (ids : List Id) → new ≡ front ++ rest → AreOfBlocks (known_behind start front) (blocks ++ front) → HaveBlobs all (blocks ++ front) → CommitsBring (known_behind start front) had (blocks ++ front) ids rest → Holds came all (blocks ++ front) rest
unfolding Holds CommitsBring
new_right start came had all one blocks new w fits front rest [] e are old h = subst (λ (l : List Block). Holds came all (blocks ++ front) l) (sym h) tt
new_right start came had all one blocks new w fits front rest (id ∷ ids) e are old (b, more, is, gives, then) =
    let split : new ≡ front ++ b ∷ more = e ∙ ap (λ (l : List Block). front ++ l) is in
    let x = part came all (blocks ++ new) (blocks ++ front) more b (ap (λ (l : List Block). blocks ++ l) split ∙ sym (append_assoc blocks front (b ∷ more))) w in
    let among : In b new = subst (In b) (sym split) (in_right b front (b ∷ more) (inl refl)) in
    let own : FilesPass (known_behind start front) had (blocks ++ front) b.commit b = subst (λ (v : CommitView). FilesPass (known_behind start front) had (blocks ++ front) v b) (sym (ap (λ (d : Block). d.commit) ((gives.passes).block).2)) gives.passes in
    let right = brought_right (known_behind start front) came had all one (blocks ++ front) b (ground_by (known_behind start front) (blocks ++ front) (IsHeldView came) x.ground are) x.ground old x.view x.commit (each_in (λ b. CommitFits b.commit) new b fits among) x.blobs x.links own in
    let next : (blocks ++ front) ++ b ∷ [] ≡ blocks ++ (front ++ b ∷ []) = append_assoc blocks front (b ∷ []) in
    let known_then : CommitsBring (known_behind start (front ++ b ∷ [])) had ((blocks ++ front) ++ b ∷ []) ids more = subst (λ (x : List Revision). CommitsBring x had ((blocks ++ front) ++ b ∷ []) ids more) (known_push start front b) then in
    let goes_on : CommitsBring (known_behind start (front ++ b ∷ [])) had (blocks ++ (front ++ b ∷ [])) ids more = subst (λ (l : List Block). CommitsBring (known_behind start (front ++ b ∷ [])) had l ids more) next known_then in
    let more_are = block-more (known_behind start front) (blocks ++ front) b own.apart are x.views in
    let are_next : AreOfBlocks (known_behind start (front ++ b ∷ [])) (blocks ++ (front ++ b ∷ [])) = subst (λ (l : List Block). AreOfBlocks (known_behind start (front ++ b ∷ [])) l) next (subst (λ (k : List Revision). AreOfBlocks k ((blocks ++ front) ++ b ∷ [])) (known_push start front b) more_are) in
    let later = new_right start came had all one blocks new w fits (front ++ b ∷ []) more ids (split ∙ sym (append_assoc front (b ∷ []) more)) are_next (subst (HaveBlobs all) next (blobs_push came all all (blocks ++ front) b x.blobs right old)) goes_on in
    subst (Holds came all (blocks ++ front)) (sym is) (right, subst (λ (l : List Block). Holds came all l more) (sym next) later)

-- ---- the law

pub stream_holds : (known start came : List Revision) (objects had all : List Object) → AreOne all → (blocks new : List Block) (ids : List Id) → IsGround blocks (IsHeldView known) → AreOfBlocks start blocks
    → IsGround (blocks ++ new) (IsHeldView came) → Each IsChangesetView (changesets_in (blocks ++ new)) → Each (λ b. IsCommitView b.commit) (blocks ++ new) → Each (AreBlobsIn all) (blocks ++ new) → Each (λ b. CommitFits b.commit) new
    → Holds known objects [] blocks → CommitsBring start had blocks ids new → Holds came all [] (blocks ++ new)
stream_holds known start came objects had all one blocks new ids g are k views commits blobs fits h brings =
    let w : IsWhole came all (blocks ++ new) = record { ground = k; views = views; commits = commits; blobs = blobs } in
    let old = old_right known came objects all one blocks new g w [] blocks refl tt h in
    let nothing : blocks ++ [] ≡ blocks = append-nil blocks in
    both_hold came all [] blocks new old.0
    (subst (λ (l : List Block). Holds came all l new) nothing (new_right start came had all one blocks new w fits [] new ids refl (subst (AreOfBlocks start) (sym nothing) are) (subst (HaveBlobs all) (sym nothing) old.1) (subst (λ (l : List Block). CommitsBring start had l ids new) (sym nothing) brings)))
