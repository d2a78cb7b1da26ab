-- The new commits of a right history bring just its new blocks over what is known of the earlier ones: none of them is refused.
use Rattle.std.proofs.Common.{◌≡◌, false, List, [], ◌∷◌, ◌++◌, map, None, refl, sym, ap, subst, ◌∙◌, inl, append_assoc, append-nil}
use Rattle.std.specs.Prelude.{IsTrue}
use Rattle.text_model.specs.Lists.{Each, In}
use Rattle.text_model.specs.Id.{is_null}
use Rattle.text_model.proofs.Elements.{each_from, each_in, in_right}
use Rattle.hg_model.specs.Revision.{Revision, known_after_all}
use Rattle.git_model.specs.Object.{Object, objects_after_all}
use Rattle.git_model.specs.Tree.{has_distinct}
use Rattle.git_model.specs.Unfold.{walk_fault}
use Rattle.view_model.specs.View.{CommitView, changeset_node}
use Rattle.view_model.specs.Held.{IsCommitHeld}
use Rattle.view_model.specs.Dump.{revisions_in}
use Rattle.pair_model.specs.Block.{Block, id_of, changesets_in}
use Rattle.partner_model.specs.Clash.{changeset_side_collides}
use Rattle.partner_model.specs.Partner.{OfGit, IsHeldView, AreCommitParentsPaired}
use Rattle.history_model.specs.Pull.{CommitsBring, CommitGives, FilesPass}
use Rattle.state_model.specs.Kept.{Kept}
use Rattle.state_model.specs.Saved.{has_otherwise}
use Rattle.saved_model.specs.Step.{known_of}
use Rattle.dump_law.proofs.Elements.{heads, tails}
use Rattle.next_law.proofs.Known.{IsSaved}
use Rattle.verify_model.specs.Holds.{Holds}
use Rattle.frame_law.specs.Ground.{IsGround}
use Rattle.frame_law.proofs.Frame.{AreTwo}
use Rattle.frame_law.proofs.Fronts.{holds_at}
use Rattle.frame_law.proofs.Right.{right_paired}
use Rattle.frame_law.proofs.Kept.{changeset_for_down, deep_up, collision_up}
use Rattle.right_law.proofs.Judged.{meets_more}
use Rattle.closure_model.specs.Shaped.{AreShaped, known_brought}
use Rattle.arrival_law.proofs.Objects.{commits-read, each-blob}
use Rattle.arrival_law.proofs.Whole.{shaped}
use Rattle.stream_return_law.proofs.Bodies.{bodies_one}
use Rattle.stream_return_law.proofs.Commits.{commits_bring, no_clash}
use Rattle.stream_return_law.proofs.Parts.{known_behind, known_push}
use Rattle.stream_increment_law.proofs.Arrives.{fresh_objects}
use Rattle.stream_increment_law.proofs.Held.{known-here, new-read}
use Rattle.stream_increment_law.proofs.Revisions.{ground_moved, behind_same, behind_in}

-- ---- behind the first blocks

bring_one : (objects : List Object) (seen : List Block) (b : Block) (rest : List Block) → CommitsBring (known_brought seen) objects seen (map id_of (b ∷ rest)) (b ∷ rest)
    → CommitGives (known_brought seen) objects seen (id_of b) b × CommitsBring (known_brought (seen ++ b ∷ [])) objects (seen ++ b ∷ []) (map id_of rest) rest
unfolding CommitsBring
bring_one objects seen b rest (d, more, is, gives, later) =
    let behind = λ (x : Block). known_after_all (known_brought seen) (revisions_in (x.links ++ x.changeset ∷ [])) in
    let whole = subst (λ (l : List Block). CommitsBring (behind d) objects (seen ++ d ∷ []) (map id_of rest) l) (sym (tails is)) later in
    let both = subst (λ (x : Block). CommitGives (known_brought seen) objects seen (id_of b) x × CommitsBring (behind x) objects (seen ++ x ∷ []) (map id_of rest) rest)
    (sym (heads is)) (gives, whole) in
    (both.0, subst (λ (known : List Revision). CommitsBring known objects (seen ++ b ∷ []) (map id_of rest) rest) (known_push [] seen b) both.1)

bring_behind : (objects : List Object) (seen front rest : List Block) → CommitsBring (known_brought seen) objects seen (map id_of (front ++ rest)) (front ++ rest)
    → CommitsBring (known_brought (seen ++ front)) objects (seen ++ front) (map id_of rest) rest
bring_behind objects seen [] rest h = subst (λ (l : List Block). CommitsBring (known_brought l) objects l (map id_of rest) rest) (sym (append-nil seen)) h
bring_behind objects seen (b ∷ front) rest h =
    subst (λ (l : List Block). CommitsBring (known_brought l) objects l (map id_of rest) rest) (append_assoc seen (b ∷ []) front)
    (bring_behind objects (seen ++ b ∷ []) front rest (bring_one objects seen b (front ++ rest) h).1)

-- ---- over other known revisions and objects

-- a block whose commit passes over some known revisions and objects passes over others
module _ (known came : List Revision) (objects others : List Object) (before : List Block) (b : Block) (c : CommitView) (g : IsGround before (IsHeldView known)) (k : IsGround before (IsHeldView came))
    (fewer : (o : Object) → In o others → In o objects) (paired : AreCommitParentsPaired before c) (apart : changeset_side_collides came before b ≡ false) where
  two : AreTwo before (IsHeldView known) before (IsHeldView came)
  two = record { first = g; second = k; among = each_from (λ d. In d before) before (λ d i. i) }

  pub passes_too : FilesPass known objects before c b → FilesPass came others before c b
  passes_too p = record {
    no_collision = λ m. p.no_collision (meets_more before (IsHeldView known) others objects (OfGit c) fewer (collision_up before (IsHeldView known) before (IsHeldView came) two others (OfGit c) paired m));
    not_deep = λ deep. p.not_deep (deep_up before (IsHeldView known) before (IsHeldView came) two (OfGit c) paired deep);
    block = ((p.block).0, changeset_for_down before (IsHeldView known) before (IsHeldView came) two c (p.block).0 (p.block).1, (p.block).2);
    fits = p.fits;
    files_in_time = p.files_in_time;
    manifest_in_time = p.manifest_in_time;
    apart = apart;
  }

-- ---- the law

module _ (k : Kept) (new : List Block) (tags : List Object) (saved : IsSaved k) (saved_next : IsSaved (record { blocks = k.blocks ++ new; tags = k.tags ++ tags }))
    (h : Holds (known_of (record { blocks = k.blocks ++ new; tags = k.tags ++ tags })).revisions (known_of (record { blocks = k.blocks ++ new; tags = k.tags ++ tags })).objects [] (k.blocks ++ new)) where
  abbrev next : Kept
  next = record { blocks = k.blocks ++ new; tags = k.tags ++ tags }

  abbrev start : List Revision
  start = (known_of k).revisions

  -- what is known behind the stream
  abbrev known : List Object
  known = objects_after_all (known_of k).objects (fresh_objects k.blocks new)

  shape : AreShaped next
  shape = shaped next saved_next

  all_bring : CommitsBring [] (known_of next).objects [] (map id_of next.blocks) next.blocks
  all_bring =
      commits_bring (known_of next).revisions (known_of next).objects next shape.ground shape
      (bodies_one (known_of next).revisions (known_of next).objects next.blocks shape.commits (each-blob next.blocks (saved_next.commits).views) shape.one_object h) (commits-read next saved_next) h

  -- the block of a commit of the stream, where these blocks are there
  gives : (front : List Block) (b : Block) (rest : List Block) → new ≡ front ++ b ∷ rest → CommitGives (known_brought (k.blocks ++ front)) (known_of next).objects (k.blocks ++ front) (id_of b) b
      → CommitGives (known_behind start front) known (k.blocks ++ front) (id_of b) b
  gives front b rest e g =
      let before = k.blocks ++ front in
      let whole : next.blocks ≡ before ++ b ∷ rest = ap (λ (l : List Block). k.blocks ++ l) e ∙ sym (append_assoc k.blocks front (b ∷ rest)) in
      let among : In b new = subst (In b) (sym e) (in_right b front (b ∷ rest) (inl refl)) in
      let read = new-read k new tags saved saved_next in
      let first = shape.grounds before (b ∷ rest) whole in
      let second = ground_moved before (known_brought before) (known_behind start front) (λ group node. sym (behind_same k saved front group node)) first in
      let paired = right_paired (known_of next).revisions (known_of next).objects before b
      (holds_at (known_of next).revisions (known_of next).objects [] before b rest (subst (λ (l : List Block). Holds (known_of next).revisions (known_of next).objects [] l) whole h)) in
      let clash = no_clash (known_behind start front) before rest b (behind_in k saved front) (subst (λ (l : List Block). IsTrue (has_distinct (map changeset_node (changesets_in l)))) whole (shape.ground).nodes)
      (subst (λ (l : List Block). has_otherwise (revisions_in (changesets_in l)) ≡ false) whole shape.one_revision) (subst (λ (l : List Block). Each (λ r. is_null r.node ≡ false) (revisions_in (changesets_in l))) whole shape.real) in
      let passes = subst (λ (c : CommitView). FilesPass (known_brought before) (known_of next).objects before c b) (sym (ap (λ (x : Block). x.commit) ((g.passes).block).2)) g.passes in
      record {
        view = b.commit;
        is_held = each_in (λ b. IsCommitHeld known (id_of b) b.commit) new b read.held among;
        walks = each_in (λ b. walk_fault known ((b.commit).value).tree_id ≡ None) new b read.walks among;
        passes = passes_too (known_brought before) (known_behind start front) (known_of next).objects known before b b.commit first second (known-here k new tags saved saved_next) paired clash passes;
      }

  commits_over : (front rest : List Block) → new ≡ front ++ rest → CommitsBring (known_brought (k.blocks ++ front)) (known_of next).objects (k.blocks ++ front) (map id_of rest) rest
      → CommitsBring (known_behind start front) known (k.blocks ++ front) (map id_of rest) rest
  unfolding CommitsBring
  commits_over front [] e brings = brings
  commits_over front (b ∷ rest) e brings =
      let one = bring_one (known_of next).objects (k.blocks ++ front) b rest brings in
      let push : (k.blocks ++ front) ++ b ∷ [] ≡ k.blocks ++ (front ++ b ∷ []) = append_assoc k.blocks front (b ∷ []) in
      let later = commits_over (front ++ b ∷ []) rest (e ∙ sym (append_assoc front (b ∷ []) rest)) (subst (λ (l : List Block). CommitsBring (known_brought l) (known_of next).objects l (map id_of rest) rest) push one.1) in (
        b,
        rest,
        refl,
        gives front b rest e one.0,
        subst (λ (x : List Revision). CommitsBring x known ((k.blocks ++ front) ++ b ∷ []) (map id_of rest) rest) (sym (known_push start front b))
            (subst (λ (l : List Block). CommitsBring (known_behind start (front ++ b ∷ [])) known l (map id_of rest) rest) (sym push) later),
      )

  pub commits_bring_more : CommitsBring start known k.blocks (map id_of new) new
  commits_bring_more =
      subst (λ (l : List Block). CommitsBring start known l (map id_of new) new) (append-nil k.blocks)
      (commits_over [] new refl (subst (λ (l : List Block). CommitsBring (known_brought l) (known_of next).objects l (map id_of new) new) (sym (append-nil k.blocks)) (bring_behind (known_of next).objects [] k.blocks new all_bring)))
