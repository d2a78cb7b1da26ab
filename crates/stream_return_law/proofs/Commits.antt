-- The commits of a right history, in its order, bring just its blocks: none of them is refused.
use Rattle.std.proofs.Common.{◌≡◌, true, false, ◌||◌, List, [], ◌∷◌, ◌++◌, map, None, refl, sym, ap, subst, ◌∙◌, inl, append_assoc, inr}
use Rattle.std.specs.Prelude.{IsTrue}
use Rattle.std.specs.List.{list_any}
use Rattle.text_model.specs.Lists.{Each, In}
use Rattle.text_model.specs.Id.{is_null}
use Rattle.text_model.proofs.EachLemmas.{Each-append, Each-front, Each-rest}
use Rattle.text_model.proofs.Elements.{each_from, each_in, in_left, in_right, none_in, none_all}
use Rattle.text_model.proofs.Options.{or_neither}
use Rattle.hg_model.specs.Revision.{Revision, is_otherwise}
use Rattle.git_model.specs.Object.{Object}
use Rattle.git_model.specs.Tree.{has_distinct}
use Rattle.git_model.specs.Unfold.{walk_fault}
use Rattle.view_model.specs.View.{ChangesetView, IsChangesetView, IsCommitView, changeset_node, ChangesetFits}
use Rattle.view_model.specs.Held.{IsCommitHeld}
use Rattle.view_model.specs.Dump.{revisions_in}
use Rattle.pair_model.specs.Block.{Block, id_of, changesets_in}
use Rattle.pair_model.specs.Octopus.{is_link_view, links_of}
use Rattle.partner_model.specs.Clash.{is_any_saved, changeset_side_collides}
use Rattle.partner_model.specs.Partner.{OfHg, OfGit, IsHeldView, IsPartner, AreCommitParentsPaired}
use Rattle.partner_model.specs.Given.{IsCommitFor, block_with}
use Rattle.partner_model.specs.Table.{AreBlobsApart}
use Rattle.history_model.specs.Pull.{CommitsBring, CommitGives, FilesPass}
use Rattle.state_model.specs.Kept.{Kept}
use Rattle.state_model.specs.Saved.{has_otherwise}
use Rattle.dump_law.proofs.Streams.{of_append}
use Rattle.verify_model.specs.Holds.{HasPartner, IsRight, Holds}
use Rattle.next_law.proofs.LikeNew.{in-all}
use Rattle.frame_law.specs.Ground.{IsGround}
use Rattle.frame_law.proofs.Frame.{AreTwo, ground_table}
use Rattle.frame_law.proofs.Kept.{changeset_for_down, deep_up, collision_up}
use Rattle.frame_law.proofs.Fronts.{ground_front}
use Rattle.right_law.proofs.Exact.{own_partner}
use Rattle.closure_model.specs.Shaped.{AreShaped, known_brought}
use Rattle.closure_model.specs.Arrives.{AreCommitsRead}
use Rattle.stream_return_law.proofs.Way.{partner_of, way_back, not_deep_back, no_collision_back}
use Rattle.frame_law.proofs.Right.{right_links, right_paired}
use Rattle.stream_return_law.proofs.Parts.{known_push, own, all_revisions, each_before, each_own, none_saved}

-- ---- no revision is known otherwise

module _ (known : List Revision) (before after : List Block) (b : Block) (of_known : (r : Revision) → In r known → In r (revisions_in (changesets_in before))) where
  pub no_clash : IsTrue (has_distinct (map changeset_node (changesets_in (before ++ b ∷ after)))) → has_otherwise (revisions_in (changesets_in (before ++ b ∷ after))) ≡ false
      → Each (λ r. is_null r.node ≡ false) (revisions_in (changesets_in (before ++ b ∷ after))) → changeset_side_collides known before b ≡ false
  no_clash distinct one real =
      or_neither (list_any (λ r. is_null r.node || list_any (is_otherwise r) (known ++ new)) new) (is_any_saved before (own before after b))
      (none_all (λ r. is_null r.node || list_any (is_otherwise r) (known ++ new)) new each) (none_saved before after b distinct)
    where
      old : List Revision
      old = revisions_in (changesets_in before)

      new : List Revision
      new = revisions_in (own before after b)

      all : List Revision
      all = revisions_in (changesets_in (before ++ b ∷ after))

      new_in : (r : Revision) → In r new → In r all
      new_in r i = subst (In r) (sym (all_revisions before after b)) (in_right r old (new ++ revisions_in (changesets_in after)) (in_left r new (revisions_in (changesets_in after)) i))

      old_in : (r : Revision) → In r known → In r all
      old_in r i = subst (In r) (sym (all_revisions before after b)) (in_left r old (new ++ revisions_in (changesets_in after)) (of_known r i))

      each : (r : Revision) → In r new → is_null r.node || list_any (is_otherwise r) (known ++ new) ≡ false
      each r i =
          let alone = none_in (λ r. list_any (is_otherwise r) all) all r one (new_in r i) in
          or_neither (is_null r.node) (list_any (is_otherwise r) (known ++ new)) (each_in (λ r. is_null r.node ≡ false) all r real (new_in r i))
          (none_all (is_otherwise r) (known ++ new) (λ q j. none_in (is_otherwise r) all q alone (elim (of_append q known new j) [ inl x ↦ old_in q x | inr x ↦ new_in q x ])))

-- ---- one commit

fewer_apart : (xs ys : List ChangesetView) → Each (λ v. In v ys) xs → AreBlobsApart ys → AreBlobsApart xs
fewer_apart xs ys f a k l r s i j = a k l r s (each_in (λ v. In v ys) xs k f i) (each_in (λ v. In v ys) xs l f j)

-- a right block of the history, over what was known where it is judged and over what a stream knows by then
module _ (known : List Revision) (objects : List Object) (before after : List Block) (b : Block) (first : IsGround before (IsHeldView known)) (second : IsGround before (IsHeldView (known_brought before)))
    (view : IsChangesetView b.changeset) (sound : IsCommitView b.commit) (plain : is_link_view b.changeset ≡ false) (apart : AreBlobsApart (changesets_in (before ++ b ∷ after))) (r : IsRight known objects before b) where
  abbrev all : List ChangesetView
  all = changesets_in (before ++ b ∷ after)

  own_block : HasPartner known objects before b.changeset b
  own_block = own_partner known objects before b first view sound r

  exact : IsCommitFor before (IsHeldView known) b.changeset b.commit
  exact = subst (IsCommitFor before (IsHeldView known) b.changeset) (sym (ap (λ (x : Block). x.commit) (own_block.block).2)) (own_block.block).1

  partner : IsPartner before (IsHeldView known) (OfHg b.changeset) (OfGit b.commit)
  partner = partner_of before (IsHeldView known) b.changeset b.commit exact

  links : b.links ≡ links_of before b.commit
  links = right_links known objects before b r

  paired : AreCommitParentsPaired before b.commit
  paired = right_paired known objects before b r

  there : Each (λ v. In v all) all
  there = each_from (λ v. In v all) all (λ v i. i)

  own_there : Each (λ v. In v all) (own before after b)
  own_there = each_own before after b (λ v. In v all) there

  few : AreBlobsApart (b.changeset ∷ changesets_in before)
  few = fewer_apart (b.changeset ∷ changesets_in before) all ((Each-rest (λ v. In v all) b.links (b.changeset ∷ []) own_there).0, each_before before after b (λ v. In v all) there) apart

  more : AreBlobsApart (b.changeset ∷ links_of before b.commit ++ changesets_in before)
  more = fewer_apart (b.changeset ∷ links_of before b.commit ++ changesets_in before) all (
    (Each-rest (λ v. In v all) b.links (b.changeset ∷ []) own_there).0,
    Each-append (λ v. In v all) (links_of before b.commit) (changesets_in before) (subst (Each (λ v. In v all)) links (Each-front (λ v. In v all) b.links (b.changeset ∷ []) own_there)) (each_before before after b (λ v. In v all) there),
  ) apart

  two : AreTwo before (IsHeldView known) before (IsHeldView (known_brought before))
  two = record { first = first; second = second; among = each_from (λ d. In d before) before (λ d i. i) }

  pub passes : Each ChangesetFits (own before after b) → changeset_side_collides (known_brought before) before b ≡ false → FilesPass (known_brought before) objects before b.commit b
  passes fits clash =
      let t = ground_table before (IsHeldView known) first in
      let back = way_back before (IsHeldView known) t first.apart b.changeset b.commit view plain r.bodies few more partner in
      let low = not_deep_back before (IsHeldView known) t first.apart b.changeset b.commit view plain r.bodies few partner (r.gets).not_deep in
      let free = no_collision_back before (IsHeldView known) t first.apart objects b.changeset b.commit view plain r.bodies few partner (r.gets).not_deep (r.gets).no_collision in
      let whole : b ≡ block_with before b.changeset b.commit = λ i. record { links = links i; changeset = b.changeset; commit = b.commit } in
      record {
        no_collision = λ m. free (collision_up before (IsHeldView known) before (IsHeldView (known_brought before)) two objects (OfGit b.commit) paired m);
        not_deep = λ m. low (deep_up before (IsHeldView known) before (IsHeldView (known_brought before)) two (OfGit b.commit) paired m);
        block = (b.changeset, changeset_for_down before (IsHeldView known) before (IsHeldView (known_brought before)) two b.commit b.changeset back, whole);
        fits = fits;
        files_in_time = (r.gets).files_in_time;
        manifest_in_time = (r.gets).manifest_in_time;
        apart = clash;
      }

-- ---- the law

commits_by : (known : List Revision) (objects : List Object) (k : Kept) → IsGround k.blocks (IsHeldView known) → AreShaped k → AreBlobsApart (changesets_in k.blocks) → AreCommitsRead objects k.blocks
    → (before rest : List Block) → k.blocks ≡ before ++ rest → Holds known objects before rest → CommitsBring (known_brought before) objects before (map id_of rest) rest
unfolding CommitsBring Holds
commits_by known objects k g shaped apart read before [] e h = refl
commits_by known objects k g shaped apart read before (b ∷ rest) e h =
    let first = ground_front before (b ∷ rest) (IsHeldView known) (subst (λ (x : List Block). IsGround x (IsHeldView known)) e g) in
    let second = shaped.grounds before (b ∷ rest) e in
    let among : In b k.blocks = subst (In b) (sym e) (in_right b before (b ∷ rest) (inl refl)) in
    let at = λ (P : ChangesetView → Type 0) (each : Each P (changesets_in k.blocks)). each_own before rest b P (subst (λ (x : List Block). Each P (changesets_in x)) e each) in
    let view = (Each-rest IsChangesetView b.links (b.changeset ∷ []) (at IsChangesetView shaped.changesets)).0 in
    let sound = each_in (λ b. IsCommitView b.commit) k.blocks b shaped.commits among in
    let plain = each_in (λ b. is_link_view b.changeset ≡ false) k.blocks b g.no_links among in
    let clash = no_clash (known_brought before) before rest b (λ r i. in-all [] (revisions_in (changesets_in before)) r i) (subst (λ (x : List Block). has_distinct (map changeset_node (changesets_in x)) ≡ true) e g.nodes) (subst (λ (x : List Block). has_otherwise (revisions_in (changesets_in x)) ≡ false) e shaped.one_revision)
    (subst (λ (x : List Block). Each (λ r. is_null r.node ≡ false) (revisions_in (changesets_in x))) e shaped.real) in
    let here = passes known objects before rest b first second view sound plain (subst (λ (x : List Block). AreBlobsApart (changesets_in x)) e apart) h.0 (at ChangesetFits shaped.fits) clash in
    let gives : CommitGives (known_brought before) objects before (id_of b) b = record {
      view = b.commit;
      is_held = each_in (λ b. IsCommitHeld objects (id_of b) b.commit) k.blocks b read.held among;
      walks = each_in (λ b. walk_fault objects ((b.commit).value).tree_id ≡ None) k.blocks b read.walks among;
      passes = here;
    } in
    let later = commits_by known objects k g shaped apart read (before ++ b ∷ []) rest (e ∙ sym (append_assoc before (b ∷ []) rest)) h.1 in
    (b, rest, refl, gives, subst (λ (x : List Revision). CommitsBring x objects (before ++ b ∷ []) (map id_of rest) rest) (sym (known_push [] before b)) later)

pub commits_bring : (known : List Revision) (objects : List Object) (k : Kept) → IsGround k.blocks (IsHeldView known) → AreShaped k → AreBlobsApart (changesets_in k.blocks) → AreCommitsRead objects k.blocks
    → Holds known objects [] k.blocks → CommitsBring [] objects [] (map id_of k.blocks) k.blocks
commits_bring known objects k g shaped apart read h = commits_by known objects k g shaped apart read [] k.blocks refl h
