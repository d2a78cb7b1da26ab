-- The bundle of a right history is accepted where nothing is saved, and refused by nothing.
use Rattle.std.proofs.Common.{◌≡◌, Bool, true, false, List, [], ◌∷◌, ◌++◌, map, refl, sym, ap, subst, ◌∙◌, inl, inr}
use Rattle.std.proofs.lemmas.Bool.{true≢false}
use Rattle.text_model.specs.Lists.{Each, In}
use Rattle.text_model.specs.Text.{Bytes}
use Rattle.text_model.specs.Fault.{Refusal}
use Rattle.text_model.proofs.Elements.{each_from, each_in}
use Rattle.text_model.proofs.Options.{none_some}
use Rattle.hg_model.specs.Revision.{Revision, known_after_all}
use Rattle.hg_model.specs.Reading.{Arrival, bundle_reading}
use Rattle.git_model.specs.Object.{Object}
use Rattle.view_model.specs.View.{ChangesetView, changeset_node}
use Rattle.view_model.specs.Dump.{own_revision, revisions_in, objects_in, git_increment, brought_by, paths_in}
use Rattle.pair_model.specs.Block.{Block, changesets_in, commits_in}
use Rattle.history_model.specs.Pull.{State, empty_state, BringBlocks, BundleBrings, IsOrphan, Dangles, PullHgMakes, revisions_among, changesets_among, known_with}
use Rattle.state_model.specs.Kept.{Kept, hg_dump}
use Rattle.state_model.specs.Saved.{passes_limit}
use Rattle.saved_model.specs.Step.{known_of, in_written_order, AcceptsBundle, Refuses, OfBundle, first_large_block}
use Rattle.verify_model.specs.Holds.{Holds}
use Rattle.pull_law.specs.Sound.{IsSoundState}
use Rattle.pull_law.proofs.Bundle.{new-one, one_read, not-both}
use Rattle.dump_law.proofs.Sums.{limit-is-kept}
use Rattle.closure_model.specs.Closure.{nothing}
use Rattle.closure_model.specs.Shaped.{AreShaped, known_dumped}
use Rattle.closure_model.specs.Arrives.{BundleArrives}
use Rattle.right_law.specs.Views.{AreViews}
use Rattle.right_law.proofs.Changesets.{by_nodes, changesets_bring}
use Rattle.right_law.proofs.Accepted.{no_orphan, no_dangling, none_large}

-- ---- nothing is known where nothing is saved

pub nothing_known : known_of nothing ≡ empty_state
unfolding in_written_order brought_by paths_in
nothing_known = refl

-- ---- a bundle that is accepted isn't refused

pub accepted_bundle : (k : Kept) (bundle : Bytes) (new : List Block) (why : Refusal) → IsSoundState (known_of k) → AcceptsBundle k bundle new → Refuses k (OfBundle bundle) why → ⊥
accepted_bundle k bundle new why sound a (inl x) =
    let makes : PullHgMakes (known_of k) bundle (git_increment (commits_in k.blocks) (commits_in new)) = record { arrivals = a.arrivals; reads = a.reads; new = new; brings = a.brings; is = refl } in
    not-both (known_of k) bundle (git_increment (commits_in k.blocks) (commits_in new)) why sound makes x
accepted_bundle k bundle new why sound a (inr x) =
    let same : x.arrivals ≡ a.arrivals = one_read x.arrivals a.arrivals (bundle_reading (known_of k).revisions bundle) x.reads a.reads in
    let blocks : new ≡ x.new = new-one (known_of k) sound bundle a.arrivals a.reads new x.new a.brings (subst (λ (l : List Arrival). BundleBrings (known_of k) l x.new) same x.brings) in
    none_some (sym a.small ∙ ap (first_large_block k) blocks ∙ x.first)

-- ---- the bundle of the whole history

pub own_nodes : (hs : List ChangesetView) → map (λ (r : Revision). r.node) (map own_revision hs) ≡ map changeset_node hs
own_nodes [] = refl
own_nodes (h ∷ hs) = ap (λ (ns : List Bytes). changeset_node h ∷ ns) (own_nodes hs)

module _ (k : Kept) (shaped : AreShaped k) (small : passes_limit k ≡ false) (a : BundleArrives k.blocks) (h : Holds (known_of k).revisions (known_of k).objects [] k.blocks) where
  abbrev known : List Revision
  known = known_dumped k.blocks

  brings : BringBlocks known [] [] (revisions_among (changesets_among a.arrivals)) k.blocks
  brings =
      let views : AreViews k.blocks = record { changesets = shaped.changesets; commits = shaped.commits } in
      let here = λ (o : Object) (i : In o (objects_in (commits_in k.blocks))). each_in (λ p. In p (known_of k).objects) (objects_in (commits_in k.blocks)) o shaped.objects i in
      by_nodes known [] [] (map own_revision (changesets_in k.blocks)) (revisions_among (changesets_among a.arrivals)) k.blocks (own_nodes (changesets_in k.blocks) ∙ sym a.nodes)
      (changesets_bring known known (known_of k).objects k.blocks shaped.ground shaped.ground views shaped.links shaped.one_object here h)

  bundle_brings : BundleBrings empty_state a.arrivals k.blocks
  bundle_brings =
      let came : known ≡ known_with empty_state a.arrivals = sym (ap (known_after_all []) a.revisions) in
      let in_changesets = λ (x : Arrival) (i : In x a.arrivals). each_in (λ (y : Arrival). In y.revision (revisions_in (changesets_in k.blocks))) a.arrivals x a.among i in
      record {
        brings = subst (λ (l : List Revision). BringBlocks l [] [] (revisions_among (changesets_among a.arrivals)) k.blocks) came brings;
        no_orphan = subst (λ (l : List Revision). Each (λ x. ¬ (IsOrphan l x)) a.arrivals) came (each_from (λ x. ¬ (IsOrphan known x)) a.arrivals (λ x i. no_orphan known (changesets_in k.blocks) (shaped.ground).known a.no_null x (in_changesets x i)));
        no_dangling = each_from (λ x. ¬ (Dangles (known_with empty_state a.arrivals) k.blocks x)) a.arrivals (λ x i. no_dangling (known_with empty_state a.arrivals) k.blocks x (in_changesets x i));
      }

  front_small : (first after : List Block) → k.blocks ≡ first ++ after → passes_limit (record { blocks = first; tags = [] }) ≡ false
  front_small first after e = by (passes_limit (record { blocks = first; tags = [] })) refl
    where
      by : (t : Bool) → passes_limit (record { blocks = first; tags = [] }) ≡ t → passes_limit (record { blocks = first; tags = [] }) ≡ false
      by true f =
          let whole : passes_limit (record { blocks = first ++ after; tags = k.tags }) ≡ true = limit-is-kept (record { blocks = first; tags = [] }) after k.tags f in
          absurd (true≢false (sym whole ∙ ap (λ (l : List Block). passes_limit (record { blocks = l; tags = k.tags })) (sym e) ∙ small))
      by false f = f

  pub bundle_accepted : AcceptsBundle nothing (hg_dump (changesets_in k.blocks)) k.blocks
  bundle_accepted = record {
    arrivals = a.arrivals;
    reads = ap (λ (s : State). bundle_reading s.revisions (hg_dump (changesets_in k.blocks))) nothing_known ∙ a.reads;
    brings = subst (λ (s : State). BundleBrings s a.arrivals k.blocks) (sym nothing_known) bundle_brings;
    small = none_large [] [] k.blocks front_small;
  }

  pub no_bundle_fault : (why : Refusal) → ¬ (Refuses nothing (OfBundle (hg_dump (changesets_in k.blocks))) why)
  no_bundle_fault why =
      let sound : IsSoundState empty_state = record { revisions = tt; objects = tt; blocks = record { nodes = refl; ids = refl; there = tt; rows = tt } } in
      accepted_bundle nothing (hg_dump (changesets_in k.blocks)) k.blocks why (subst IsSoundState (sym nothing_known) sound) bundle_accepted
