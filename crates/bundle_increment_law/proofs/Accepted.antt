-- The bundle of new changesets is accepted over the history behind which they come, where both histories are saved and the later one is right.
use Rattle.std.proofs.Common.{◌≡◌, Bool, true, false, List, [], ◌∷◌, ◌++◌, map, refl, sym, ap, subst, ◌∙◌, append-nil, append_assoc}
use Rattle.std.proofs.lemmas.Bool.{true≢false}
use Rattle.text_model.specs.Lists.{Each, In}
use Rattle.text_model.specs.Text.{Bytes}
use Rattle.text_model.specs.Id.{is_null}
use Rattle.text_model.specs.Fault.{Refusal}
use Rattle.text_model.proofs.Elements.{each_from, each_in, in_map, in_right}
use Rattle.text_model.proofs.Options.{none_some}
use Rattle.hg_model.specs.Revision.{Revision, Changesets, revision_of, known_after_all}
use Rattle.hg_model.specs.Reading.{Arrival}
use Rattle.git_model.specs.Object.{Object}
use Rattle.view_model.specs.View.{ChangesetView, ChangesetFits, changeset_node}
use Rattle.view_model.specs.Held.{AreChangesetsHeld}
use Rattle.view_model.specs.Dump.{own_revision, revisions_in, of_group, brought_by, hg_increment}
use Rattle.pair_model.specs.Block.{Block, changesets_in}
use Rattle.partner_model.specs.Partner.{IsHeldView}
use Rattle.history_model.specs.Pull.{BringBlocks, BundleBrings, IsOrphan, Dangles, changesets_among, revisions_among, known_with}
use Rattle.state_model.specs.Kept.{Kept, State, kept_of}
use Rattle.state_model.specs.Saved.{AreDumped, passes_limit, IsState}
use Rattle.saved_model.specs.Step.{AcceptsBundle, Refuses, OfBundle, next_of, known_of, dump_revisions}
use Rattle.verify_model.specs.Holds.{Holds, StateHolds}
use Rattle.hg_dump_law.specs.Taken.{Brings, in_bundle_order}
use Rattle.dump_law.proofs.Dumped.{find_none}
use Rattle.dump_law.proofs.Grows.{revisions_in-append}
use Rattle.dump_law.proofs.Sums.{limit-is-kept}
use Rattle.pull_law.specs.Sound.{HasOwnNode}
use Rattle.pull_law.proofs.Known.{AreSome, no-null, own-some}
use Rattle.pull_law.proofs.Members.{apart}
use Rattle.history_law.proofs.Dumps.{each-dumped}
use Rattle.next_law.proofs.Alike.{all-like}
use Rattle.next_law.proofs.Known.{IsSaved, held-known, sound-known, saved-of}
use Rattle.next_law.proofs.LikeNew.{in-all}
use Rattle.next_law.proofs.Pulls.{own}
use Rattle.next_law.proofs.Room.{none-passed}
use Rattle.closure_model.specs.Shaped.{AreShaped}
use Rattle.frame_law.specs.Ground.{IsGround}
use Rattle.frame_law.proofs.Fronts.{changesets_front, each_held}
use Rattle.arrival_law.proofs.Bundle.{among-group}
use Rattle.arrival_law.proofs.Whole.{shaped}
use Rattle.right_law.specs.Views.{AreViews}
use Rattle.right_law.proofs.Accepted.{no_orphan, no_dangling, none_large}
use Rattle.right_law.proofs.Changesets.{by_nodes, brings_by}
use Rattle.right_law.proofs.Closed.{accepted_bundle, own_nodes}
use Rattle.bundle_increment_law.specs.Increment.{BundleGoesOn}
use Rattle.bundle_increment_law.proofs.Arrives as increment
use Rattle.bundle_increment_law.proofs.Arrives.{IsOfOld, brought-among}
use Rattle.bundle_increment_law.proofs.Objects.{commits-there, one-known, objects-stay}

-- what holds of a history holds of its last blocks
holds-rest : (known : List Revision) (objects : List Object) (seen front rest : List Block) → Holds known objects seen (front ++ rest) → Holds known objects (seen ++ front) rest
unfolding Holds
holds-rest known objects seen [] rest h = subst (λ (bs : List Block). Holds known objects bs rest) (sym (append-nil seen)) h
holds-rest known objects seen (b ∷ front) rest h =
    subst (λ (bs : List Block). Holds known objects bs rest) (append_assoc seen (b ∷ []) front) (holds-rest known objects (seen ++ b ∷ []) front rest h.1)

-- what is known of a saved history is of its changesets
of-old : (k : Kept) → IsSaved k → IsOfOld (known_of k).revisions (changesets_in k.blocks)
of-old k saved =
    let hs = changesets_in k.blocks in
    let rs = revisions_in hs in
    let dump : Each (λ r. In r rs) (dump_revisions hs) = each-dumped (λ r. In r rs) hs (each_from (λ r. In r rs) rs (λ r i. i)) in
    record {
      among = each_from (λ r. In r rs) (known_of k).revisions (λ r i. each_in (λ r. In r rs) (dump_revisions hs) r dump (in-all [] (dump_revisions hs) r i));
      like = all-like (known_of k).revisions hs (held-known k saved);
    }

module _ (k : Kept) (new : List Block) (tags : List Object) (saved : IsSaved k) (then : IsSaved (next_of k new tags)) where
  abbrev next : Kept
  next = next_of k new tags

  abbrev old : List ChangesetView
  old = changesets_in k.blocks

  abbrev fresh : List ChangesetView
  fresh = changesets_in new

  abbrev base : List Revision
  base = (known_of k).revisions

  abbrev bundle : Bytes
  bundle = hg_increment (revisions_in (changesets_in (k.blocks ++ new))) old fresh

  abbrev brought : List Revision
  brought = in_bundle_order (brought_by old fresh)

  whole : changesets_in (k.blocks ++ new) ≡ old ++ fresh
  whole = changesets_front k.blocks new

  shape : AreShaped next
  shape = shaped next then

  dumped : AreDumped (old ++ fresh)
  dumped = subst AreDumped whole then.dumped

  fits : Each ChangesetFits (old ++ fresh)
  fits = subst (Each ChangesetFits) whole shape.fits

  some : Each (λ r. is_null r.node ≡ false) (revisions_in (old ++ fresh))
  some = subst (λ hs. Each (λ r. is_null r.node ≡ false) (revisions_in hs)) whole shape.real

  brings : Brings base bundle brought
  brings = subst (λ hs. Brings base (hg_increment (revisions_in hs) old fresh) brought) (sym whole) (increment.reads base old fresh dumped fits some (of-old k saved))

  abbrev arrivals : List Arrival
  arrivals = brings.0

  -- ---- what is known with it

  abbrev came : List Revision
  came = known_with (known_of k) arrivals

  own-came : Each HasOwnNode came
  own-came = own (known_of k) (sound-known k saved) bundle arrivals brings.1

  some-came : AreSome came
  some-came = own-some came own-came

  held-came : Each (IsHeldView came) (changesets_in (k.blocks ++ new))
  held-came =
      let held = increment.held-then base old fresh dumped fits some (of-old k saved) in
      let revisions : revisions_among arrivals ≡ brought = brings.2 in
      each_held came (changesets_in (k.blocks ++ new))
      (subst (λ hs. AreChangesetsHeld came (map changeset_node hs) hs) (sym whole)
      (subst (λ rs. AreChangesetsHeld (known_after_all base rs) (map changeset_node (old ++ fresh)) (old ++ fresh)) (sym revisions) held))

  ground-came : IsGround (k.blocks ++ new) (IsHeldView came)
  ground-came = record {
    nodes = (shape.ground).nodes;
    ids = (shape.ground).ids;
    rows = (shape.ground).rows;
    known = held-came;
    no_links = (shape.ground).no_links;
    apart = apart came (no-null came some-came);
    real = λ v held n. none_some (sym (find_none Changesets came some-came) ∙ ap (revision_of came Changesets) (sym n) ∙ held.is_held);
  }

  -- ---- the bundle is accepted

  module _ (h : Holds (known_of next).revisions (known_of next).objects [] (k.blocks ++ new)) where
    blocks-brought : BringBlocks came (known_of k).objects k.blocks (revisions_among (changesets_among arrivals)) new
    blocks-brought =
        let all = (known_of next).objects in
        let views : AreViews (k.blocks ++ new) = record { changesets = shape.changesets; commits = shape.commits } in
        let nodes : map (λ (r : Revision). r.node) (revisions_among (changesets_among arrivals)) ≡ map changeset_node fresh =
        ap (map (λ (r : Revision). r.node)) (among-group arrivals ∙ ap (of_group Changesets) brings.2) ∙ increment.nodes base old fresh dumped fits some (of-old k saved) (saved.dumped).distinct in
        let right = holds-rest (known_of next).revisions all [] k.blocks new h in
        by_nodes came (known_of k).objects k.blocks (map own_revision fresh) (revisions_among (changesets_among arrivals)) new (own_nodes fresh ∙ sym nodes)
        (brings_by (known_of next).revisions came all all (k.blocks ++ new) shape.ground ground-came views shape.links (one-known next then) (commits-there next then) (λ o i. i)
        (known_of k).objects (objects-stay k new tags saved then) k.blocks new refl right)

    among : (a : Arrival) → In a arrivals → In a.revision (revisions_in (changesets_in (k.blocks ++ new)))
    among a i =
        let its = subst (λ rs. In a.revision rs) brings.2 (in_map (λ (x : Arrival). x.revision) a arrivals i) in
        subst (λ hs. In a.revision (revisions_in hs)) (sym whole) (subst (λ rs. In a.revision rs) (sym (revisions_in-append old fresh))
        (in_right a.revision (revisions_in old) (revisions_in fresh) (brought-among old fresh a.revision its)))

    bundle-brings : BundleBrings (known_of k) arrivals new
    bundle-brings = record {
      brings = blocks-brought;
      no_orphan = each_from (λ a. ¬ (IsOrphan came a)) arrivals (λ a i. no_orphan came (changesets_in (k.blocks ++ new)) held-came (no-null came some-came) a (among a i));
      no_dangling = each_from (λ a. ¬ (Dangles came (k.blocks ++ new) a)) arrivals (λ a i. no_dangling came (k.blocks ++ new) a (among a i));
    }

    -- a limit once passed stays passed
    front-small : (first after : List Block) → k.blocks ++ new ≡ first ++ after → passes_limit (record { blocks = first; tags = k.tags }) ≡ false
    front-small first after e = by (passes_limit (record { blocks = first; tags = k.tags })) refl
      where
        by : (t : Bool) → passes_limit (record { blocks = first; tags = k.tags }) ≡ t → passes_limit (record { blocks = first; tags = k.tags }) ≡ false
        by true f =
            let more : passes_limit (record { blocks = first ++ after; tags = next.tags }) ≡ true = limit-is-kept (record { blocks = first; tags = k.tags }) after tags f in
            absurd (true≢false (sym more ∙ ap (λ (l : List Block). passes_limit (record { blocks = l; tags = next.tags })) (sym e) ∙ none-passed next then))
        by false f = f

    pub accepted : AcceptsBundle k bundle new
    accepted = record { arrivals = arrivals; reads = brings.1; brings = bundle-brings; small = none_large k.tags k.blocks new front-small }

    pub no-fault : (why : Refusal) → ¬ (Refuses k (OfBundle bundle) why)
    no-fault why = accepted_bundle k bundle new why (sound-known k saved) accepted

-- ---- from state to state

pub goes_on : (s next : State) (new : List Block) (tags : List Object) → IsState s → IsState next → kept_of next ≡ next_of (kept_of s) new tags → StateHolds next → BundleGoesOn (kept_of s) new
goes_on s next new tags is on e h =
    let saved = saved-of s is in
    let then = subst IsSaved e (saved-of next on) in
    let right = subst (λ (k : Kept). Holds (known_of k).revisions (known_of k).objects [] k.blocks) e h in
    record { accepted = (accepted (kept_of s) new tags saved then right, refl); no_fault = no-fault (kept_of s) new tags saved then right }
