-- An accepted pull over the history of those before it.
use Rattle.std.proofs.Common.{◌≡◌, true, List, [], ◌∷◌, ◌++◌, map, Ok, refl, sym, ap, subst, ◌∙◌, append_assoc, inl}
use Rattle.text_model.specs.Lists.{Each}
use Rattle.text_model.specs.Text.{Bytes}
use Rattle.text_model.specs.Id.{Id, object_id}
use Rattle.text_model.proofs.EachLemmas.{Each-rest, Each-weaker}
use Rattle.text_model.proofs.Elements.{flat_map_append}
use Rattle.hg_model.specs.Revision.{Revision, known_after_all}
use Rattle.hg_model.specs.Reading.{Arrival, bundle_reading}
use Rattle.git_model.specs.Object.{Object}
use Rattle.git_model.specs.Order.{IsOrder}
use Rattle.git_model.specs.Stream.{Placed, IsChecked, stream_reading}
use Rattle.git_model.specs.Tree.{has_distinct}
use Rattle.view_model.specs.View.{ChangesetView, IsChangesetView, changeset_node}
use Rattle.view_model.specs.Held.{IsChangesetHeld}
use Rattle.pair_model.specs.Block.{Block, node_of, id_of, changesets_in}
use Rattle.partner_model.specs.Partner.{IsHeldView}
use Rattle.history_model.specs.Pull.{revisions_among, known_with, objects_among, objects_with, ancestries, saved_ids}
use Rattle.state_model.specs.Kept.{Kept}
use Rattle.saved_model.specs.Step.{Pull, OfBundle, OfStream, known_of, Accepts, Steps}
use Rattle.saved_model.specs.History.{Brought, nothing, and_then, HaveBrought, IsHistory, MembersOf, AreBlocksOf, kept}
use Rattle.hg_view.proofs.Grown.{more-all, view-more}
use Rattle.pull_law.proofs.Known.{own-some, objects-after, held-node}
use Rattle.pull_law.proofs.Placements.{order-distinct}
use Rattle.history_law.specs.Sound.{AreRight, AreOfBlocks, HasViews, IsSound}
use Rattle.history_law.proofs.Known.{changesets_of}
use Rattle.history_law.proofs.Dumps.{known-from}
use Rattle.history_law.proofs.Read.{read-own, read-checked}
use Rattle.history_law.proofs.Blocks.{blocks-both, bundle-members}
use Rattle.history_law.proofs.Streams.{stream-members}

-- ---- what is known

module _ (k : Kept) (sound : IsSound k) where
  saved-blocks : (known : List Revision) (blocks : List Block) → Each (IsHeldView known) (changesets_in blocks) → Each (λ b. IsChangesetHeld known (node_of b) b.changeset) blocks
  saved-blocks known [] held = tt
  saved-blocks known (b ∷ blocks) held =
      let own = Each-rest (IsHeldView known) b.links (b.changeset ∷ changesets_in blocks)
      (subst (Each (IsHeldView known)) (block-append b (changesets_in blocks)) held) in
      (own.0, saved-blocks known blocks own.1)
    where
      block-append : (b : Block) (hs : List ChangesetView) → changesets_of b ++ hs ≡ b.links ++ b.changeset ∷ hs
      block-append b hs = append_assoc b.links (b.changeset ∷ []) hs

  -- the revisions that are known with a bundle
  bundle-right : (bundle : Bytes) (arrivals : List Arrival) → bundle_reading (known_of k).revisions bundle ≡ Ok arrivals → AreRight (known_with (known_of k) arrivals) k.blocks
  bundle-right bundle arrivals reads =
      let old = (known_of k).revisions in
      let rs = revisions_among arrivals in
      let own = read-own old bundle arrivals (sound.state).revisions reads in
      let held = Each-weaker (IsHeldView old) (IsHeldView (known_after_all old rs))
      (λ h x. view-more old (known_after_all old rs) (more-all old rs) (changeset_node h) h x) (changesets_in k.blocks) sound.held in
      record {
        nodes = λ node h x. (held-node (known_after_all old rs) node h own x).0;
        saved = saved-blocks (known_after_all old rs) k.blocks held;
      }

  -- the objects that are known with a stream
  stream-checked : (stream : Bytes) (came : List Placed) → stream_reading (known_of k).objects stream ≡ Ok came → IsChecked (objects_with (known_of k) came)
  stream-checked stream came reads =
      objects-after (λ (o : Object). o.id ≡ object_id o.kind o.content) (known_of k).objects (objects_among came) (sound.state).objects
      (read-checked (known_of k).objects stream came reads).1

  of-blocks : AreOfBlocks (known_of k).revisions k.blocks
  of-blocks = record { some = own-some (known_of k).revisions (sound.state).revisions; held = sound.held; only = known-from k.blocks }

  order-apart : (came : List Placed) (ordered : List Id) → IsOrder (ancestries came) (saved_ids (known_of k)) ordered → has_distinct (map id_of k.blocks ++ ordered) ≡ true
  order-apart came ordered order = order-distinct (ancestries came) (saved_ids (known_of k)) ordered order ((sound.state).blocks).ids

-- ---- what a pull brought

-- what an accepted pull brought, over the state that it was asked of
record Members (k : Kept) (pull : Pull) (new : List Block) (tags : List Object) : Type 0 where
  more : Brought
  members : MembersOf k pull more
  blocks : AreBlocksOf k.blocks more.members new
  tags_are : tags ≡ more.tags

members-of : (k : Kept) (pull : Pull) (new : List Block) (tags : List Object) → IsSound k → Each IsChangesetView (changesets_in new) → Accepts k pull new tags → Members k pull new tags
members-of k (OfBundle bundle) new tags sound views (accepts, none) =
    let its = bundle-members _ _ k.blocks new _ (bundle-right k sound bundle accepts.arrivals accepts.reads) (accepts.brings).brings in
    record {
      more = record { members = its.0; tags = [] };
      members = record { arrivals = accepts.arrivals; reads = accepts.reads; members = its.1; no_tags = refl };
      blocks = its.2;
      tags_are = none;
    }
members-of k (OfStream stream) new tags sound views accepts =
    let came = accepts.came in
    let ordered = (accepts.brings).ordered in
    let its = stream-members (objects_with (known_of k) came) (stream-checked k sound stream came accepts.reads) (known_of k).revisions k.blocks new ordered (of-blocks k sound)
    (order-apart k sound came ordered (accepts.brings).order) views (accepts.brings).brings in
    record {
      more = record { members = its.0; tags = tags };
      members = record { came = came; reads = accepts.reads; ordered = ordered; order = (accepts.brings).order; members = its.1; tags = accepts.tags_are };
      blocks = its.2;
      tags_are = refl;
    }

pub accepted : (pulls : List Pull) (k : Kept) (pull : Pull) (next : Kept) (made : Bytes) → IsSound k → HasViews next → IsHistory pulls k → Steps k pull next made → IsHistory (pull ∷ pulls) next
unfolding HaveBrought
accepted pulls k pull next made sound views h (new, tags, accepts, next-is, made-is) =
    let all : Each IsChangesetView (changesets_in (k.blocks ++ new)) = subst HasViews next-is views in
    let own : Each IsChangesetView (changesets_in new) = Each-rest IsChangesetView (changesets_in k.blocks) (changesets_in new)
    (subst (Each IsChangesetView) (flat_map_append changesets_of k.blocks new) all) in
    let its = members-of k pull new tags sound own accepts in
    let over = λ (old : List Object). kept k.blocks old in
    subst (λ (n : Kept). IsHistory (pull ∷ pulls) n) (sym next-is) (record {
      brought = and_then h.brought its.more;
      accepted = (
        h.brought,
        h.accepted,
        k.blocks,
        h.converted,
        inl (
          new,
          tags,
          subst (λ (old : List Object). Accepts (over old) pull new tags) h.tags_are accepts,
          its.more,
          subst (λ (old : List Object). MembersOf (over old) pull its.more) h.tags_are its.members,
          refl,
        ),
      );
      converted = blocks-both [] k.blocks new (h.brought).members (its.more).members h.converted its.blocks;
      tags_are = ap (λ (old : List Object). old ++ tags) h.tags_are ∙ ap (λ (t : List Object). (h.brought).tags ++ t) its.tags_are;
    })

pub no-pulls : IsHistory [] (kept [] [])
unfolding HaveBrought AreBlocksOf
no-pulls = record { brought = nothing; accepted = refl; converted = refl; tags_are = refl }
