-- What an accepted pull over a sound history shows of its new blocks.
use Rattle.std.proofs.Common.{◌≡◌, List, [], ◌++◌, Ok, sym, subst, ◌∙◌, arith, append-nil}
use Rattle.text_model.specs.Lists.{Each}
use Rattle.text_model.specs.Text.{Bytes}
use Rattle.text_model.specs.Id.{object_id}
use Rattle.hg_model.specs.Bundle.{bundle_framing}
use Rattle.hg_model.specs.Reading.{Arrival, bundle_reading}
use Rattle.hg_bundle.specs.Brought.{AreAdditions}
use Rattle.hg_bundle.proofs.Reading.{reading_is}
use Rattle.hg_bundle.proofs.Taken.{all_taken}
use Rattle.git_model.specs.Object.{Object}
use Rattle.git_model.specs.Stream.{Placed, IsChecked, stream_reading}
use Rattle.git_batch.proofs.StreamLaws.{brings_only}
use Rattle.pair_model.specs.Block.{Block}
use Rattle.partner_model.specs.Table.{IsTable}
use Rattle.history_model.specs.Pull.{State, known_with, objects_with, objects_among, revisions_among, changesets_among, ancestries, saved_ids}
use Rattle.saved_model.specs.Step.{AcceptsBundle, AcceptsStream, known_of}
use Rattle.state_model.specs.Kept.{Kept}
use Rattle.pull_law.specs.Sound.{HasOwnNode, IsSoundState}
use Rattle.pull_law.proofs.Known.{AreSome, own-some, own-after, objects-after}
use Rattle.pull_law.proofs.Placements.{order-distinct}
use Rattle.pull_law.proofs.Blocks.{brings-table}
use Rattle.pull_law.proofs.CommitBlocks.{GoesOn, brings-on}
use Rattle.next_law.proofs.Objects.{HasContent, adds-contents}
use Rattle.next_law.proofs.NewBlocks.{AreNew, IsOfBundle, IsOfStream, bundle-blocks, stream-blocks, known_behind}

-- ---- a bundle

module _ (s : State) (sound : IsSoundState s) (bundle : Bytes) (arrivals : List Arrival) (reads : bundle_reading s.revisions bundle ≡ Ok arrivals) where
  pub additions : AreAdditions s.revisions 0 (revisions_among arrivals)
  additions =
      let f = bundle_framing bundle in
      (all_taken s.revisions [] 0 f.items f.bad arrivals (omega arith) (sym (reading_is s.revisions bundle) ∙ reads)).additions

  pub own : Each HasOwnNode (known_with s arrivals)
  own = own-after s.revisions 0 (revisions_among arrivals) sound.revisions additions

pub bundle-new : (k : Kept) → IsSoundState (known_of k) → (bundle : Bytes) (new : List Block) (a : AcceptsBundle k bundle new)
    → AreNew (IsOfBundle (known_of k) (known_with (known_of k) a.arrivals)) [] new
bundle-new k sound bundle new a =
    let s = known_of k in
    bundle-blocks s (known_with s a.arrivals) (own s sound bundle a.arrivals a.reads) (revisions_among (changesets_among a.arrivals)) new sound.blocks (a.brings).brings

pub bundle-table : (k : Kept) → IsSoundState (known_of k) → (bundle : Bytes) (new : List Block) → AcceptsBundle k bundle new → IsTable (k.blocks ++ new)
bundle-table k sound bundle new a =
    let s = known_of k in
    brings-table (known_with s a.arrivals) (own s sound bundle a.arrivals a.reads) s.objects s.blocks (revisions_among (changesets_among a.arrivals)) new sound.blocks (a.brings).brings

-- ---- a stream

module _ (s : State) (sound : IsSoundState s) (stream : Bytes) (came : List Placed) (reads : stream_reading s.objects stream ≡ Ok came) where
  pub checked : IsChecked (objects_with s came)
  checked = objects-after (λ (o : Object). o.id ≡ object_id o.kind o.content) s.objects (objects_among came) sound.objects
      (brings_only s.objects stream came reads).1

  pub contents : Each HasContent s.objects → Each HasContent (objects_with s came)
  contents old = objects-after HasContent s.objects (objects_among came) old (adds-contents s.objects (objects_among came) (brings_only s.objects stream came reads).2)

goes-on : (k : Kept) → IsSoundState (known_of k) → (stream : Bytes) (new : List Block) (tags : List Object) (a : AcceptsStream k stream new tags)
    → GoesOn (known_of k).revisions k.blocks (a.brings).ordered
goes-on k sound stream new tags a =
    let s = known_of k in
    record {
      some = own-some s.revisions sound.revisions;
      table = sound.blocks;
      distinct = order-distinct (ancestries a.came) (saved_ids s) (a.brings).ordered (a.brings).order (sound.blocks).ids;
    }

pub stream-new : (k : Kept) (sound : IsSoundState (known_of k)) (stream : Bytes) (new : List Block) (tags : List Object) (a : AcceptsStream k stream new tags)
    → AreNew (IsOfStream (known_of k) (objects_with (known_of k) a.came)) [] new
stream-new k sound stream new tags a =
    let s = known_of k in
    stream-blocks s (objects_with s a.came) (checked s sound stream a.came a.reads) (a.brings).ordered new (goes-on k sound stream new tags a) (a.brings).brings

pub stream-table : (k : Kept) → IsSoundState (known_of k) → (stream : Bytes) (new : List Block) (tags : List Object) → AcceptsStream k stream new tags → IsTable (k.blocks ++ new)
stream-table k sound stream new tags a =
    let s = known_of k in
    (brings-on (objects_with s a.came) (checked s sound stream a.came a.reads) s.revisions s.blocks (a.brings).ordered [] new
    (subst (GoesOn s.revisions s.blocks) (sym (append-nil (a.brings).ordered)) (goes-on k sound stream new tags a)) (a.brings).brings).table

-- no revision that is known behind them has the null id
pub stream-some : (k : Kept) → IsSoundState (known_of k) → (stream : Bytes) (new : List Block) (tags : List Object) → AcceptsStream k stream new tags → AreSome (known_behind (known_of k) new)
stream-some k sound stream new tags a =
    let s = known_of k in
    (brings-on (objects_with s a.came) (checked s sound stream a.came a.reads) s.revisions s.blocks (a.brings).ordered [] new
    (subst (GoesOn s.revisions s.blocks) (sym (append-nil (a.brings).ordered)) (goes-on k sound stream new tags a)) (a.brings).brings).some
