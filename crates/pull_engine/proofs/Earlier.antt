-- The parents of what a pull brings belong to earlier changesets, whether or not a limit is passed.
use Rattle.std.proofs.Common.{◌≡◌, List, [], ◌++◌, Ok, sym, subst, append-nil}
use Rattle.text_model.specs.Lists.{Each}
use Rattle.text_model.specs.Text.{Bytes}
use Rattle.text_model.specs.Id.{Id}
use Rattle.hg_model.specs.Reading.{Arrival, bundle_reading}
use Rattle.git_model.specs.Order.{IsOrder}
use Rattle.git_model.specs.Stream.{Placed, stream_reading}
use Rattle.pair_model.specs.Block.{Block, changesets_in}
use Rattle.history_model.specs.Pull.{State, BundleBrings, StreamBrings, known_with, objects_with, revisions_among, changesets_among, ancestries, saved_ids}
use Rattle.state_model.specs.Kept as saved
use Rattle.state_model.specs.Kept.{kept_of}
use Rattle.state_model.specs.Saved.{IsState}
use Rattle.saved_model.specs.Step.{known_of}
use Rattle.hg_dump_law.specs.Taken.{AreParentsEarlier}
use Rattle.dump_law.proofs.Earlier.{dump-earlier}
use Rattle.pull_law.proofs.Known.{own-some}
use Rattle.pull_law.proofs.Placements.{order-distinct}
use Rattle.pull_law.proofs.CommitBlocks.{GoesOn}
use Rattle.next_law.proofs.InTime.{HasNullManifest}
use Rattle.next_law.proofs.Known.{saved-of, sound-known}
use Rattle.next_law.proofs.NewBlocks.{AreNew, IsOfBundle, IsOfStream, each-turned, bundle-blocks, stream-blocks}
use Rattle.next_law.proofs.EarlierLeft.{bundle-timely, stream-timely, TimelyBehind, earlier-on, null-views}
use Rattle.next_law.proofs.Pulls.{own, checked}

-- ---- what is brought to a saved state

module _ (m : saved.State) (is : IsState m) where
  abbrev s : State
  s = known_of (kept_of m)

  behind-all : (new : List Block) → AreNew (TimelyBehind m.blocks) [] new → AreParentsEarlier [] (changesets_in (m.blocks ++ new))
  behind-all new timed =
      let saved = saved-of m is in
      let nil = sym (append-nil m.blocks) in
      earlier-on m.blocks [] new timed
      (subst (λ (l : List Block). Each HasNullManifest (changesets_in l)) nil (null-views (changesets_in m.blocks) (saved.dumped).views))
      (subst (λ (l : List Block). AreParentsEarlier [] (changesets_in l)) nil (dump-earlier (changesets_in m.blocks) saved.dumped))

  pub bundle-earlier : (bundle : Bytes) (arrivals : List Arrival) (new : List Block) → bundle_reading s.revisions bundle ≡ Ok arrivals → BundleBrings s arrivals new
      → AreParentsEarlier [] (changesets_in (m.blocks ++ new))
  bundle-earlier bundle arrivals new reads brings =
      let sound = sound-known (kept_of m) (saved-of m is) in
      let known = known_with s arrivals in
      behind-all new (each-turned (IsOfBundle s known) (TimelyBehind m.blocks) (λ front b x each. bundle-timely s known front b x each) [] new
      (bundle-blocks s known (own s sound bundle arrivals reads) (revisions_among (changesets_among arrivals)) new sound.blocks brings.brings))

  pub goes-on : (came : List Placed) (ordered : List Id) → IsOrder (ancestries came) (saved_ids s) ordered → GoesOn s.revisions m.blocks ordered
  goes-on came ordered order =
      let sound = sound-known (kept_of m) (saved-of m is) in
      record {
        some = own-some s.revisions sound.revisions;
        table = sound.blocks;
        distinct = order-distinct (ancestries came) (saved_ids s) ordered order (sound.blocks).ids;
      }

  pub stream-earlier : (stream : Bytes) (came : List Placed) (new : List Block) → stream_reading s.objects stream ≡ Ok came → StreamBrings s came new
      → AreParentsEarlier [] (changesets_in (m.blocks ++ new))
  stream-earlier stream came new reads brings =
      let sound = sound-known (kept_of m) (saved-of m is) in
      let objects = objects_with s came in
      behind-all new (each-turned (IsOfStream s objects) (TimelyBehind m.blocks) (λ front b x each. stream-timely s objects front b x each) [] new
      (stream-blocks s objects (checked s sound stream came reads) brings.ordered new (goes-on came brings.ordered brings.order) brings.brings))
