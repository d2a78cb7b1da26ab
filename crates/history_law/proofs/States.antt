-- What the slot holds is sound, and a history that is saved goes on.
use Rattle.std.proofs.Common.{◌≡◌, List, [], map, Option, Some, None, refl, sym, subst, ◌∙◌, arith}
use Rattle.text_model.specs.Text.{Bytes}
use Rattle.text_model.specs.Fault.{Refusal}
use Rattle.hg_model.specs.Revision.{Revision, known_after_all}
use Rattle.git_model.specs.Stream.{IsChecked}
use Rattle.view_model.specs.View.{ChangesetView, changeset_node}
use Rattle.view_model.specs.Held.{AreChangesetsHeld}
use Rattle.view_model.specs.Dump.{paths_in, brought_by, objects_in}
use Rattle.pair_model.specs.Block.{changesets_in, commits_in}
use Rattle.state_model.specs.Kept.{State, kept_of, empty_state, git_dump}
use Rattle.state_model.specs.Saved.{AreDumped, AreCommitsSaved, AreTagsSaved, IsState, SlotHolds}
use Rattle.saved_model.specs.Step.{in_written_order, Pull, Steps, Refuses}
use Rattle.saved_model.specs.History.{IsHistory, HistoryGoesOn}
use Rattle.saved_model.specs.Theorem.{GoesOn}
use Rattle.hg_dump_law.specs.Taken.{in_bundle_order}
use Rattle.dump_law.proofs.Dumped.{dump-brings}
use Rattle.dump_law.proofs.Order.{dump-held}
use Rattle.dump_law.proofs.StreamRead.{git-brings, stream_is_read}
use Rattle.dump_law.proofs.TextOne.{one_text}
use Rattle.history_law.specs.Sound.{HasViews, IsSound}
use Rattle.history_law.proofs.Read.{read-checked}
use Rattle.history_law.proofs.Blocks.{refused}
use Rattle.history_law.proofs.Accepted.{accepted}
use Rattle.history_law.proofs.Saved.{IsDumpRead, AreObjectsRight, sound, has-views}

-- both orders are that of a bundle
same-order : (rs : List Revision) → in_bundle_order rs ≡ in_written_order rs
unfolding in_bundle_order in_written_order
same-order rs = refl

dump-read : (hs : List ChangesetView) → AreDumped hs → IsDumpRead hs
dump-read hs dumped =
    let brings = dump-brings hs dumped in
    let same = same-order (brought_by [] hs) in
    record {
      arrivals = brings.0;
      reads = brings.1;
      are = brings.2 ∙ same;
      held = subst (λ (rs : List Revision). AreChangesetsHeld (known_after_all [] rs) (map changeset_node hs) hs) same (dump-held hs dumped);
    }

objects-right : (s : State) → IsState s → AreObjectsRight s
objects-right s is =
    let commits : AreCommitsSaved (commits_in s.blocks) = is.1.0.0.0.1 in
    let tags : AreTagsSaved (commits_in s.blocks) s.tags = is.1.0.1 in
    let came = git-brings (commits_in s.blocks) commits in
    let tagged = stream_is_read (objects_in (commits_in s.blocks)) s.tags (omega (arith, tags.short)) tags.read in
    record {
      objects = subst IsChecked came.2 (read-checked [] (git_dump (commits_in s.blocks)) came.0 came.1).1;
      tags = subst IsChecked tagged.are (read-checked (objects_in (commits_in s.blocks)) _ tagged.came tagged.reads).1;
    }

pub saved-sound : (s : State) → IsState s → IsSound (kept_of s)
saved-sound s is = sound s is (dump-read (changesets_in s.blocks) ((is.1.0.0.0.0.1).dumped)) (objects-right s is)

-- nothing is known of the empty state
empty-sound : IsSound (kept_of empty_state)
unfolding in_written_order brought_by paths_in
empty-sound = record {
  state = record { revisions = tt; objects = tt; blocks = record { nodes = refl; ids = refl; there = tt; rows = tt } };
  held = tt;
}

-- ---- the slot

slot-sound : (held : Option Bytes) (s : State) → SlotHolds held s → IsSound (kept_of s)
slot-sound None s is = subst (λ (t : State). IsSound (kept_of t)) (sym is) empty-sound
slot-sound (Some text) s is = saved-sound s is.0

slot-views : (held : Option Bytes) (s : State) → SlotHolds held s → HasViews (kept_of s)
slot-views None s is = subst (λ (t : State). HasViews (kept_of t)) (sym is) tt
slot-views (Some text) s is = has-views s is.0

-- a slot holds one state
pub slot-one : (held : Option Bytes) (s t : State) → SlotHolds held s → SlotHolds held t → s ≡ t
slot-one None s t h k = h ∙ sym k
slot-one (Some text) s t h k = one_text text s t h k

pub goes-on : HistoryGoesOn
goes-on = record {
  accepted = λ pulls before after s next pull made held holds history steps.
      accepted pulls (kept_of s) pull (kept_of next) made (slot-sound before s held) (slot-views after next holds) history steps;
  refused = refused;
}

-- ---- what is claimed of every list of pulls

pub done : (pull : Pull) (before after : Option Bytes) (s next : State) (made : Bytes) → SlotHolds before s → SlotHolds after next
    → Steps (kept_of s) pull (kept_of next) made → GoesOn pull before after None
done pull before after s next made held holds steps pulls (t, saved, history) =
    let same : t ≡ s = slot-one before t s saved held in
    (next, holds, goes-on.accepted pulls before after s next pull made held holds (subst (λ (x : State). IsHistory pulls (kept_of x)) same history) steps)

pub stopped : (pull : Pull) (before after : Option Bytes) (s : State) (why : Refusal) → SlotHolds before s → Refuses (kept_of s) pull why → after ≡ before
    → GoesOn pull before after (Some why)
stopped pull before after s why held refuses same = (
  same,
  λ pulls x.
      let one : x.0 ≡ s = slot-one before x.0 s x.1 held in
      (s, held, refused pulls (kept_of s) pull why (subst (λ (t : State). IsHistory pulls (kept_of t)) one x.2) refuses),
)
