-- Which changesets have these bytes as their dump, from what was read of them.
use Rattle.std.proofs.Common.{◌≡◌, ◌≢◌, ◌<◌, ◌≤◌, true, false, true≢false, List, [], ◌∷◌, length, map, refl, sym, ap, subst, ◌∙◌, arith}
use Rattle.std.specs.Prelude.{IsTrue, is_ok}
use Rattle.std.specs.List.{list_any}
use Rattle.std.proofs.lemmas.List.{length-map}
use Rattle.text_model.specs.Lists.{Each}
use Rattle.text_model.specs.Text.{Bytes}
use Rattle.text_model.specs.Id.{Id}
use Rattle.hg_model.specs.Bundle.{bundle_framing}
use Rattle.hg_model.specs.Revision.{Revision, known_after_all}
use Rattle.hg_model.specs.Reading.{bundle_reading}
use Rattle.git_model.specs.Tree.{has_distinct}
use Rattle.hg_bundle.specs.declared.arrival.Arrival.{Arrival}
use Rattle.hg_bundle.specs.Arrivals.{revisions_of}
use Rattle.hg_bundle.specs.Brought.{AreListed}
use Rattle.hg_bundle.proofs.Reading.{reading_is}
use Rattle.hg_bundle.proofs.Taken.{same_ok, all_taken}
use Rattle.hg_store.specs.Known.{AreAdded}
use Rattle.hg_view.proofs.Right.{held-is_view, held-node}
use Rattle.view_model.specs.View.{ChangesetView, IsChangesetView, changeset_node}
use Rattle.view_model.specs.Held.{AreChangesetsHeld}
use Rattle.view_model.specs.Dump.{brought_by, hg_increment}
use Rattle.state_model.specs.Limits.{changeset_limit}
use Rattle.state_model.specs.Kept.{hg_dump}
use Rattle.state_model.specs.Saved.{AreDumped}
use Rattle.hg_dump_law.specs.Taken.{in_bundle_order}
use Rattle.dump_law.proofs.Dumped.{dump-brings}
use Rattle.dump_law.proofs.DumpOne.{dump-nodes}
use Rattle.dump_law.proofs.Order.{dump-held}
use Rattle.dump_law.proofs.Bases.{dump-same, read-is-dump}
use Rattle.hg_section.specs.declared.section.HgSection.{HgSection}
use Rattle.hg_section.specs.Section.{HoldsChangesets, IsRefused, IsRead, is_again, nodes_of, IsWrittenOf}
use Rattle.hg_section.proofs.NodeLemmas.{changesets_of, nodes-listed, fresh-once, once-fresh, all-fresh}
use Rattle.hg_section.proofs.One.{held-one}

-- no changesets that can be saved have this dump
abbrev pub IsNoDump : Bytes → Type 0
IsNoDump bytes = (hs : List ChangesetView) → AreDumped hs → hg_dump hs ≢ bytes

-- the section holds the changesets whose dump these bytes are
abbrev pub IsSectionOf : Bytes → HgSection → Type 0
IsSectionOf bytes s = (hs : List ChangesetView) × AreDumped hs × (hg_dump hs ≡ bytes) × HoldsChangesets s hs

-- ---- refused bytes

pub no-refused : (bytes : Bytes) → IsRefused bytes → IsNoDump bytes
no-refused bytes refused hs dumped is =
    absurd (true≢false (sym dumped.read ∙ ap (λ (b : Bytes). is_ok (bundle_reading [] b)) is ∙ refused))

-- ---- bytes that are read

module _ (bytes : Bytes) (store : List Revision) (listed : List Arrival) (read : IsRead bytes store listed) where
  -- the revisions that came, as they are listed
  record Came (rs : List Revision) : Type 0 where
    pub store_is : store ≡ known_after_all [] rs
    pub are_listed : AreListed [] rs listed

  came : Came (revisions_of read.reads.0)
  came =
      let r = read.reads in
      let f = bundle_framing bytes in
      let taken = all_taken [] [] 0 f.items f.bad r.0 (omega arith) (sym (reading_is [] bytes) ∙ r.1) in
      record { store_is = r.3; are_listed = subst (AreListed [] (revisions_of r.0)) (sym r.2) taken.listed }

  -- those that came are what a dump of these bytes brings
  of-dump : (hs : List ChangesetView) → AreDumped hs → hg_dump hs ≡ bytes → Came (in_bundle_order (brought_by [] hs))
  of-dump hs dumped is =
      let d = dump-brings hs dumped in
      let same = same_ok read.reads.0 d.0 (sym read.reads.1 ∙ ap (bundle_reading []) (sym is) ∙ d.1) in
      subst Came (ap revisions_of same ∙ d.2) came

  dump-listed : (hs : List ChangesetView) → AreDumped hs → hg_dump hs ≡ bytes → nodes_of listed ≡ map changeset_node hs
  dump-listed hs dumped is = nodes-listed [] (in_bundle_order (brought_by [] hs)) listed (of-dump hs dumped is).are_listed ∙ dump-nodes hs dumped

  pub no-again : list_any is_again listed ≡ true → IsNoDump bytes
  no-again again hs dumped is =
      let rs = in_bundle_order (brought_by [] hs) in
      let once = once-fresh [] rs listed (of-dump hs dumped is).are_listed (all-fresh (changesets_of rs)) (ap has_distinct (dump-nodes hs dumped) ∙ dumped.distinct) in
      absurd (true≢false (sym again ∙ once))

  module _ (nodes : List Id) (are : nodes ≡ nodes_of listed) where
    pub no-many : changeset_limit < length nodes → IsNoDump bytes
    no-many many hs dumped is =
        absurd (omega (arith, many, dumped.few, ap (λ (l : List Id). length l) (are ∙ dump-listed hs dumped is), length-map hs changeset_node))

    pub no-written : ((hs : List ChangesetView) → IsWrittenOf store nodes bytes hs → ⊥) → IsNoDump bytes
    no-written none hs dumped is =
        let held = subst (λ (l : List Id). AreChangesetsHeld store l hs) (sym (are ∙ dump-listed hs dumped is))
        (subst (λ (k : List Revision). AreChangesetsHeld k (map changeset_node hs) hs) (sym (of-dump hs dumped is).store_is) (dump-held hs dumped)) in
        none hs (held, dump-same hs dumped store ∙ is)

-- ---- changesets that are held

module _ (known : List Revision) (added : AreAdded known) where
  held-views : (nodes : List Id) (hs : List ChangesetView) → AreChangesetsHeld known nodes hs → Each IsChangesetView hs × (nodes ≡ map changeset_node hs)
  held-views [] [] held = (tt, refl)
  held-views [] (h ∷ hs) held = absurd held
  held-views (node ∷ nodes) [] held = absurd held
  held-views (node ∷ nodes) (h ∷ hs) held =
      let others = held-views nodes hs held.1 in
      ((held-is_view known added node h held.0, others.0), (λ i. sym (held-node known added node h held.0) i ∷ others.1 i))

pub is-section : (bytes : Bytes) (store : List Revision) (listed : List Arrival) → IsRead bytes store listed → list_any is_again listed ≡ false
    → (nodes : List Id) → nodes ≡ nodes_of listed → length nodes ≤ changeset_limit → (hs : List ChangesetView) → IsWrittenOf store nodes bytes hs
    → IsSectionOf bytes (record { store = store; nodes = nodes; arrivals = listed })
is-section bytes store listed read once nodes are few hs written =
    let views = held-views store read.added nodes hs written.0 in
    let ok : IsTrue (is_ok (bundle_reading [] (hg_increment store [] hs))) = ap (λ (b : Bytes). is_ok (bundle_reading [] b)) written.1 ∙ ap is_ok read.reads.1 in
    let is = sym (read-is-dump store hs views.0 (omega (arith, read.short, ap (λ (l : Bytes). length l) written.1)) ok) ∙ written.1 in
    let came_here = came bytes store listed read in
    let nodes_are : map changeset_node hs ≡ changesets_of (revisions_of read.reads.0) = sym views.1 ∙ are ∙ nodes-listed [] (revisions_of read.reads.0) listed came_here.are_listed in
    let dumped : AreDumped hs = record {
      views = views.0;
      distinct = ap has_distinct nodes_are ∙ (fresh-once [] (revisions_of read.reads.0) listed came_here.are_listed once).1;
      few = omega (arith, few, ap (λ (l : List Id). length l) views.1, length-map hs changeset_node);
      short = omega (arith, read.short, ap (λ (l : Bytes). length l) is);
      read = ap (λ (b : Bytes). is_ok (bundle_reading [] b)) is ∙ ap is_ok read.reads.1;
      one = held-one store read.added nodes hs written.0;
    } in
    (hs, dumped, is, record { nodes = views.1; held = written.0; known = (of-dump bytes store listed read hs dumped is).store_is; added = read.added })
