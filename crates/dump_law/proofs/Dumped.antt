-- What is read of the dump of a list of changesets.
use Rattle.std.proofs.Common.{◌≡◌, ◌<◌, ◌+◌, ◌^◌, ◌||◌, ℕ, Bool, true, false, true≢false, List, [], ◌∷◌, ◌++◌, length, map, None, Result, Ok, Err, refl, sym, ap, subst, ◌∙◌, arith}
use Rattle.std.specs.Prelude.{bytes_eq, not, IsTrue, is_ok}
use Rattle.std.specs.List.{list_any, flat_map}
use Rattle.text_model.specs.Lists.{Each}
use Rattle.text_model.specs.Fault.{Refusal}
use Rattle.text_model.specs.Fault as fault
use Rattle.text_model.specs.Id.{Id, null, is_null, node_id}
use Rattle.text_model.proofs.EachLemmas.{Each-front, Each-rest}
use Rattle.text_model.proofs.Options.{or_parts}
use Rattle.text_model.proofs.TestLemmas.{both, bytes_eq-sym}
use Rattle.hg_model.specs.Bundle.{bundle_framing}
use Rattle.hg_model.specs.Revision.{Group, Changesets, Manifests, FilesAt, Revision, is_of, revision_of, known_after, same_group, is_otherwise, same_revision, named_if, shape_fault, ancestry_fault, text_fault, addition_fault}
use Rattle.hg_model.specs.Reading.{Arrival, bundle_reading}
use Rattle.hg_model.proofs.RevisionLemmas.{first_name-two, first_name-three, named_if-None}
use Rattle.view_model.specs.View.{ChangesetView, IsChangesetView}
use Rattle.view_model.specs.Dump.{revisions_in, brought_by, of_group, paths_in, hg_increment}
use Rattle.state_model.specs.Kept.{hg_dump}
use Rattle.state_model.specs.Saved.{AreDumped}
use Rattle.hg_bundle.specs.Arrivals.{arrival_of}
use Rattle.hg_bundle.specs.Brought.{AreAdditions, AreListed}
use Rattle.hg_bundle.proofs.Reading.{reading_is}
use Rattle.hg_bundle.proofs.Taken.{all_taken}
use Rattle.hg_dump_law.specs.Taken.{in_bundle_order, Brings}
use Rattle.dump_law.proofs.News.{only_new-nothing}
use Rattle.dump_law.proofs.Grows.{same_revision_turned}
use Rattle.dump_law.proofs.Brought.{brought-sound, found_in_group, found_first}
use Rattle.dump_law.proofs.BundleRead.{ReadsWritten, reads_written}

-- ---- what is read

read_some : (r : Result (List Arrival) Refusal) → IsTrue (is_ok r) → (arrivals : List Arrival) × (r ≡ Ok arrivals)
read_some (Ok arrivals) h = (arrivals, refl)
read_some (Err why) h = absurd (true≢false (sym h))

pub record IsRead (known : List Revision) (hs : List ChangesetView) : Type 0 where
  pub arrivals : List Arrival
  pub reads : bundle_reading [] (hg_increment known [] hs) ≡ Ok arrivals
  pub written : ReadsWritten (brought_by [] hs) arrivals
  pub additions : AreAdditions [] 0 (in_bundle_order (brought_by [] hs))
  pub listed : AreListed [] (in_bundle_order (brought_by [] hs)) (map arrival_of arrivals)

pub increment_is_read : (known : List Revision) (hs : List ChangesetView) → Each IsChangesetView hs → length (hg_increment known [] hs) < 2 ^ 31 → IsTrue (is_ok (bundle_reading [] (hg_increment known [] hs))) → IsRead known hs
increment_is_read known hs views small ok =
    let bytes = hg_increment known [] hs in
    let read = read_some (bundle_reading [] bytes) ok in
    let written = reads_written known (brought_by [] hs) (brought-sound hs views) small read.0 read.1 in
    let f = bundle_framing bytes in
    let taken = all_taken [] [] 0 f.items f.bad read.0 (omega arith) (sym (reading_is [] bytes) ∙ read.1) in
    record {
      arrivals = read.0;
      reads = read.1;
      written = written;
      additions = subst (AreAdditions [] 0) written.are taken.additions;
      listed = subst (λ (l : List Revision). AreListed [] l (map arrival_of read.0)) written.are taken.listed;
    }

pub dump_is_read : (hs : List ChangesetView) → AreDumped hs → IsRead (revisions_in hs) hs
dump_is_read hs s = increment_is_read (revisions_in hs) hs s.views (omega (arith, s.short)) s.read

pub dump-brings : (hs : List ChangesetView) → AreDumped hs → Brings [] (hg_dump hs) (in_bundle_order (brought_by [] hs))
dump-brings hs s = let r = dump_is_read hs s in (r.arrivals, r.reads, r.written.are, r.listed)

-- ---- no revision is null

added_some : (known : List Revision) (r : Revision) → addition_fault known r ≡ None → is_null r.node ≡ false
unfolding text_fault
added_some known r none =
    let text = first_name-three (named_if (not (bytes_eq r.node (node_id r.p r.q r.text))) fault.NodeWrong) (shape_fault r.group r.text) (named_if (is_null r.node || list_any (is_otherwise r) known) fault.Collision)
    (first_name-two (ancestry_fault known r) (text_fault known r) none).1 in
    (or_parts (is_null r.node) (list_any (is_otherwise r) known) (named_if-None (is_null r.node || list_any (is_otherwise r) known) fault.Collision text.2)).0

each_some : (known : List Revision) (sum : ℕ) (rs : List Revision) → AreAdditions known sum rs → Each (λ r. is_null r.node ≡ false) rs
each_some known sum [] h = tt
each_some known sum (r ∷ rs) h = (added_some known r h.0, each_some (known_after known r) (sum + length r.text) rs h.2)

pub find_none : (group : Group) (rs : List Revision) → Each (λ r. is_null r.node ≡ false) rs → revision_of rs group null ≡ None
find_none group [] h = refl
find_none group (r ∷ rs) h = by (is_of group null r) refl (find_none group rs h.1)
  where
    by : (t : Bool) → is_of group null r ≡ t → revision_of rs group null ≡ None → revision_of (r ∷ rs) group null ≡ None
    by false e go = rw e go
    by true e go = absurd (true≢false (sym (bytes_eq-sym r.node null ∙ (both (same_group group r.group) (bytes_eq null r.node) e).1) ∙ h.0))

pub found_brought : (hs : List ChangesetView) (group : Group) (node : Id) → revision_of (brought_by [] hs) group node ≡ revision_of (revisions_in hs) group node
unfolding brought_by
found_brought hs group node = ap (λ (rs : List Revision). revision_of rs group node) (only_new-nothing same_revision same_revision_turned (revisions_in hs)) ∙ found_first (revisions_in hs) group node

pub no_null : (hs : List ChangesetView) → AreDumped hs → revision_of (revisions_in hs) Manifests null ≡ None
unfolding in_bundle_order
no_null hs s =
    let rs = brought_by [] hs in
    let files = flat_map (λ path. of_group (FilesAt path) rs) (paths_in rs) in
    let some = each_some [] 0 (in_bundle_order rs) (dump_is_read hs s).additions in
    let manifests = Each-front (λ r. is_null r.node ≡ false) (of_group Manifests rs) files (Each-rest (λ r. is_null r.node ≡ false) (of_group Changesets rs) (of_group Manifests rs ++ files) some) in
    sym (found_brought hs Manifests null) ∙ sym (found_in_group rs Manifests null) ∙ find_none Manifests (of_group Manifests rs) manifests
