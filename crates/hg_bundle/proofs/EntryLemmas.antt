-- What one entry is refused for, and its text.
use Rattle.std.proofs.Common.{◌≡◌, ℕ, ◌+◌, ◌-◌, ◌<◌, ◌≤◌, ◌&&◌, ◌||◌, Bool, true, false, not, true≢false, List, [], ◌∷◌, ◌++◌, length, Option, None, Some, refl, sym, ap, ◌∙◌, subst, arith}
use Rattle.std.specs.Prelude.{find, is_some, bytes_eq, option_map, if◌then◌else◌}
use Rattle.std.specs.List.{list_any}
use Rattle.std.proofs.lemmas.Bool.{le-ltb, lt-ltb}
use Rattle.std.proofs.lemmas.Slice.Eq.{bytes_eq-Decides}
use Rattle.text_model.specs.Text.{Bytes}
use Rattle.text_model.specs.Id.{Id, is_null, node_id}
use Rattle.text_model.specs.Fault.{FaultName, Refusal, refusal, refusal_at}
use Rattle.text_model.specs.Fault as fault
use Rattle.text_model.proofs.Options.{some_none}
use Rattle.hg_model.proofs.RevisionLemmas.{is_of-self}
use Rattle.hg_model.specs.Chunk.{or_else}
use Rattle.hg_model.specs.Delta.{Hunk, DeltaReading, Hunks, Cut, Outside, delta_reading, patched_text, patched_size}
use Rattle.hg_model.specs.Bundle.{BundleEntry}
use Rattle.hg_model.specs.Revision as model
use Rattle.hg_model.specs.Revision.{Group, Changesets, Revision, revision_of, knows, known_after, is_of, same_revision, same_parents, is_otherwise, is_known_parent, order_fault, is_bad_link, named_if, first_name, ancestry_fault, text_fault, shape_fault, addition_fault}
use Rattle.hg_model.specs.Reading.{Is, HunkRefused, NoBase, entry_text, entry_fault, first_base, revision_by, text_or_empty, sum_limit, text_limit, hunk_place, with_place, text_by}
use Rattle.hg_hunk.specs.Faults.{HasPatchedSize, HasPatchedText}
use Rattle.hg_hunk.proofs.Fills.{length-patched}
use Rattle.hg_store.specs.Known.{text_of}
use Rattle.hg_store.specs.Faults as store
use Rattle.hg_store.specs.declared.fault.AddFault.{AddFault}
use Rattle.hg_store.specs.declared.fault.AddFault.TheVariants as add
use Rattle.hg_bundle.specs.declared.fault.BundleFault.{BundleFault}
use Rattle.bridge_text.specs.declared.fault.Fault.TheVariants as name
use Rattle.hg_bundle.specs.Faults.{IsJudgement, addition_fault_at, refused_for}
use Rattle.hg_bundle.specs.Entry.{base_for, text_for, fault_for, HasLast, HasText, HasNoText}
use Rattle.hg_bundle.specs.Arrivals.{arrival_of}
use Rattle.hg_bundle.specs.Steps.{Adds, entry_bytes, entry_revision}
use Rattle.hg_bundle.specs.declared.gather.Gathered.{Gathered}

-- ---- the faults of an addition

-- the fault of an addition, with the node and the place of its entry
pub added_fault : (due : Option FaultName) (e : AddFault) (id : Id) (at : ℕ) → store.IsFault due e → IsJudgement (option_map (with_place id at) due) (addition_fault_at e id at)
added_fault due add.ParentOrder id at is = ap (option_map (with_place id at)) is
added_fault due add.ParentUnknown id at is = ap (option_map (with_place id at)) is
added_fault due add.LinkUnknown id at is = ap (option_map (with_place id at)) is
added_fault due add.NodeWrong id at is = ap (option_map (with_place id at)) is
added_fault due add.ChangesetShape id at is = ap (option_map (with_place id at)) is
added_fault due add.ManifestShape id at is = ap (option_map (with_place id at)) is
added_fault due add.PathUnfit id at is = ap (option_map (with_place id at)) is
added_fault due add.FileShape id at is = ap (option_map (with_place id at)) is
added_fault due add.Collision id at is = ap (option_map (with_place id at)) is
added_fault due add.Memory id at is = tt

pub first_of_two : (id : Id) (at : ℕ) (a b : Option FaultName)
    → or_else (option_map (with_place id at) a) (option_map (with_place id at) b) ≡ option_map (with_place id at) (first_name (a ∷ b ∷ []))
first_of_two id at None None = refl
first_of_two id at None (Some n) = refl
first_of_two id at (Some n) b = refl

-- ---- an entry with a text

module _ (known : List Revision) (sum : ℕ) (group : Group) (at : ℕ) (e : BundleEntry) (text : Bytes) where
  over_sum : sum_limit < sum + length text → entry_fault known sum group at e (Is text) ≡ Some (refusal_at fault.InputLimit at)
  unfolding entry_fault
  over_sum over = rw (lt-ltb sum_limit (sum + length text) over) refl

  over_limit : sum + length text ≤ sum_limit → text_limit group < length text → entry_fault known sum group at e (Is text) ≡ Some (refusal fault.Limit e.node at)
  unfolding entry_fault
  over_limit within over = rw (le-ltb sum_limit (sum + length text) within, lt-ltb (text_limit group) (length text) over) refl

  pub within_limits : sum + length text ≤ sum_limit → length text ≤ text_limit group
      → entry_fault known sum group at e (Is text) ≡ option_map (with_place e.node at) (addition_fault known (revision_by group e text))
  unfolding entry_fault
  within_limits within short =
      rw (le-ltb sum_limit (sum + length text) within, le-ltb (text_limit group) (length text) short)
      (first_of_two e.node at (ancestry_fault known (revision_by group e text)) (text_fault known (revision_by group e text)))

module _ (known : List Revision) (sum : ℕ) (group : Group) (last : Option Id) (at : ℕ) (e : BundleEntry) where
  -- what an entry with a text within the limits is refused for
  pub fault-text : (text : Bytes) → HasText known sum group last e text → fault_for known sum group last at e ≡ option_map (with_place e.node at) (addition_fault known (revision_by group e text))
  fault-text text has = ap (entry_fault known sum group at e) has.0 ∙ within_limits known sum group at e text has.1 has.2

  pub fault-none : (text : Bytes) → HasText known sum group last e text → addition_fault known (revision_by group e text) ≡ None → fault_for known sum group last at e ≡ None
  fault-none text has none = fault-text text has ∙ ap (option_map (with_place e.node at)) none

  module _ (base : Bytes) (is_base : base_for known group last e.p ≡ Some base) where
    text-is : (d : DeltaReading) → delta_reading (length base) e.delta ≡ d → text_for known group last e ≡ text_by base d
    text-is d is = rw (is_base, is) refl

    pub has_text : (text : Bytes) (n : ℕ) → HasPatchedText base e.delta text → HasPatchedSize (length base) e.delta n → n ≤ sum_limit - sum → sum ≤ sum_limit → n ≤ text_limit group
        → HasText known sum group last e text
    has_text text n is size most so_far short =
        let len : length text ≡ n = length-patched base e.delta text n size is in
        (text-is (Hunks is.0) is.1 ∙ ap Is (sym is.2), omega (arith, len, most, so_far), omega (arith, len, short))

    pub sum_fault : (hs : List Hunk) → delta_reading (length base) e.delta ≡ Hunks hs → sum_limit - sum < patched_size (length base) hs → sum ≤ sum_limit
        → fault_for known sum group last at e ≡ Some (refusal_at fault.InputLimit at)
    sum_fault hs is over so_far =
        let len : length (patched_text base hs) ≡ patched_size (length base) hs = length-patched base e.delta (patched_text base hs) (patched_size (length base) hs) (hs, is, refl) (hs, is, refl) in
        ap (entry_fault known sum group at e) (text-is (Hunks hs) is) ∙ over_sum known sum group at e (patched_text base hs) (omega (arith, len, over, so_far))

    pub limit_fault : (n : ℕ) → HasPatchedSize (length base) e.delta n → n ≤ sum_limit - sum → sum ≤ sum_limit → text_limit group < n
        → fault_for known sum group last at e ≡ Some (refusal fault.Limit e.node at)
    limit_fault n size most so_far over =
        let text = patched_text base size.0 in
        let len : length text ≡ n = length-patched base e.delta text n size (size.0, size.1, refl) in
        ap (entry_fault known sum group at e) (text-is (Hunks size.0) size.1) ∙ over_limit known sum group at e text (omega (arith, len, most, so_far)) (omega (arith, len, over))

    hunk_first : (name : FaultName) (place : ℕ) (n : FaultName) → ancestry_fault known (revision_by group e []) ≡ Some n
        → entry_fault known sum group at e (HunkRefused name place) ≡ Some (with_place e.node at n)
    unfolding entry_fault
    hunk_first name place n is = rw is refl

    hunk_later : (name : FaultName) (place : ℕ) → ancestry_fault known (revision_by group e []) ≡ None
        → entry_fault known sum group at e (HunkRefused name place) ≡ Some (refusal name e.node (hunk_place at place))
    unfolding entry_fault
    hunk_later name place is = rw is refl

    pub shape_refused : (place : ℕ) → delta_reading (length base) e.delta ≡ Cut place → HasNoText known sum group last at e (refused_for name.HunkShape e.node (hunk_place at place))
    shape_refused place is = record {
      first = λ n a. ap (entry_fault known sum group at e) (text-is (Cut place) is) ∙ hunk_first fault.HunkShape place n a;
      later = λ a. ap (entry_fault known sum group at e) (text-is (Cut place) is) ∙ hunk_later fault.HunkShape place a;
    }

    pub range_refused : (place : ℕ) → delta_reading (length base) e.delta ≡ Outside place → HasNoText known sum group last at e (refused_for name.HunkRange e.node (hunk_place at place))
    range_refused place is = record {
      first = λ n a. ap (entry_fault known sum group at e) (text-is (Outside place) is) ∙ hunk_first fault.HunkRange place n a;
      later = λ a. ap (entry_fault known sum group at e) (text-is (Outside place) is) ∙ hunk_later fault.HunkRange place a;
    }

  -- ---- an entry without a base: its parent is unknown

  base_first : (n : FaultName) → ancestry_fault known (revision_by group e []) ≡ Some n → entry_fault known sum group at e NoBase ≡ Some (with_place e.node at n)
  unfolding entry_fault
  base_first n is = rw is refl

  no_base : text_for known group last e ≡ NoBase → (n : FaultName) → ancestry_fault known (revision_by group e []) ≡ Some n → fault_for known sum group last at e ≡ Some (with_place e.node at n)
  no_base none n is = ap (entry_fault known sum group at e) none ∙ base_first n is

  named : (a : Option FaultName) (b : Bool) (n : FaultName) (rest : List (Option FaultName)) → b ≡ true → first_name (a ∷ named_if b n ∷ rest) ≡ None → ⊥
  named None true n rest is none = cc
  named None false n rest is none = true≢false (sym is)
  named (Some m) b n rest is none = cc

  unknown_parent : (g : Bool) (o : Option Revision) → is_null e.p ≡ g → revision_of known group e.p ≡ o → (if g then Some [] else option_map (λ (r : Revision). r.text) o) ≡ None → is_known_parent known group e.p ≡ false
  unknown_parent true o null at none = absurd (some_none none)
  unknown_parent false None null at none = rw (null, at) refl
  unknown_parent false (Some r) null at none = absurd (some_none none)

  pub has_ancestry_fault : is_known_parent known group e.p ≡ false → ancestry_fault known (revision_by group e []) ≡ None → ⊥
  unfolding ancestry_fault
  has_ancestry_fault unknown none =
      named (order_fault group (revision_by group e [])) (not (is_known_parent known group e.p && is_known_parent known group e.q)) fault.ParentUnknown
      (named_if (is_bad_link known group (revision_by group e [])) fault.LinkUnknown ∷ []) (rw unknown refl) none

  pub first_unknown : first_base known group e.p ≡ None → is_known_parent known group e.p ≡ false
  first_unknown none = unknown_parent (is_null e.p) (revision_of known group e.p) refl refl none

pub parent_refused : (known : List Revision) (sum : ℕ) (group : Group) (last : Option Id) (at : ℕ) (e : BundleEntry) → HasLast known group last → base_for known group last e.p ≡ None
    → HasNoText known sum group last at e (refused_for name.ParentUnknown e.node at)
parent_refused known sum group (Some node) at e before none = absurd (some_none (sym before.1 ∙ none))
parent_refused known sum group None at e before none = record {
  first = λ n a. no_base known sum group None at e (ap (λ (o : Option Bytes). entry_text o e.delta) none) n a;
  later = λ a. absurd (has_ancestry_fault known sum group None at e (first_unknown known sum group None at e none) a);
}

-- ---- after the parents and the link were tested

pub refused_after : (known : List Revision) (sum : ℕ) (group : Group) (last : Option Id) (at : ℕ) (e : BundleEntry) (due : Option FaultName) (f : AddFault) (later : BundleFault)
    → ancestry_fault known (revision_by group e []) ≡ due → HasNoText known sum group last at e later → store.IsFault due f
    → IsJudgement (fault_for known sum group last at e) (addition_fault_at f e.node at)
refused_after known sum group last at e (Some n) f later is has due =
    subst (λ (o : Option Refusal). IsJudgement o (addition_fault_at f e.node at)) (sym (has.first n is)) (added_fault (Some n) f e.node at due)
refused_after known sum group last at e None add.ParentOrder later is has due = absurd cc
refused_after known sum group last at e None add.ParentUnknown later is has due = absurd cc
refused_after known sum group last at e None add.LinkUnknown later is has due = absurd cc
refused_after known sum group last at e None add.NodeWrong later is has due = absurd cc
refused_after known sum group last at e None add.ChangesetShape later is has due = absurd cc
refused_after known sum group last at e None add.ManifestShape later is has due = absurd cc
refused_after known sum group last at e None add.PathUnfit later is has due = absurd cc
refused_after known sum group last at e None add.FileShape later is has due = absurd cc
refused_after known sum group last at e None add.Collision later is has due = absurd cc
refused_after known sum group last at e None add.Memory later is has due = tt

-- ---- the text that is known after an addition

first_none : (a b : Option FaultName) → first_name (a ∷ b ∷ []) ≡ None → b ≡ None
first_none None None h = refl
first_none None (Some n) h = absurd cc
first_none (Some n) b h = absurd cc

third_none : (a b : Option FaultName) (c : Bool) (n : FaultName) → first_name (a ∷ b ∷ named_if c n ∷ []) ≡ None → c ≡ false
third_none None None true n h = absurd cc
third_none None None false n h = refl
third_none None (Some m) c n h = absurd cc
third_none (Some m) b c n h = absurd cc

or_none : (a b : Bool) → (a || b) ≡ false → b ≡ false
or_none true b h = absurd (true≢false h)
or_none false b h = h

not_otherwise : (known : List Revision) (r : Revision) → addition_fault known r ≡ None → list_any (is_otherwise r) known ≡ false
unfolding text_fault
not_otherwise known r none =
    or_none (is_null r.node) (list_any (is_otherwise r) known)
    (third_none (named_if (not (bytes_eq r.node (node_id r.p r.q r.text))) fault.NodeWrong) (shape_fault r.group r.text) (is_null r.node || list_any (is_otherwise r) known) fault.Collision (first_none (ancestry_fault known r) (text_fault known r) none))

same_group_self : (g : Group) → model.same_group g g ≡ true
same_group_self Changesets = refl
same_group_self model.Manifests = refl
same_group_self (model.FilesAt path) = (bytes_eq-Decides path path).1 refl

same_text : (r h : Revision) (x y : Bool) → bytes_eq r.text h.text ≡ x → same_parents r.group r.p r.q h.p h.q ≡ y → same_revision r h ≡ true → is_otherwise r h ≡ false → x ≡ true
same_text r h true y text parents same other = refl
same_text r h false y text parents same other = absurd (true≢false (sym (rw (same, text) refl) ∙ other))

-- the first of the node in the list has the text
text_in : (r : Revision) (rs : List Revision) → list_any (is_otherwise r) rs ≡ false → option_map (λ (h : Revision). h.text) (find (is_of r.group r.node) (rs ++ r ∷ [])) ≡ Some r.text
text_in r [] other = rw (is_of-self r) refl
text_in r (x ∷ xs) other = by (same_revision r x) (is_otherwise r x) refl refl other (text_in r xs)
  where
    by : (t o : Bool) → same_revision r x ≡ t → is_otherwise r x ≡ o → list_any (is_otherwise r) (x ∷ xs) ≡ false
        → (list_any (is_otherwise r) xs ≡ false → option_map (λ (h : Revision). h.text) (find (is_of r.group r.node) (xs ++ r ∷ [])) ≡ Some r.text)
        → option_map (λ (h : Revision). h.text) (find (is_of r.group r.node) (x ∷ xs ++ r ∷ [])) ≡ Some r.text
    by t true is o none later = absurd (true≢false (sym (rw o refl) ∙ none))
    by true false is o none later =
        rw is (ap Some (sym ((bytes_eq-Decides r.text x.text).0 (same_text r x (bytes_eq r.text x.text) (same_parents r.group r.p r.q x.p x.q) refl refl is o))))
    by false false is o none later = rw is (later (sym (rw o refl) ∙ none))

-- a node that is known already is found before what is added
found_before : (test : Revision → Bool) (rs : List Revision) (r : Revision) → is_some (find test rs) ≡ true → find test (rs ++ r ∷ []) ≡ find test rs
found_before test [] r is = absurd (true≢false (sym is))
found_before test (x ∷ xs) r is = by (test x) refl (found_before test xs r)
  where
    by : (t : Bool) → test x ≡ t → (is_some (find test xs) ≡ true → find test (xs ++ r ∷ []) ≡ find test xs) → find test (x ∷ xs ++ r ∷ []) ≡ find test (x ∷ xs)
    by true t later = rw t refl
    by false t later = rw t (later (sym (rw t refl) ∙ is))

-- what was added without a fault has its text
pub added_text : (known : List Revision) (r : Revision) → addition_fault known r ≡ None → text_of (known_after known r) r.group r.node ≡ Some r.text
added_text known r none = by (knows known r.group r.node) refl
  where
    by : (k : Bool) → knows known r.group r.node ≡ k → text_of (known_after known r) r.group r.node ≡ Some r.text
    by true k =
        rw k (ap (option_map (λ (h : Revision). h.text)) (sym (found_before (is_of r.group r.node) known r k)) ∙ text_in r known (not_otherwise known r none))
    by false k = rw k (text_in r known (not_otherwise known r none))

-- ---- an addition

-- the fault of an addition is what its entry is refused for
pub refused_addition : (known : List Revision) (sum : ℕ) (group : Group) (last : Option Id) (at : ℕ) (e : BundleEntry) (text : Bytes) (r : Revision) (f : AddFault)
    → HasText known sum group last e text → r ≡ revision_by group e text → store.IsFault (addition_fault known r) f
    → IsJudgement (fault_for known sum group last at e) (addition_fault_at f e.node at)
refused_addition known sum group last at e text r f has is due =
    subst (λ (o : Option Refusal). IsJudgement o (addition_fault_at f e.node at)) (sym (fault-text known sum group last at e text has))
    (added_fault (addition_fault known (revision_by group e text)) f e.node at (subst (λ (x : Revision). store.IsFault (addition_fault known x) f) is due))

-- what an addition without a fault adds
pub added_entry : (group : Group) (at : ℕ) (e : BundleEntry) (old new : Gathered) (text : Bytes) (r : Revision)
    → HasText old.store old.sum group old.last e text → r ≡ revision_by group e text → addition_fault old.store r ≡ None
    → new.store ≡ known_after old.store r
    → new.arrivals ≡ old.arrivals ++ arrival_of (record { revision = entry_revision old group e; at = at; fresh = not (knows old.store group e.node) }) ∷ []
    → new.last ≡ Some e.node → new.sum ≡ old.sum + length text → Adds group at e old new
added_entry group at e old new text r has is none kept listed last sum =
    let same : entry_bytes old group e ≡ text = ap text_or_empty has.0 in
    let revision : r ≡ entry_revision old group e = is ∙ ap (revision_by group e) (sym same) in
    let grown : new.store ≡ known_after old.store (entry_revision old group e) = kept ∙ ap (known_after old.store) revision in record {
      faultless = fault-none old.store old.sum group old.last at e text has (subst (λ (x : Revision). addition_fault old.store x ≡ None) is none);
      store = grown;
      arrivals = listed;
      last = last;
      sum = sum ∙ ap (λ (l : Bytes). old.sum + length l) (sym same);
      text = ap (λ (rs : List Revision). text_of rs group e.node) grown
          ∙ added_text old.store (entry_revision old group e) (subst (λ (x : Revision). addition_fault old.store x ≡ None) revision none);
    }
