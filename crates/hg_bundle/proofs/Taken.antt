-- Entries that were taken, and what they add.
use Rattle.std.proofs.Common.{◌≡◌, ℕ, ◌+◌, ◌≤◌, nat_lt, Bool, true, false, not, List, [], ◌∷◌, length, map, Option, None, Some, Ok, Err, refl, sym, ap, ◌∙◌, subst, arith}
use Rattle.std.specs.Prelude.{option_map, if◌then◌else◌}
use Rattle.std.proofs.lemmas.Bool.Decides.{nat_tests}
use Rattle.text_model.specs.Text.{Bytes}
use Rattle.text_model.specs.Path.{is_fit_path}
use Rattle.text_model.specs.Fault.{FaultName, Refusal}
use Rattle.text_model.specs.Fault as fault
use Rattle.text_model.proofs.Options.{some_none}
use Rattle.hg_model.specs.Chunk.{or_else}
use Rattle.hg_model.specs.Delta.{Hunk, DeltaReading, Hunks, Cut, Outside, delta_reading, patched_text}
use Rattle.hg_model.specs.Bundle.{Place, InGroup, AtPath, Item, Framing, BundleEntry, put_item, entry_of, is_short_at, first_short}
use Rattle.hg_model.specs.Revision.{Group, Revision, knows, known_after, ancestry_fault, text_fault, addition_fault}
use Rattle.hg_model.specs.Reading.{Arrival, Is, HunkRefused, NoBase, put_arrival, arrivals_from, base_of, entry_fault, entry_text, revision_by, sum_limit, text_limit, with_place}
use Rattle.hg_bundle.specs.Arrivals.{arrival_of, revisions_of}
use Rattle.hg_bundle.specs.Brought.{AreAdditions, AreListed}
use Rattle.hg_bundle.proofs.EntryLemmas.{first_of_two, first_unknown, has_ancestry_fault}
use Rattle.hg_bundle.proofs.Reading.{Answer, arrivals_of, answer_with, entry_taken, entry_short, entry_bad, path_item, path_unfit, ends_Ok, ends_Err}

pub err_ok : {X Y : Type 0} {x : X} {y : Y} → Err y ≡ Ok x → ⊥
err_ok h = cc

abbrev pub ok_of : List Arrival → Answer
ok_of arrivals = Ok arrivals

pub same_ok : (xs ys : List Arrival) → ok_of xs ≡ ok_of ys → xs ≡ ys
same_ok xs ys h = cc

or_some : (o : Option Refusal) (x : Refusal) → or_else o (Some x) ≡ None → ⊥
or_some None x h = cc
or_some (Some y) x h = cc

option_map-none : {X Y : Type 0} (f : X → Y) (o : Option X) → option_map f o ≡ None → o ≡ None
option_map-none f None h = refl
option_map-none f (Some x) h = absurd (some_none h)

-- an entry that was taken, with its base and its text
pub record IsTaken (known : List Revision) (previous : Bytes) (sum : ℕ) (group : Group) (first : Bool) (e : BundleEntry) (text : Bytes) : Type 0 where
  pub base : Bytes
  pub is_base : base_of known group first previous e.p ≡ Some base
  pub hunks : List Hunk
  pub reads : delta_reading (length base) e.delta ≡ Hunks hunks
  pub makes : text ≡ patched_text base hunks
  pub within : sum + length text ≤ sum_limit
  pub short : length text ≤ text_limit group
  pub faultless : addition_fault known (revision_by group e text) ≡ None

two_tests : (a b : Bool) (x y : Refusal) (o : Option Refusal) → (if a then Some x else if b then Some y else o) ≡ None → (a ≡ false) × (b ≡ false) × (o ≡ None)
two_tests true b x y o h = absurd (some_none h)
two_tests false true x y o h = absurd (some_none h)
two_tests false false x y o h = (refl, refl, h)

not_over : (a b : ℕ) → nat_lt a b ≡ false → b ≤ a
not_over a b h = grind (arith, nat_tests)

within_all : (known : List Revision) (sum : ℕ) (group : Group) (at : ℕ) (e : BundleEntry) (text : Bytes) → entry_fault known sum group at e (Is text) ≡ None
    → (sum + length text ≤ sum_limit) × (length text ≤ text_limit group) × (addition_fault known (revision_by group e text) ≡ None)
unfolding entry_fault
within_all known sum group at e text none =
    let r = revision_by group e text in
    let tests = two_tests (nat_lt sum_limit (sum + length text)) (nat_lt (text_limit group) (length text)) _ _ _ none in (
      not_over _ _ tests.0,
      not_over _ _ tests.1,
      option_map-none (with_place e.node at) (addition_fault known r) (sym (first_of_two e.node at (ancestry_fault known r) (text_fault known r)) ∙ tests.2),
    )

refused_hunk : (known : List Revision) (sum : ℕ) (group : Group) (at : ℕ) (e : BundleEntry) (name : FaultName) (place : ℕ) → entry_fault known sum group at e (HunkRefused name place) ≡ None → ⊥
unfolding entry_fault
refused_hunk known sum group at e name place none = or_some _ _ none

refused_base : (known : List Revision) (sum : ℕ) (group : Group) (at : ℕ) (e : BundleEntry) → entry_fault known sum group at e NoBase ≡ None → ancestry_fault known (revision_by group e []) ≡ None
unfolding entry_fault
refused_base known sum group at e none = option_map-none (with_place e.node at) (ancestry_fault known (revision_by group e [])) none

has_base : (known : List Revision) (sum : ℕ) (group : Group) (first : Bool) (previous : Bytes) (at : ℕ) (e : BundleEntry) → base_of known group first previous e.p ≡ None
    → ancestry_fault known (revision_by group e []) ≡ None → ⊥
has_base known sum group true previous at e none faultless =
    has_ancestry_fault known sum group None at e (first_unknown known sum group None at e none) faultless
has_base known sum group false previous at e none faultless = some_none none

taken : (known : List Revision) (sum : ℕ) (group : Group) (first : Bool) (previous : Bytes) (at : ℕ) (e : BundleEntry)
    → entry_fault known sum group at e (entry_text (base_of known group first previous e.p) e.delta) ≡ None
    → (text : Bytes) × IsTaken known previous sum group first e text × (entry_text (base_of known group first previous e.p) e.delta ≡ Is text)
taken known sum group first previous at e none = by (base_of known group first previous e.p) refl
  where
    read : (base : Bytes) (d : DeltaReading) → base_of known group first previous e.p ≡ Some base → delta_reading (length base) e.delta ≡ d
        → (text : Bytes) × IsTaken known previous sum group first e text × (entry_text (base_of known group first previous e.p) e.delta ≡ Is text)
    read base (Hunks hunks) is d =
        let text = patched_text base hunks in
        let all : entry_text (base_of known group first previous e.p) e.delta ≡ Is text = rw (is, d) refl in
        let facts = within_all known sum group at e text (sym (ap (entry_fault known sum group at e) all) ∙ none) in (
          text,
          record { base = base; is_base = is; hunks = hunks; reads = d; makes = refl; within = facts.0; short = facts.1; faultless = facts.2 },
          all,
        )
    read base (Cut place) is d =
        let all : entry_text (base_of known group first previous e.p) e.delta ≡ HunkRefused fault.HunkShape place = rw (is, d) refl in
        absurd (refused_hunk known sum group at e fault.HunkShape place (sym (ap (entry_fault known sum group at e) all) ∙ none))
    read base (Outside place) is d =
        let all : entry_text (base_of known group first previous e.p) e.delta ≡ HunkRefused fault.HunkRange place = rw (is, d) refl in
        absurd (refused_hunk known sum group at e fault.HunkRange place (sym (ap (entry_fault known sum group at e) all) ∙ none))

    by : (base : Option Bytes) → base_of known group first previous e.p ≡ base
        → (text : Bytes) × IsTaken known previous sum group first e text × (entry_text (base_of known group first previous e.p) e.delta ≡ Is text)
    by None is =
        let all : entry_text (base_of known group first previous e.p) e.delta ≡ NoBase = rw is refl in
        absurd (has_base known sum group first previous at e is (refused_base known sum group at e (sym (ap (entry_fault known sum group at e) all) ∙ none)))
    by (Some base) is = read base (delta_reading (length base) e.delta) is refl

-- ---- an item that was taken

put_ok : (a : Arrival) (r : Answer) (arrivals : List Arrival) → put_arrival a r ≡ Ok arrivals → (later : List Arrival) × (r ≡ Ok later) × (arrivals ≡ a ∷ later)
put_ok a (Ok later) arrivals h = (later, refl, cc)
put_ok a (Err why) arrivals h = absurd (err_ok h)

-- what an entry brings, and what comes after it
pub record Brings (known : List Revision) (previous : Bytes) (sum : ℕ) (group : Group) (first : Bool) (at : ℕ) (e : BundleEntry) (f : Framing) (arrivals : List Arrival) : Type 0 where
  pub text : Bytes
  pub is : IsTaken known previous sum group first e text
  pub later : List Arrival
  pub all : arrivals ≡ record { revision = revision_by group e text; at = at; fresh = not (knows known group e.node) } ∷ later
  pub goes : arrivals_of (known_after known (revision_by group e text)) text (sum + length text) f ≡ Ok later

pub entry_brings : (known : List Revision) (previous : Bytes) (sum : ℕ) (group : Group) (first : Bool) (at : ℕ) (payload : Bytes) (f : Framing) (arrivals : List Arrival)
    → arrivals_of known previous sum (put_item (record { place = InGroup group; first = first; at = at; payload = payload }) f) ≡ Ok arrivals
    → (is_short_at (InGroup group) payload ≡ false) × Brings known previous sum group first at (entry_of payload) f arrivals
entry_brings known previous sum group first at payload f arrivals ok =
    by (is_short_at (InGroup group) payload) refl (entry_fault known sum group at (entry_of payload) (entry_text (base_of known group first previous (entry_of payload).p) (entry_of payload).delta)) refl
  where
    by : (short : Bool) → is_short_at (InGroup group) payload ≡ short → (why : Option Refusal)
        → entry_fault known sum group at (entry_of payload) (entry_text (base_of known group first previous (entry_of payload).p) (entry_of payload).delta) ≡ why
        → (is_short_at (InGroup group) payload ≡ false) × Brings known previous sum group first at (entry_of payload) f arrivals
    by true short why is = absurd (err_ok (sym (entry_short known previous sum group first at payload f short) ∙ ok))
    by false short (Some why) is = absurd (err_ok (sym (entry_bad known previous sum group first at payload f why short is) ∙ ok))
    by false short None is =
        let t = taken known sum group first previous at (entry_of payload) is in
        let answer = sym (entry_taken known previous sum group first at payload f short is ∙ ap (answer_with known sum group at (entry_of payload) f) t.2) ∙ ok in
        let put = put_ok _ _ arrivals answer in
        (short, record { text = t.0; is = t.1; later = put.0; all = put.2; goes = put.1 })

pub path_brings : (known : List Revision) (previous : Bytes) (sum : ℕ) (first : Bool) (at : ℕ) (payload : Bytes) (f : Framing) (arrivals : List Arrival)
    → arrivals_of known previous sum (put_item (record { place = AtPath; first = first; at = at; payload = payload }) f) ≡ Ok arrivals
    → (is_fit_path payload ≡ true) × (arrivals_of known [] sum f ≡ Ok arrivals)
path_brings known previous sum first at payload f arrivals ok = by (is_fit_path payload) refl
  where
    by : (fit : Bool) → is_fit_path payload ≡ fit → (is_fit_path payload ≡ true) × (arrivals_of known [] sum f ≡ Ok arrivals)
    by true fit = (fit, sym (path_item known previous sum first at payload f fit) ∙ ok)
    by false fit = absurd (err_ok (sym (path_unfit known previous sum first at payload f fit) ∙ ok))

-- ---- all items

-- nothing is refused, and each revision is added and listed
pub record AllTaken (known : List Revision) (sum : ℕ) (items : List Item) (bad : Option Refusal) (arrivals : List Arrival) : Type 0 where
  pub additions : AreAdditions known sum (revisions_of arrivals)
  pub listed : AreListed known (revisions_of arrivals) (map arrival_of arrivals)
  pub long : first_short items ≡ None
  pub sound : bad ≡ None

pub all_taken : (known : List Revision) (previous : Bytes) (sum : ℕ) (items : List Item) (bad : Option Refusal) (arrivals : List Arrival) → sum ≤ sum_limit
    → arrivals_from known previous sum items bad ≡ Ok arrivals → AllTaken known sum items bad arrivals
all_taken known previous sum [] None arrivals small ok =
    subst (AllTaken known sum [] None) (same_ok [] arrivals (sym (ends_Ok known previous sum) ∙ ok)) (record { additions = small; listed = tt; long = refl; sound = refl })
all_taken known previous sum [] (Some why) arrivals small ok = absurd (err_ok (sym (ends_Err known previous sum why) ∙ ok))
all_taken known previous sum (item ∷ items) bad arrivals small ok =
    by item.place item.first item.at item.payload ok (λ k p s. all_taken k p s items bad)
  where
    by : (place : Place) (first : Bool) (at : ℕ) (payload : Bytes)
        → arrivals_from known previous sum (record { place = place; first = first; at = at; payload = payload } ∷ items) bad ≡ Ok arrivals
        → ((k : List Revision) (p : Bytes) (s : ℕ) (came : List Arrival) → s ≤ sum_limit → arrivals_from k p s items bad ≡ Ok came → AllTaken k s items bad came)
        → AllTaken known sum (record { place = place; first = first; at = at; payload = payload } ∷ items) bad arrivals
    by AtPath first at payload ok later =
        let path = path_brings known previous sum first at payload (record { items = items; bad = bad }) arrivals ok in
        let rest = later known [] sum arrivals small path.1 in
        record { additions = rest.additions; listed = rest.listed; long = rest.long; sound = rest.sound }
    by (InGroup group) first at payload ok later =
        let entry = entry_brings known previous sum group first at payload (record { items = items; bad = bad }) arrivals ok in
        let b = entry.1 in
        let rest = later _ _ _ b.later b.is.within b.goes in
        subst (AllTaken known sum (record { place = InGroup group; first = first; at = at; payload = payload } ∷ items) bad) (sym b.all)
        (record {
          additions = (b.is.faultless, b.is.short, rest.additions);
          listed = (record { kind = refl; path = refl; node = refl; fresh = refl }, rest.listed);
          long = rw entry.0 rest.long;
          sound = rest.sound;
        })
