-- What a bundle brings to the revisions that are known, or its first refusal.
use Rattle.std.specs.Prelude.{◌≡◌, ℕ, ◌+◌, Bool, true, false, not, nat_lt, if◌then◌else◌, List, [], ◌∷◌, length, Option, Some, None, option_map, Result, Ok, Err, ⊤}
use Rattle.text_model.specs.Limits as limits
pub use Rattle.text_model.specs.Limits.{sum_limit}
use Rattle.text_model.specs.Text.{Bytes}
use Rattle.text_model.specs.Id.{Id, is_null}
use Rattle.text_model.specs.Path.{is_fit_path}
use Rattle.text_model.specs.Fault.{FaultName, Refusal, refusal, refusal_at}
use Rattle.text_model.specs.Fault as fault
use Rattle.hg_model.specs.Chunk.{or_else}
use Rattle.hg_model.specs.Delta.{Patches, DeltaReading, Hunks, Cut, Outside, delta_reading, patched_text}
use Rattle.hg_model.specs.Revision.{Group, Changesets, Revision, revision_of, knows, known_after, ancestry_fault, text_fault}
use Rattle.hg_model.specs.Bundle.{BundleEntry, Item, InGroup, AtPath, bundle_framing, entry_of, is_short}

-- The texts stand for a group's entries: each is its base changed by its entry's delta, and the base of a later one is the text before it.
abbrev pub AreTextsFrom : Bytes → List BundleEntry → List Bytes → Type 0
AreTextsFrom base [] [] = ⊤
AreTextsFrom base [] (t ∷ ts) = ⊥
AreTextsFrom base (e ∷ es) [] = ⊥
AreTextsFrom base (e ∷ es) (t ∷ ts) = Patches base e.delta t × AreTextsFrom t es ts

-- the known text of a first parent as written, empty for the null id
abbrev pub first_base : List Revision → Group → Id → Option Bytes
first_base known group parent = if is_null parent then Some [] else option_map (λ r. r.text) (revision_of known group parent)

-- the texts of a whole group over the known revisions
abbrev pub AreTextsOf : List Revision → Group → List BundleEntry → List Bytes → Type 0
AreTextsOf known group [] texts = texts ≡ []
AreTextsOf known group (e ∷ es) texts = (base : Bytes) × (first_base known group e.p ≡ Some base) × AreTextsFrom base (e ∷ es) texts

-- ---- an input of any bytes

pub record Arrival : Type 0 where
  pub revision : Revision
  pub at : ℕ
  pub fresh : Bool

-- the bytes of the text of an entry
abbrev pub text_limit : Group → ℕ
text_limit Changesets = limits.commit_limit
text_limit _ = limits.text_limit

-- the text of an entry, or which hunk is refused, or that the base isn't known
pub data EntryText : Type 0 where
  Is : (text : Bytes) → EntryText
  HunkRefused : (name : FaultName) (place : ℕ) → EntryText
  NoBase : EntryText

abbrev pub text_by : Bytes → DeltaReading → EntryText
text_by base (Hunks hunks) = Is (patched_text base hunks)
text_by base (Cut place) = HunkRefused fault.HunkShape place
text_by base (Outside place) = HunkRefused fault.HunkRange place

abbrev pub entry_text : Option Bytes → Bytes → EntryText
entry_text None delta = NoBase
entry_text (Some base) delta = text_by base (delta_reading (length base) delta)

-- the base of the first entry of a group, and of a later one
abbrev pub base_of : List Revision → Group → Bool → Bytes → Id → Option Bytes
base_of known group true previous parent = first_base known group parent
base_of known group false previous parent = Some previous

abbrev pub revision_by : Group → BundleEntry → Bytes → Revision
revision_by group e text = record { group = group; node = e.node; p = e.p; q = e.q; link = e.link; text = text }

-- the offset in the input of a hunk that is refused
abbrev pub hunk_place : ℕ → ℕ → ℕ
hunk_place at place = at + 84 + place

abbrev pub with_place : Id → ℕ → FaultName → Refusal
with_place id at name = refusal name id at

-- limits of the text, then the ancestry, then the hunks, then the text
unfoldable pub entry_fault : List Revision → ℕ → Group → ℕ → BundleEntry → EntryText → Option Refusal
entry_fault known sum group at e (Is text) =
    if nat_lt sum_limit (sum + length text) then Some (refusal_at fault.InputLimit at)
    else if nat_lt (text_limit group) (length text) then Some (refusal fault.Limit e.node at)
    else or_else (option_map (with_place e.node at) (ancestry_fault known (revision_by group e text)))
    (option_map (with_place e.node at) (text_fault known (revision_by group e text)))
entry_fault known sum group at e (HunkRefused name place) =
    or_else (option_map (with_place e.node at) (ancestry_fault known (revision_by group e []))) (Some (refusal name e.node (hunk_place at place)))
entry_fault known sum group at e NoBase = option_map (with_place e.node at) (ancestry_fault known (revision_by group e []))

abbrev pub text_or_empty : EntryText → Bytes
text_or_empty (Is text) = text
text_or_empty _ = []

abbrev pub put_arrival : Arrival → Result (List Arrival) Refusal → Result (List Arrival) Refusal
put_arrival a (Ok arrivals) = Ok (a ∷ arrivals)
put_arrival a (Err why) = Err why

-- The items in order. The state is: the known revisions, the text before in the group, the sum of the texts.
unfoldable pub arrivals_from : List Revision → Bytes → ℕ → List Item → Option Refusal → Result (List Arrival) Refusal
arrivals_from known previous sum [] None = Ok []
arrivals_from known previous sum [] (Some why) = Err why
arrivals_from known previous sum (item ∷ items) bad =
    let e = entry_of item.payload in
    elim item.place as (λ _. Result (List Arrival) Refusal) [
      | AtPath ↦ if is_fit_path item.payload then arrivals_from known [] sum items bad else Err (refusal_at fault.PathUnfit item.at)
      | InGroup group ↦
          let text = entry_text (base_of known group item.first previous e.p) e.delta in
          let revision = revision_by group e (text_or_empty text) in
          elim (if is_short item then Some (refusal_at fault.HeaderShort item.at) else entry_fault known sum group item.at e text) as (λ _. Result (List Arrival) Refusal) [
            | Some why ↦ Err why
            | None ↦ put_arrival (record { revision = revision; at = item.at; fresh = not (knows known group e.node) })
                (arrivals_from (known_after known revision) (text_or_empty text) (sum + length (text_or_empty text)) items bad)
          ]
    ]

-- what the bytes bring to the known revisions, in the order of the bundle, or the first refusal
unfoldable pub bundle_reading : List Revision → Bytes → Result (List Arrival) Refusal
bundle_reading known bytes = arrivals_from known [] 0 (bundle_framing bytes).items (bundle_framing bytes).bad
