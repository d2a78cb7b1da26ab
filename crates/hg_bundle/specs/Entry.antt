-- The text of an entry over what was read before it, and why it has none.
use Rattle.std.specs.Prelude.{◌≡◌, ◌≤◌, ◌+◌, ℕ, [], List, length, drop, Option, Some, None, ⊤}
use Rattle.text_model.specs.Text.{Bytes}
use Rattle.text_model.specs.Id.{Id}
use Rattle.text_model.specs.Fault.{FaultName, Refusal}
use Rattle.hg_model.specs.Bundle.{BundleEntry}
use Rattle.hg_model.specs.Revision.{Group, Revision, ancestry_fault}
use Rattle.hg_model.specs.Reading.{EntryText, Is, entry_text, entry_fault, first_base, revision_by, sum_limit, text_limit, with_place}
use Rattle.hg_store.specs.Known.{text_of}
use Rattle.hg_bundle.specs.declared.entry.Entry.{Entry}
use Rattle.hg_bundle.specs.declared.fault.BundleFault.{BundleFault}
use Rattle.hg_bundle.specs.declared.gather.Patched.{Patched}
use Rattle.hg_bundle.specs.declared.gather.Patched.TheVariants.{Text, Refused}
use Rattle.hg_bundle.specs.Faults.{IsJudgement, IsReadFault}
use Rattle.hg_bundle.specs.Payload.{payload_bytes}

-- the entry in the words of the format
abbrev pub entry_value : Entry → BundleEntry
entry_value e = record { node = e.node; p = e.p; q = e.q; link = e.link; delta = (e.delta).now }

-- the delta is what stands behind the four ids of the payload
abbrev pub EndsPayload : Entry → Type 0
EndsPayload e = (e.delta).now ≡ drop 80 (payload_bytes e.payload)

-- the base of the first entry of a group, and of one that follows the entry with a node
abbrev pub base_for : List Revision → Group → Option Id → Id → Option Bytes
base_for known group None parent = first_base known group parent
base_for known group (Some node) parent = text_of known group node

-- the text of the entry before is known, where one came in the group
abbrev pub HasLast : List Revision → Group → Option Id → Type 0
HasLast known group None = ⊤
HasLast known group (Some node) = (text : Bytes) × (text_of known group node ≡ Some text)

abbrev pub text_for : List Revision → Group → Option Id → BundleEntry → EntryText
text_for known group last e = entry_text (base_for known group last e.p) e.delta

-- what the entry is refused for
abbrev pub fault_for : List Revision → ℕ → Group → Option Id → ℕ → BundleEntry → Option Refusal
fault_for known sum group last at e = entry_fault known sum group at e (text_for known group last e)

-- the text of an entry, which is within the limits
abbrev pub HasText : List Revision → ℕ → Group → Option Id → BundleEntry → Bytes → Type 0
HasText known sum group last e text = (text_for known group last e ≡ Is text) × (sum + length text ≤ sum_limit) × (length text ≤ text_limit group)

-- The entry has no text. What is wrong with its parents or its link comes first, then the fault.
pub record HasNoText (known : List Revision) (sum : ℕ) (group : Group) (last : Option Id) (at : ℕ) (e : BundleEntry) (fault : BundleFault) : Type 0 where
  pub first : (name : FaultName) → ancestry_fault known (revision_by group e []) ≡ Some name → fault_for known sum group last at e ≡ Some (with_place e.node at name)
  pub later : ancestry_fault known (revision_by group e []) ≡ None → IsJudgement (fault_for known sum group last at e) fault

abbrev pub Patches : List Revision → ℕ → Group → Option Id → ℕ → BundleEntry → Patched → Type 0
Patches known sum group last at e (Text text) = HasText known sum group last e text
Patches known sum group last at e (Refused fault) = HasNoText known sum group last at e fault

-- a fault that is kept for later is one of reading
abbrev pub IsReadPatch : Patched → Type 0
IsReadPatch (Text text) = ⊤
IsReadPatch (Refused fault) = IsReadFault fault
