-- What one chunk adds to what was read of a bundle before it.
use Rattle.std.specs.Prelude.{◌≡◌, ◌+◌, ◌++◌, ◌∷◌, [], List, ℕ, true, false, not, if◌then◌else◌, length, Option, Some, None, ⊤}
use Rattle.text_model.specs.Text.{Bytes}
use Rattle.text_model.specs.Id.{Id}
use Rattle.text_model.specs.Path.{is_fit_path}
use Rattle.text_model.specs.Fault.{Refusal, refusal_at}
use Rattle.text_model.specs.Fault as fault
use Rattle.hg_model.specs.Revision.{Group, Revision, knows, known_after}
use Rattle.hg_model.specs.Bundle.{Place, InGroup, AtPath, BundleEntry, entry_of, is_short_at}
use Rattle.hg_model.specs.Reading.{revision_by, text_or_empty}
use Rattle.hg_store.specs.Known.{text_of, HasFitPath}
use Rattle.hg_bundle.specs.declared.gather.Gathered.{Gathered}
use Rattle.hg_bundle.specs.Arrivals.{arrival_of}
use Rattle.hg_bundle.specs.Entry.{text_for, fault_for}

-- a path that was read is fit
abbrev pub HasFitPlace : Option Place → Type 0
HasFitPlace None = ⊤
HasFitPlace (Some AtPath) = ⊤
HasFitPlace (Some (InGroup group)) = HasFitPath group

-- the text of the entry before is known, where one came in a group that goes on
abbrev pub HasLastAt : List Revision → Option Id → Option Place → Type 0
HasLastAt known None next = ⊤
HasLastAt known (Some node) None = ⊤
HasLastAt known (Some node) (Some AtPath) = ⊤
HasLastAt known (Some node) (Some (InGroup group)) = (text : Bytes) × (text_of known group node ≡ Some text)

-- the text that an entry is taken with
abbrev pub entry_bytes : Gathered → Group → BundleEntry → Bytes
entry_bytes g group e = text_or_empty (text_for g.store group g.last e)

abbrev pub entry_revision : Gathered → Group → BundleEntry → Revision
entry_revision g group e = revision_by group e (entry_bytes g group e)

-- an entry's revision was added
pub record Adds (group : Group) (at : ℕ) (e : BundleEntry) (old new : Gathered) : Type 0 where
  pub faultless : fault_for old.store old.sum group old.last at e ≡ None
  pub store : new.store ≡ known_after old.store (entry_revision old group e)
  pub arrivals : new.arrivals ≡ old.arrivals ++ arrival_of (record { revision = entry_revision old group e; at = at; fresh = not (knows old.store group e.node) }) ∷ []
  pub last : new.last ≡ Some e.node
  pub sum : new.sum ≡ old.sum + length (entry_bytes old group e)
  pub text : text_of new.store group e.node ≡ Some (entry_bytes old group e)

-- nothing was added, and a group begins
pub record Begins (old new : Gathered) : Type 0 where
  pub store : new.store ≡ old.store
  pub arrivals : new.arrivals ≡ old.arrivals
  pub last : new.last ≡ None
  pub sum : new.sum ≡ old.sum

-- what a chunk is refused for
abbrev pub step_refusal : Place → ℕ → Bytes → Gathered → Option Refusal
step_refusal place at [] g = None
step_refusal AtPath at (byte ∷ bytes) g = if is_fit_path (byte ∷ bytes) then None else Some (refusal_at fault.PathUnfit at)
step_refusal (InGroup group) at (byte ∷ bytes) g =
    if is_short_at (InGroup group) (byte ∷ bytes) then Some (refusal_at fault.HeaderShort at)
    else fault_for g.store g.sum group g.last at (entry_of (byte ∷ bytes))

-- a chunk was taken
abbrev pub Steps : Place → ℕ → Bytes → Gathered → Gathered → Type 0
Steps place at [] old new = Begins old new
Steps AtPath at (byte ∷ bytes) old new = (is_fit_path (byte ∷ bytes) ≡ true) × Begins old new
Steps (InGroup group) at (byte ∷ bytes) old new = (is_short_at (InGroup group) (byte ∷ bytes) ≡ false) × Adds group at (entry_of (byte ∷ bytes)) old new
