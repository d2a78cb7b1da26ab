-- What a run does to its objects of the outside.
use Rattle.std.specs.Prelude.{◌≡◌, ◌⊎◌, ℕ, [], Option, IfSome, ⊤}
use Rattle.std.specs.Io.KnownBytes.{Appends}
use Rattle.text_model.specs.Text.{Bytes}
use Rattle.hg_model.specs.Bundle.{ListsBundle, IsNoBundle}
use Rattle.bridge_io.specs.Causes.{Rose}
use Rattle.bridge_io.specs.Sink.{AppendsPrefix}
use Rattle.bridge_cli.specs.declared.status.Status.{Status}
use Rattle.bridge_cli.specs.declared.status.Status.TheVariants.{Done, Refused, ReadFault, WriteFault, SlotFault}

-- a sink took these bytes, or a beginning of them where its count of faults rose
abbrev pub TakesOrFails : Option Bytes → Option Bytes → ℕ → ℕ → Bytes → Type 0
TakesOrFails old new before now bytes = (Appends old new bytes × (now ≡ before)) ⊎ (AppendsPrefix old new bytes × Rose before now)

-- `ReadFault` raises the count of the input's faults, and every other answer leaves it
abbrev pub InputCause : ℕ → ℕ → Status → Type 0
InputCause before now ReadFault = Rose before now
InputCause before now status = now ≡ before

-- `WriteFault` raises the count of the output's faults, and every other answer leaves it
abbrev pub OutputCause : ℕ → ℕ → Status → Type 0
OutputCause before now WriteFault = Rose before now
OutputCause before now status = now ≡ before

-- `SlotFault` raises the count of the slot's faults, and every other answer leaves it
abbrev pub SlotCause : ℕ → ℕ → Status → Type 0
SlotCause before now SlotFault = Rose before now
SlotCause before now status = now ≡ before

-- how the listing of a bundle ends, where the input tells its bytes: they are a bundle whose lines were taken, or they are none
abbrev pub ListingEnds : Option Bytes → Option Bytes → Option Bytes → Status → Type 0
ListingEnds input old new Done = IfSome input (λ bytes. (lines : Bytes) × ListsBundle bytes [] lines × Appends old new lines)
ListingEnds input old new Refused = IfSome input IsNoBundle
ListingEnds input old new status = ⊤
