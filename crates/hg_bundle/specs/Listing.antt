-- What a listing answers, and what is listed of one chunk.
use Rattle.std.specs.Prelude.{◌≡◌, ℕ, true, false, [], ◌∷◌, ◌++◌, Option, Some, None, Result, MatchResult, ⊤}
use Rattle.text_model.specs.Text.{Bytes}
use Rattle.text_model.specs.Fault.{refusal_at}
use Rattle.text_model.specs.Fault as fault
use Rattle.hg_model.specs.Bundle.{Place, place_after, place_after_empty, entry_of, listed_line, listing, bundle_framing, listing_fault, is_short_at, IsNoBundle}
use Rattle.hg_bundle.specs.declared.fault.BundleFault.{BundleFault}
use Rattle.hg_bundle.specs.declared.fault.BundleFault.TheVariants.{Refused, Read, Memory}
use Rattle.hg_bundle.specs.Faults.{IsFault}

-- The lines of a bundle's entries were appended to `old`, or the fault is what the bytes are refused for.
abbrev pub Lists : {T : Type 0} → Bytes → Bytes → Result T BundleFault → Bytes → Type 0
Lists bytes old result new = MatchResult result
    (λ _. (listing_fault bytes ≡ None) × (new ≡ old ++ listing (bundle_framing bytes).items))
    (IsFault (listing_fault bytes))

-- Bytes of which the fault is told are no bundle that this program reads. What the source and the memory do isn't told by the bytes.
abbrev pub TellsNoBundle : BundleFault → Bytes → Type 0
TellsNoBundle (Refused refusal) bytes = IsNoBundle bytes
TellsNoBundle Read bytes = ⊤
TellsNoBundle Memory bytes = ⊤

-- where the next chunk stands behind one with this payload; none behind the end
abbrev pub next_place : Place → Bytes → Option Place
next_place place [] = place_after_empty place
next_place place (byte ∷ bytes) = Some (place_after place (byte ∷ bytes))

-- what is listed of a payload
abbrev pub line_at : Place → Bytes → Bytes
line_at place [] = []
line_at place (byte ∷ bytes) = listed_line place (entry_of (byte ∷ bytes))

-- a payload is long enough for its place; that of an empty chunk always is
abbrev pub IsLongEnough : Place → Bytes → Type 0
IsLongEnough place [] = ⊤
IsLongEnough place (byte ∷ bytes) = is_short_at place (byte ∷ bytes) ≡ false

-- the fault of one chunk that was read
abbrev pub IsStepFault : Place → ℕ → Bytes → BundleFault → Type 0
IsStepFault place at payload (Refused refusal) = IsFault (Some (refusal_at fault.HeaderShort at)) (Refused refusal) × (is_short_at place payload ≡ true) × (payload ≡ [] → ⊥)
IsStepFault place at payload Read = ⊥
IsStepFault place at payload Memory = ⊤
