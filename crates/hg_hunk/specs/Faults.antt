-- What a delta is against a base: a text of at most some size, or why there is none. From Mercurial's help topic `internals.bundles`.
use Rattle.std.specs.Prelude.{◌≡◌, ℕ, ◌<◌, ◌≤◌, List, length, ⊤}
use Rattle.text_model.specs.Text.{Bytes}
use Rattle.hg_model.specs.Delta.{Hunk, Hunks, Cut, Outside, delta_reading, patched_text, patched_size}
use Rattle.hg_hunk.specs.declared.fault.HunkFault.{HunkFault}
use Rattle.hg_hunk.specs.declared.fault.HunkFault.TheVariants.{Shape, Range, Limit, Memory}

-- the delta is whole and within a base of this size, and its patched text has so many bytes
abbrev pub HasPatchedSize : ℕ → Bytes → ℕ → Type 0
HasPatchedSize base_size delta n = (hs : List Hunk) × (delta_reading base_size delta ≡ Hunks hs) × (n ≡ patched_size base_size hs)

-- the delta is whole and within the base, and its hunks make the text of the base
abbrev pub HasPatchedText : Bytes → Bytes → Bytes → Type 0
HasPatchedText base delta text = (hs : List Hunk) × (delta_reading (length base) delta ≡ Hunks hs) × (text ≡ patched_text base hs)

-- why a delta makes no text of at most so many bytes of a base of this size
abbrev pub IsFault : ℕ → Bytes → ℕ → HunkFault → Type 0
IsFault base_size delta most (Shape place) = delta_reading base_size delta ≡ Cut place
IsFault base_size delta most (Range place) = delta_reading base_size delta ≡ Outside place
IsFault base_size delta most Limit = (hs : List Hunk) × (delta_reading base_size delta ≡ Hunks hs) × (most < patched_size base_size hs)
IsFault base_size delta most Memory = ⊥

-- the same, where memory may run out
abbrev pub IsFaultOrMemory : ℕ → Bytes → ℕ → HunkFault → Type 0
IsFaultOrMemory base_size delta most Memory = ⊤
IsFaultOrMemory base_size delta most fault = IsFault base_size delta most fault

-- the place of a fault is one of the delta
abbrev pub HasPlaceIn : Bytes → HunkFault → Type 0
HasPlaceIn delta (Shape place) = place ≤ length delta
HasPlaceIn delta (Range place) = place ≤ length delta
HasPlaceIn delta Limit = ⊤
HasPlaceIn delta Memory = ⊤
