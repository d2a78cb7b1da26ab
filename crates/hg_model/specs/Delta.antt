-- A delta is a row of hunks that replace parts of a base, as Mercurial's help topics `internals.bundles` and `internals.revlogs` have it.
use Rattle.std.specs.Prelude.{◌≡◌, ℕ, zero, suc, ◌+◌, ◌-◌, ◌<◌, ◌≤◌, ◌^◌, Bool, ◌&&◌, ◌||◌, ◌==◌, nat_le, nat_lt, if◌then◌else◌, List, [], ◌∷◌, ◌++◌, length, drop, slice_range, Option, Some, None, Result, Ok, Err, ⊤}
use Rattle.std.specs.List.{flat_map}
use Rattle.byteorder.specs.Endian.{big_bytes, big_number}
use Rattle.text_model.specs.Text.{Bytes}
use Rattle.text_model.specs.Lists.{Each}

-- the bytes of the base from start up to finish give way to these
pub record Hunk : Type 0 where
  pub start : ℕ
  pub finish : ℕ
  pub bytes : Bytes

-- four bytes, the highest first
unfoldable pub number32 : ℕ → Bytes
number32 n = big_bytes 4 n

-- the number in the first four bytes
unfoldable pub first_number32 : Bytes → ℕ
first_number32 bytes = big_number 4 bytes

abbrev pub hunk_text : Hunk → Bytes
hunk_text h = number32 h.start ++ number32 h.finish ++ number32 (length h.bytes) ++ h.bytes

-- the bytes of a delta: its hunks' texts joined
abbrev pub delta_text : List Hunk → Bytes
delta_text hunks = flat_map hunk_text hunks

-- the three numbers fit in four bytes
abbrev pub IsHunk : Hunk → Type 0
IsHunk h = (h.start < 2 ^ 32) × (h.finish < 2 ^ 32) × (length h.bytes < 2 ^ 32)

-- each hunk starts at or behind the end of the one before it, and ends at or behind its start and within the base
abbrev pub is_hunk_within : ℕ → ℕ → Hunk → Bool
is_hunk_within from size h = nat_le from h.start && nat_le h.start h.finish && nat_le h.finish size

abbrev pub AreWithin : ℕ → ℕ → List Hunk → Type 0
AreWithin from size [] = ⊤
AreWithin from size (h ∷ hs) = (from ≤ h.start) × (h.start ≤ h.finish) × (h.finish ≤ size) × AreWithin h.finish size hs

-- the pieces of the base that no hunk covers, from this place on, and the hunks' bytes, in order
unfoldable pub patched_from : ℕ → Bytes → List Hunk → Bytes
patched_from from base [] = drop from base
patched_from from base (h ∷ hs) = slice_range base from h.start ++ h.bytes ++ patched_from h.finish base hs

abbrev pub patched_text : Bytes → List Hunk → Bytes
patched_text base hunks = patched_from 0 base hunks

-- how many bytes that is, for a base of this size
unfoldable pub patched_size_from : ℕ → ℕ → List Hunk → ℕ
patched_size_from from size [] = size - from
patched_size_from from size (h ∷ hs) = (h.start - from) + length h.bytes + patched_size_from h.finish size hs

abbrev pub patched_size : ℕ → List Hunk → ℕ
patched_size size hunks = patched_size_from 0 size hunks

-- the delta turns the base into the text
pub record Patches (base delta text : Bytes) : Type 0 where
  pub hunks : List Hunk
  pub spells : delta ≡ delta_text hunks
  pub each : Each IsHunk hunks
  pub within : AreWithin 0 (length base) hunks
  pub result : text ≡ patched_text base hunks

-- the hunk at the beginning of the bytes and what follows it, unless it is cut
unfoldable pub first_hunk : Bytes → Option (Hunk × Bytes)
first_hunk bytes =
    let size = first_number32 (drop 8 bytes) in
    if nat_lt (length bytes) 12 || nat_lt (length bytes) (12 + size) then None
    else Some (record { start = first_number32 bytes; finish = first_number32 (drop 4 bytes); bytes = slice_range bytes 12 (12 + size) }, drop (12 + size) bytes)

abbrev pub put_hunk : Hunk → Result (List Hunk) ℕ → Result (List Hunk) ℕ
put_hunk h (Ok hs) = Ok (h ∷ hs)
put_hunk h (Err place) = Err place

-- the first hunk at this offset, and those that are read where it ends
abbrev pub put_first : ℕ → Option (Hunk × Bytes) → (ℕ → Bytes → Result (List Hunk) ℕ) → Result (List Hunk) ℕ
put_first at None others = Err at
put_first at (Some p) others = put_hunk p.0 (others (at + 12 + length (p.0).bytes) p.1)

-- the hunks, each read where the one before it ends, or the offset of the one that is cut; the first number is at least the count of bytes
unfoldable pub hunks_from : ℕ → ℕ → Bytes → Result (List Hunk) ℕ
hunks_from zero at bytes = Ok []
hunks_from (suc more) at [] = Ok []
hunks_from (suc more) at (b ∷ bytes) = put_first at (first_hunk (b ∷ bytes)) (hunks_from more)

-- the hunks of a delta, or the offset of the one that is cut
abbrev pub hunks_of : Bytes → Result (List Hunk) ℕ
hunks_of delta = hunks_from (length delta) 0 delta

-- the offset of the first hunk that isn't where it may be
unfoldable pub first_outside : ℕ → ℕ → ℕ → List Hunk → Option ℕ
first_outside at from size [] = None
first_outside at from size (h ∷ hs) = if is_hunk_within from size h then first_outside (at + 12 + length h.bytes) h.finish size hs else Some at

-- What a delta is against a base of some size: hunks, or the offset of the first hunk that is cut, or else of the first that isn't within the base or runs back.
pub data DeltaReading : Type 0 where
  Hunks : List Hunk → DeltaReading
  Cut : (place : ℕ) → DeltaReading
  Outside : (place : ℕ) → DeltaReading

abbrev pub placed_reading : List Hunk → Option ℕ → DeltaReading
placed_reading hs None = Hunks hs
placed_reading hs (Some place) = Outside place

abbrev pub judged_reading : ℕ → Result (List Hunk) ℕ → DeltaReading
judged_reading size (Ok hs) = placed_reading hs (first_outside 0 0 size hs)
judged_reading size (Err place) = Cut place

-- the delta against a base of this size
unfoldable pub delta_reading : ℕ → Bytes → DeltaReading
delta_reading size delta = judged_reading size (hunks_of delta)

-- the delta that replaces a whole base; none where both are empty
abbrev pub whole_delta : ℕ → Bytes → Bytes
whole_delta base_size text = if base_size == 0 && length text == 0 then [] else hunk_text (record { start = 0; finish = base_size; bytes = text })
