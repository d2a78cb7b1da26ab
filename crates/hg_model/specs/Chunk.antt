-- Chunks of a bundle, as Mercurial's help topic `internals.changegroups` has them: a length of four bytes, the highest first, that counts itself, and a payload.
-- Which lengths, and how many bytes of input, are taken is this project's own rule.
use Rattle.std.specs.Prelude.{ℕ, ◌+◌, ◌^◌, Bool, not, ◌&&◌, ◌||◌, ◌==◌, nat_le, nat_lt, if◌then◌else◌, [], ◌∷◌, ◌++◌, length, take, slice_range, Option, Some, None, codes, bytes_eq}
use Rattle.byteorder.specs.Endian.{big_bytes, big_number}
use Rattle.text_model.specs.Text.{Bytes}
use Rattle.text_model.specs.Fault.{Refusal, refusal_at, reach}
use Rattle.text_model.specs.Fault as fault

-- the number in the length field: 0 for the empty chunk
abbrev pub field_of : Bytes → ℕ
field_of [] = 0
field_of (byte ∷ bytes) = length (byte ∷ bytes) + 4

-- the text of a chunk; that of no bytes is the empty chunk
unfoldable pub chunk_text : Bytes → Bytes
chunk_text payload = big_bytes 4 (field_of payload) ++ payload

-- what a bundle begins with
abbrev pub magic_text : Bytes
magic_text = codes "HG10UN"

-- ---- an input of any bytes

-- the first of two refusals
abbrev pub or_else : Option Refusal → Option Refusal → Option Refusal
or_else None later = later
or_else (Some why) later = Some why

-- a length of a chunk that isn't empty: not 1 to 4, and not negative
abbrev pub is_length : ℕ → Bool
is_length n = nat_le 5 n && nat_lt n (2 ^ 31)

-- how many bytes the chunk has whose field is this number; one of an invalid length is its field alone
abbrev pub need_of : ℕ → ℕ
need_of n = if is_length n then n else 4

-- what is wrong with the field of the chunk at an offset
abbrev pub field_fault : ℕ → ℕ → ℕ → Option Refusal
field_fault most at n =
    if n == 0 then None
    else if not (is_length n) then Some (refusal_at fault.Length at)
    else if nat_lt most n then Some (refusal_at fault.Limit at)
    else None

-- What is wrong with the chunk at the beginning of the bytes, which stand at an offset of the input, where the field is at most `most`.
unfoldable pub chunk_fault : ℕ → ℕ → Bytes → Option Refusal
chunk_fault most at bytes =
    if nat_lt (length bytes) 4 then reach (at + length bytes) (at + 4)
    else or_else (reach (at + length bytes) (at + need_of (big_number 4 bytes))) (field_fault most at (big_number 4 bytes))

-- the payload of the chunk at the beginning of the bytes; none of the empty chunk
unfoldable pub first_payload : Bytes → Bytes
first_payload bytes = slice_range bytes 4 (big_number 4 bytes)

-- six bytes that are not the magic: those of another kind of bundle, or of none
abbrev pub other_magic : Bytes → Option Refusal
other_magic first =
    if bytes_eq first magic_text then None
    else if bytes_eq first (codes "HG10GZ") || bytes_eq first (codes "HG10BZ") || bytes_eq (take 4 first) (codes "HG20") then Some (refusal_at fault.OtherBundle 0)
    else Some (refusal_at fault.Magic 0)

-- what is wrong with the six bytes that a bundle begins with
unfoldable pub magic_fault : Bytes → Option Refusal
magic_fault bytes = or_else (reach (length bytes) 6) (other_magic (take 6 bytes))

-- what is wrong where the end of the input is due
abbrev pub trailing_fault : ℕ → Bytes → Option Refusal
trailing_fault at [] = None
trailing_fault at (byte ∷ bytes) = Some (refusal_at fault.Trailing at)
