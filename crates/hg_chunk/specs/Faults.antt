-- Which refusal a fault of the chunk reader is.
use Rattle.std.specs.Prelude.{◌≡◌, Option, None, Some, Result, MatchResult, ⊤}
use Rattle.text_model.specs.Fault.{Refusal, refusal_at, input_limit}
use Rattle.text_model.specs.Fault as fault
use Rattle.hg_chunk.specs.declared.fault.ChunkFault.{ChunkFault}
use Rattle.hg_chunk.specs.declared.fault.ChunkFault.TheVariants.{Read, Truncated, Length, Limit, Trailing, Magic, OtherBundle, InputLimit, Memory}

-- The fault is what the bytes are refused for. What the source and the memory do isn't told by the bytes.
abbrev pub IsFault : Option Refusal → ChunkFault → Type 0
IsFault why Read = ⊤
IsFault why Memory = ⊤
IsFault why (Truncated place) = why ≡ Some (refusal_at fault.Truncated place)
IsFault why (Length place) = why ≡ Some (refusal_at fault.Length place)
IsFault why (Limit place) = why ≡ Some (refusal_at fault.Limit place)
IsFault why (Trailing place) = why ≡ Some (refusal_at fault.Trailing place)
IsFault why Magic = why ≡ Some (refusal_at fault.Magic 0)
IsFault why OtherBundle = why ≡ Some (refusal_at fault.OtherBundle 0)
IsFault why InputLimit = why ≡ Some (refusal_at fault.InputLimit input_limit)

-- an answer comes where nothing is refused, and a fault where it is what is refused
abbrev pub Judges : {T : Type 0} → Option Refusal → Result T ChunkFault → Type 0
Judges why result = MatchResult result (λ _. why ≡ None) (IsFault why)

-- ---- which faults a step gives, whatever the source tells of its bytes

-- an item is cut
abbrev pub IsCut : ChunkFault → Type 0
IsCut (Truncated place) = ⊤
IsCut other = ⊥

-- an item isn't read: it is cut, it passes the limit of an input, or there is want of the source or of memory
abbrev pub IsItemFault : ChunkFault → Type 0
IsItemFault Read = ⊤
IsItemFault Memory = ⊤
IsItemFault (Truncated place) = ⊤
IsItemFault InputLimit = ⊤
IsItemFault other = ⊥

-- a chunk isn't read, or its length isn't right
abbrev pub IsChunkFault : ChunkFault → Type 0
IsChunkFault (Length place) = ⊤
IsChunkFault (Limit place) = ⊤
IsChunkFault fault = IsItemFault fault

-- the six first bytes aren't read, or aren't the magic
abbrev pub IsMagicFault : ChunkFault → Type 0
IsMagicFault Read = ⊤
IsMagicFault (Truncated place) = ⊤
IsMagicFault Magic = ⊤
IsMagicFault OtherBundle = ⊤
IsMagicFault other = ⊥

-- the end isn't read, or a byte stands there
abbrev pub IsEndFault : ChunkFault → Type 0
IsEndFault Read = ⊤
IsEndFault (Trailing place) = ⊤
IsEndFault other = ⊥
