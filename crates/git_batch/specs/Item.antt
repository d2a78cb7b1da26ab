-- What the reader answers.
use Rattle.std.specs.Prelude.{◌≡◌, ℕ, ◌≤◌, [], length, Option, Some, None, Result, MatchResult, ⊤}
use Rattle.std.specs.Io.KnownBytes.{IsAtEnd}
use Rattle.text_model.specs.Text.{Bytes}
use Rattle.text_model.specs.Id.{object_id}
use Rattle.text_model.specs.Fault.{Refusal}
use Rattle.git_model.specs.Stream.{ObjectReading, NoObject, Found, BadObject, object_text, size_limit}
use Rattle.bridge_text.specs.Kinds.{object_kind}
use Rattle.git_batch.specs.declared.reader.Item.{Item}
use Rattle.git_batch.specs.declared.reader.Item.TheVariants as item
use Rattle.git_batch.specs.declared.fault.BatchFault.{BatchFault}
use Rattle.git_batch.specs.Faults.{IsFault}

-- an item with its content
abbrev pub item_value : Item → Bytes → ObjectReading
item_value (item.Object id kind at) content = Found (record { id = id; kind = object_kind kind; content = content })
item_value item.End content = NoObject

-- the bytes of an item
abbrev pub item_text : Item → Bytes → Bytes
item_text (item.Object id kind at) content = object_text (record { id = id; kind = object_kind kind; content = content })
item_text item.End content = []

-- what bytes are refused for
abbrev pub reading_fault : ObjectReading → Option Refusal
reading_fault NoObject = None
reading_fault (Found o) = None
reading_fault (BadObject why) = Some why

-- an item comes where it is what is read, and a fault where it is what is refused
abbrev pub Reads : ObjectReading → Bytes → Result Item BatchFault → Type 0
Reads reading content result = MatchResult result (λ i. reading ≡ item_value i content) (IsFault (reading_fault reading))

-- the same where the content is answered with the item
abbrev pub ReadsText : ObjectReading → Result (Item × Bytes) BatchFault → Type 0
ReadsText reading result = MatchResult result (λ read. reading ≡ item_value read.0 read.1) (IsFault (reading_fault reading))

-- an object has the offset of its line and a content within its limit, and the end has none
abbrev pub IsItem : ℕ → Bytes → Item → Type 0
IsItem at content (item.Object id kind place) = (place ≡ at) × (length content ≤ size_limit (object_kind kind))
IsItem at content item.End = content ≡ []

-- the end comes where the source is at its end
abbrev pub EndsThere : Option Bytes → Item → Type 0
EndsThere new (item.Object id kind place) = ⊤
EndsThere new item.End = IsAtEnd new

-- an object has the id of its kind and content
abbrev pub HasItsId : Bytes → Item → Type 0
HasItsId content (item.Object id kind place) = id ≡ object_id (object_kind kind) content
HasItsId content item.End = ⊤
