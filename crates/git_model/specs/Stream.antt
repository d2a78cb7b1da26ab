-- The output of `git cat-file --batch`: objects one after another, each with a line of its own, as that command's manual has it.
use Rattle.std.specs.Prelude.{◌≡◌, ℕ, zero, suc, ◌+◌, ◌≤◌, Bool, not, ◌&&◌, ◌==◌, nat_le, nat_lt, if◌then◌else◌, List, [], ◌∷◌, ◌++◌, length, map, take, drop, slice_index, Option, Some, None, option_map, Result, Ok, Err, codes, decimal, bytes_eq, count_by}
use Rattle.std.specs.List.{flat_map, list_all, slice_split, ends_with}
use Rattle.text_model.specs.Limits.{commit_limit, text_limit, line_limit}
use Rattle.text_model.specs.Lists.{Each}
use Rattle.text_model.specs.Text.{Bytes, lf, sp, line, spaced, first_line, is_decimal, number_of}
use Rattle.text_model.specs.Id.{Id, IsId, hex, is_hex_id, bytes_of_digits, ObjectKind, blob, tree, commit, tag, kind_word, same_kind, object_id}
use Rattle.text_model.specs.Fault.{Refusal, refusal, refusal_at, reach, input_limit}
use Rattle.text_model.specs.Fault as fault
use Rattle.git_model.specs.Object.{Object, object_fault, objects_after}

-- `id SP kind SP size LF content LF`
abbrev pub object_text : Object → Bytes
object_text o = line (spaced (hex o.id ∷ kind_word o.kind ∷ decimal (length o.content) ∷ [])) ++ line o.content

unfoldable pub stream_text : List Object → Bytes
stream_text objects = flat_map object_text objects

-- each object has the id of its kind and content
abbrev pub IsChecked : List Object → Type 0
IsChecked objects = Each (λ o. o.id ≡ object_id o.kind o.content) objects

-- ---- an input of any bytes, object by object

-- an object and the offset of its line
pub record Placed : Type 0 where
  pub object : Object
  pub at : ℕ

-- the objects up to the end or to the first place where the bytes are no stream
pub record StreamFraming : Type 0 where
  pub objects : List Placed
  pub bad : Option Refusal

-- the size of a line whose first 4,096 bytes are cut so at an LF, among so many bytes
abbrev pub size_by : ℕ → Option (Bytes × Bytes) → ℕ
size_by total (Some p) = length p.0 + 1
size_by total None = if nat_lt line_limit total then line_limit else total + 1

-- how many bytes the line takes: with its first LF, or 4,096 where these have none; one more than there are where it is cut
abbrev pub line_size : Bytes → ℕ
line_size bytes = size_by (length bytes) (first_line (take line_limit bytes))

abbrev pub is_kind_word : Bytes → Bool
is_kind_word word = not (length word == 0) && list_all (λ b. nat_le 97 b && nat_le b 122) word

abbrev pub find_kind : Bytes → List ObjectKind → Option ObjectKind
find_kind word [] = None
find_kind word (kind ∷ kinds) = if bytes_eq (kind_word kind) word then Some kind else find_kind word kinds

abbrev pub kind_of : Bytes → Option ObjectKind
kind_of word = find_kind word (blob ∷ tree ∷ commit ∷ tag ∷ [])

abbrev pub size_limit : ObjectKind → ℕ
size_limit commit = commit_limit
size_limit _ = text_limit

-- what the line of an object says, or why it is refused; there is no line where the input is at its end
pub data LineReading : Type 0 where
  NoLine : LineReading
  Header : (id : Id) (kind : ObjectKind) (size : ℕ) → LineReading
  BadLine : (why : Refusal) → LineReading

-- a line whose bytes are refused is not read
abbrev pub unless_bad : Option Refusal → LineReading → LineReading
unless_bad None reading = reading
unless_bad (Some why) reading = BadLine why

abbrev pub header_by : ℕ → Id → ℕ → Option ObjectKind → LineReading
header_by at id size None = BadLine (refusal fault.KindUnknown id at)
header_by at id size (Some kind) = if nat_lt (size_limit kind) size then BadLine (refusal_at fault.Limit at) else Header id kind size

-- the three words of a line without its LF
abbrev pub header_of : ℕ → List Bytes → LineReading
header_of at (id ∷ kind ∷ size ∷ []) =
    if is_hex_id id && is_kind_word kind && is_decimal size then header_by at (bytes_of_digits id) (number_of size) (kind_of kind)
    else BadLine (refusal_at fault.Line at)
header_of at _ = BadLine (refusal_at fault.Line at)

abbrev pub is_missing : Bytes → Bool
is_missing text = ends_with ◌==◌ text (codes " missing")

-- a line that says that an object is missing, also one of 4,096 bytes without LF, and no other line of that size fits
abbrev pub line_by : ℕ → Bytes → Option (Bytes × Bytes) → LineReading
line_by at piece None = if is_missing piece then BadLine (refusal_at fault.Missing at) else BadLine (refusal_at fault.Line at)
line_by at piece (Some p) = if is_missing p.0 then BadLine (refusal_at fault.Missing at) else header_of at (slice_split (λ b. b == sp) p.0)

-- the line that begins the bytes, which stand at an offset of the input
unfoldable pub line_reading : ℕ → Bytes → LineReading
line_reading at [] = NoLine
line_reading at (b ∷ bytes) =
    unless_bad (reach (at + length (b ∷ bytes)) (at + line_size (b ∷ bytes)))
    (line_by at (take line_limit (b ∷ bytes)) (first_line (take line_limit (b ∷ bytes))))

abbrev pub or_line : ℕ → Bool → Option Refusal → Option Refusal
or_line at is_lf None = if is_lf then None else Some (refusal_at fault.Line at)
or_line at is_lf (Some why) = Some why

-- a content of this size and the LF behind it, at the beginning of bytes that stand at an offset of the input
unfoldable pub body_fault : ℕ → ℕ → Bytes → Option Refusal
body_fault at size bytes = or_line (at + size) (slice_index bytes size == lf) (reach (at + length bytes) (at + size + 1))

-- the object that begins the bytes, or why it is refused; there is none where the input is at its end
pub data ObjectReading : Type 0 where
  NoObject : ObjectReading
  Found : (object : Object) → ObjectReading
  BadObject : (why : Refusal) → ObjectReading

abbrev pub with_content : Id → ObjectKind → Bytes → Option Refusal → ObjectReading
with_content id kind content None = Found (record { id = id; kind = kind; content = content })
with_content id kind content (Some why) = BadObject why

-- the object of a line, whose content begins these bytes, which stand at an offset of the input
abbrev pub object_behind : ℕ → Bytes → LineReading → ObjectReading
object_behind at bytes NoLine = NoObject
object_behind at bytes (Header id kind size) = with_content id kind (take size bytes) (body_fault at size bytes)
object_behind at bytes (BadLine why) = BadObject why

unfoldable pub object_reading : ℕ → Bytes → ObjectReading
object_reading at bytes = object_behind (at + line_size bytes) (drop (line_size bytes) bytes) (line_reading at bytes)

-- the same where an object's id has to be that of its kind and content
abbrev pub checked_at : ℕ → ObjectReading → ObjectReading
checked_at at NoObject = NoObject
checked_at at (Found o) = if bytes_eq o.id (object_id o.kind o.content) then Found o else BadObject (refusal fault.IdWrong o.id at)
checked_at at (BadObject why) = BadObject why

abbrev pub no_more : Option Refusal → StreamFraming
no_more bad = record { objects = []; bad = bad }

abbrev pub put_placed : Placed → StreamFraming → StreamFraming
put_placed o f = record { objects = o ∷ f.objects; bad = f.bad }

-- the first number is above the count of objects
unfoldable pub stream_from : ℕ → ℕ → Bytes → StreamFraming
stream_from zero at bytes = no_more None
stream_from (suc more) at bytes = elim (object_reading at bytes) as (λ _. StreamFraming) [
  | NoObject ↦ no_more None
  | BadObject why ↦ no_more (Some why)
  | Found o ↦ put_placed (record { object = o; at = at }) (stream_from more (at + length (object_text o)) (drop (length (object_text o)) bytes))
]

unfoldable pub stream_framing : Bytes → StreamFraming
stream_framing bytes = stream_from (suc (length bytes)) 0 bytes

-- an object that a stream may have
abbrev pub IsFit : Object → Type 0
IsFit o = IsId o.id × (length o.content ≤ size_limit o.kind)

-- the bytes are the stream of these objects, all within their limits
pub record IsFitStream (bytes : Bytes) (objects : List Object) : Type 0 where
  pub is : bytes ≡ stream_text objects
  pub fit : Each IsFit objects
  pub fits : length bytes ≤ input_limit

-- these objects were read, and then the end
pub record ReadsAll (f : StreamFraming) (objects : List Object) : Type 0 where
  pub each : map (λ p. p.object) f.objects ≡ objects
  pub all : f.bad ≡ None

-- `ID KIND SIZE`
unfoldable pub object_line : Id → ObjectKind → ℕ → Bytes
object_line id kind size = line (spaced (hex id ∷ kind_word kind ∷ decimal size ∷ []))

-- a line for each object
abbrev pub stream_listing : List Placed → Bytes
stream_listing objects = flat_map (λ o. object_line (o.object).id (o.object).kind (length (o.object).content)) objects

-- ---- what a stream brings to the objects that are known, or its first refusal

abbrev pub placed_fault : List Object → Placed → Option Refusal
placed_fault known o =
    if bytes_eq (o.object).id (object_id (o.object).kind (o.object).content)
    then option_map (λ name. refusal name (o.object).id o.at) (object_fault known o.object)
    else Some (refusal fault.IdWrong (o.object).id o.at)

unfoldable pub objects_fault : List Object → List Placed → Option Refusal → Option Refusal
objects_fault known [] bad = bad
objects_fault known (o ∷ objects) bad = elim (placed_fault known o) as (λ _. Option Refusal) [
  | Some why ↦ Some why
  | None ↦ objects_fault (objects_after known o.object) objects bad
]

abbrev pub reading_by : List Placed → Option Refusal → Result (List Placed) Refusal
reading_by objects None = Ok objects
reading_by objects (Some why) = Err why

-- the objects of the stream, each checked against those known and those before it, or the first refusal
unfoldable pub stream_reading : List Object → Bytes → Result (List Placed) Refusal
stream_reading known bytes = reading_by (stream_framing bytes).objects (objects_fault known (stream_framing bytes).objects (stream_framing bytes).bad)

-- how many objects are of a kind
abbrev pub count_of_kind : ObjectKind → List Placed → ℕ
count_of_kind kind objects = count_by (λ o. same_kind kind (o.object).kind) objects
