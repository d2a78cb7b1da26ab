-- The text of a changeset: manifest, user, date line, files and description, as Mercurial's changelog has it.
use Rattle.std.specs.Prelude.{◌≡◌, ◌≢◌, ℕ, zero, suc, ◌+◌, ◌^◌, Bool, true, false, not, ◌&&◌, ◌||◌, ◌==◌, if◌then◌else◌, List, [], ◌∷◌, ◌++◌, length, map, Option, Some, None, option_map, codes, ℤ, pos, negsuc, neg_ℤ, ◌≤ℤ◌, IsTrue, bytes_eq}
use Rattle.std.specs.Option.{option_and_then, unwrap_or}
use Rattle.std.specs.List.{flat_map, slice_split}
use Rattle.text_model.specs.Lists.{Each, rises}
use Rattle.text_model.specs.Text.{Bytes, IsBytes, lf, sp, nul, has_byte, is_below, line, signed_decimal, decimal_below, first_line, has_piece}
use Rattle.text_model.specs.Cuts.{cut_of}
use Rattle.text_model.specs.Id.{Id, IsId, hex, is_hex_id}

pub record Extra : Type 0 where
  pub key : Bytes
  pub value : Bytes

-- A date line is Plain, a time and seconds west of UTC with extras, or Raw, any other line.
pub data DateLine : Type 0 where
  Plain : (time : ℤ) (tz : ℤ) (extras : List Extra) → DateLine
  Raw : (text : Bytes) → DateLine

pub record Changeset : Type 0 where
  pub manifest : Id
  pub user : Bytes
  pub date : DateLine
  pub files : List Bytes
  pub description : Bytes

-- `\`, LF, CR and NUL as `\\`, `\n`, `\r` and `\0`
abbrev pub extra_byte : ℕ → Bytes
extra_byte b =
    if b == 92 then codes "\\\\" else if b == 10 then codes "\\n" else if b == 13 then codes "\\r" else if b == 0 then codes "\\0" else b ∷ []

-- `key:value`, escaped
abbrev pub extra_text : Extra → Bytes
extra_text e = flat_map extra_byte (e.key ++ 58 ∷ e.value)

-- the items with one NUL between each two
abbrev pub extras_text : List Extra → Bytes
extras_text [] = []
extras_text (e ∷ es) = extra_text e ++ flat_map (λ x. nul ∷ extra_text x) es

abbrev pub plain_date_text : ℤ → ℤ → List Extra → Bytes
plain_date_text time tz [] = signed_decimal time ++ sp ∷ signed_decimal tz
plain_date_text time tz (e ∷ es) = signed_decimal time ++ sp ∷ signed_decimal tz ++ sp ∷ extras_text (e ∷ es)

abbrev pub date_text : DateLine → Bytes
date_text (Plain time tz extras) = plain_date_text time tz extras
date_text (Raw text) = text

-- the text of the fields
unfoldable pub changeset_text : Changeset → Bytes
changeset_text x = line (hex x.manifest) ++ line x.user ++ line (date_text x.date) ++ flat_map line x.files ++ lf ∷ x.description

-- keys aren't empty, have no `:` and rise strictly
abbrev pub AreExtras : List Extra → Type 0
AreExtras extras = Each (λ e. (e.key ≢ []) × (has_byte 58 e.key ≡ false) × IsBytes e.key × IsBytes e.value) extras × IsTrue (rises is_below (map (λ e. e.key) extras))

-- time from -2 ^ 62 to 2 ^ 62, and seconds west from -2 ^ 31 to 2 ^ 31
pub record IsPlainDate (time tz : ℤ) (extras : List Extra) : Type 0 where
  pub time_low : neg_ℤ (pos (2 ^ 62)) ≤ℤ time
  pub time_high : time ≤ℤ pos (2 ^ 62)
  pub tz_low : neg_ℤ (pos (2 ^ 31)) ≤ℤ tz
  pub tz_high : tz ≤ℤ pos (2 ^ 31)
  pub items : AreExtras extras

-- Raw is a line that no Plain date spells
abbrev pub IsDateLine : DateLine → Type 0
IsDateLine (Plain time tz extras) = IsPlainDate time tz extras
IsDateLine (Raw text) = IsBytes text × (has_byte 10 text ≡ false) × ((time tz : ℤ) (extras : List Extra) → IsPlainDate time tz extras → text ≢ plain_date_text time tz extras)

-- ---- a date line as it is read

-- the byte stands for itself in an item
abbrev pub is_literal : ℕ → Bool
is_literal b = not (b == 92) && not (b == 10) && not (b == 13) && not (b == 0)

-- the byte that `\` and this byte spell
abbrev pub spelled_byte : ℕ → Option ℕ
spelled_byte b =
    if b == 92 then Some 92 else if b == 110 then Some 10 else if b == 114 then Some 13 else if b == 48 then Some 0 else None

-- the bytes that a text with such escapes spells, where it is one
unfoldable pub unescaped : Bytes → Option Bytes
unescaped [] = Some []
unescaped (b ∷ []) = if is_literal b then Some (b ∷ []) else None
unescaped (b ∷ c ∷ rest) =
    if b == 92 then option_and_then (λ byte. option_map (λ bytes. byte ∷ bytes) (unescaped rest)) (spelled_byte c)
    else if is_literal b then option_map (λ bytes. b ∷ bytes) (unescaped (c ∷ rest))
    else None

-- the item whose key and value these spell
abbrev pub extra_of_sides : Bytes × Bytes → Option Extra
extra_of_sides p =
    if length p.0 == 0 then None
    else option_and_then (λ key. option_map (λ value. record { key = key; value = value }) (unescaped p.1)) (unescaped p.0)

-- the item that a text between two NULs spells
unfoldable pub extra_of : Bytes → Option Extra
extra_of text = option_and_then extra_of_sides (cut_of 58 text)

-- the key of the last item
abbrev pub last_key : List Extra → Option Bytes
last_key [] = None
last_key (e ∷ []) = Some e.key
last_key (e ∷ f ∷ es) = last_key (f ∷ es)

-- the key rises above that of the item before, if there is one
abbrev pub key_rises : Option Bytes → Bytes → Bool
key_rises None key = true
key_rises (Some last) key = is_below last key

-- the items and one more, where its key rises
abbrev pub with_extra : List Extra → Extra → Option (List Extra)
with_extra es e = if key_rises (last_key es) e.key then Some (es ++ e ∷ []) else None

-- the items and those that the texts spell
abbrev pub extras_from : List Extra → List Bytes → Option (List Extra)
extras_from es [] = Some es
extras_from es (text ∷ texts) = option_and_then (λ more. extras_from more texts) (option_and_then (with_extra es) (extra_of text))

-- the items that a text spells, where it is one of items
unfoldable pub extras_of : Bytes → Option (List Extra)
extras_of text = extras_from [] (slice_split (λ b. b == nul) text)

-- the number below zero of this size
abbrev pub negative_of : ℕ → Option ℤ
negative_of zero = None
negative_of (suc n) = Some (negsuc n)

-- the number whose signed decimal the text is, where its size is at most this
abbrev pub signed_of : ℕ → Bytes → Option ℤ
signed_of most [] = None
signed_of most (b ∷ text) =
    if b == 45 then option_and_then negative_of (decimal_below (most + 1) text) else option_map pos (decimal_below (most + 1) (b ∷ text))

-- a Plain date with the time zone that the text names
abbrev pub date_in_zone : ℤ → Bytes → List Extra → Option DateLine
date_in_zone time zone extras = option_map (λ tz. Plain time tz extras) (signed_of (2 ^ 31) zone)

-- behind the time: the seconds west, and extras where a space follows them
abbrev pub date_behind_time : ℤ → Bytes → Option (Bytes × Bytes) → Option DateLine
date_behind_time time text None = date_in_zone time text []
date_behind_time time text (Some p) = option_and_then (date_in_zone time p.0) (extras_of p.1)

-- the Plain date that a line spells
unfoldable pub plain_date_of : Bytes → Option DateLine
plain_date_of text = option_and_then (λ p. option_and_then (λ time. date_behind_time time p.1 (cut_of sp p.1)) (signed_of (2 ^ 62) p.0)) (cut_of sp text)

-- the one date line of a text
unfoldable pub date_of : Bytes → DateLine
date_of text = unwrap_or (plain_date_of text) (Raw text)

-- the fields that have a text
pub record IsChangeset (x : Changeset) : Type 0 where
  pub manifest : IsId x.manifest
  pub user : (x.user ≢ []) × (has_byte 10 x.user ≡ false) × IsBytes x.user
  pub date : IsDateLine x.date
  pub files : Each (λ f. (f ≢ []) × (has_byte 10 f ≡ false) × IsBytes f) x.files
  pub description : IsBytes x.description

-- the text is that of the fields; a text has at most one value
abbrev pub IsChangesetText : Bytes → Changeset → Type 0
IsChangesetText text x = IsChangeset x × (text ≡ changeset_text x)

-- a blank line stands in the bytes, at their beginning or behind a line
abbrev pub has_blank_line : Bytes → Bool
has_blank_line [] = false
has_blank_line (b ∷ bytes) = b == 10 || has_piece (lf ∷ lf ∷ []) (b ∷ bytes)

abbrev pub files_fault : ℕ → Bytes → Option ℕ
files_fault end rest = if has_blank_line rest then None else Some end

abbrev pub date_fault : ℕ → ℕ → Option (Bytes × Bytes) → Option ℕ
date_fault at end None = Some at
date_fault at end (Some p) = files_fault end p.1

abbrev pub user_fault : ℕ → ℕ → Option (Bytes × Bytes) → Option ℕ
user_fault at end None = Some at
user_fault at end (Some p) = if length p.0 == 0 then Some at else date_fault (at + length p.0 + 1) end (first_line p.1)

abbrev pub manifest_fault : ℕ → Option (Bytes × Bytes) → Option ℕ
manifest_fault end None = Some 0
manifest_fault end (Some p) = if is_hex_id p.0 then user_fault 41 end (first_line p.1) else Some 0

-- Where no fields have the text: the offset of the first line that doesn't fit, or the text's length where the blank line is missing.
abbrev pub changeset_fault : Bytes → Option ℕ
changeset_fault text = manifest_fault (length text) (first_line text)

-- the value that stands under a key
abbrev pub extra_at : Bytes → List Extra → Option Bytes
extra_at key [] = None
extra_at key (e ∷ es) = if bytes_eq e.key key then Some e.value else extra_at key es
