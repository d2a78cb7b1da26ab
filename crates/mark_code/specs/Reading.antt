-- The marks of a commit as they are read.
use Rattle.std.specs.Prelude.{Bool, true, false, ◌&&◌, ◌==◌, if◌then◌else◌, List, [], ◌∷◌, length, Option, Some, None, option_map, bytes_eq, codes, decimal}
use Rattle.std.specs.Option.{option_and_then}
use Rattle.std.specs.List.{slice_split}
use Rattle.text_model.specs.Text.{Bytes, sp}
use Rattle.text_model.specs.Cuts.{cut_of}
use Rattle.text_model.specs.Id.{id_of_hex}
use Rattle.text_model.specs.Escape.{is_plain}
use Rattle.text_model.specs.Unescape.{hex_byte}
use Rattle.hg_model.specs.Changeset.{DateLine, Plain, Raw, date_of}
use Rattle.view_model.specs.View.{NoManifest, Over}
use Rattle.pair_model.specs.MarkList.{Mark, Rename, File, Manifest, Files, User, Date, RawDate, OneExtra, may_follow}

infixl 10 ◌>>=◌
abbrev pub ◌>>=◌ : {A B : Type 0} → Option A → (A → Option B) → Option B
(Some x) >>= f = f x
None >>= f = None

-- the bytes whose escape the text is, where it is one
unfoldable pub raw_of : Bytes → Option Bytes
raw_of [] = Some []
raw_of (b ∷ []) = if is_plain b then Some (b ∷ []) else None
raw_of (b ∷ c ∷ []) = if is_plain b then option_map (λ more. b ∷ more) (raw_of (c ∷ [])) else None
raw_of (b ∷ c ∷ d ∷ rest) =
    if is_plain b then option_map (λ more. b ∷ more) (raw_of (c ∷ d ∷ rest))
    else if b == 37 then option_and_then (λ byte. option_map (λ more. byte ∷ more) (raw_of rest)) (hex_byte c d)
    else None

-- ---- what is read behind the kind of a line

unfoldable pub rename_of : Bytes → Option Mark
rename_of words = do
  first ← cut_of sp words
  path ← raw_of first.0
  source ← raw_of first.1
  Some (Rename path source)

-- the metadata, or that there is no place for any
abbrev pub meta_of : Bytes → Option (Option Bytes)
meta_of [] = None
meta_of (b ∷ text) =
    if b == 61 then option_map (λ meta. Some meta) (raw_of text) else if b == 45 && length text == 0 then Some None else None

unfoldable pub file_of : Bytes → Option Mark
file_of words = do
  first ← cut_of sp words
  path ← raw_of first.0
  second ← cut_of sp first.1
  p ← id_of_hex second.0
  third ← cut_of sp second.1
  q ← id_of_hex third.0
  meta ← meta_of third.1
  Some (File path p q meta)

unfoldable pub parents_of : Bytes → Option Mark
parents_of words = do
  first ← cut_of sp words
  p ← id_of_hex first.0
  q ← id_of_hex first.1
  Some (Manifest (Over p q))

abbrev pub manifest_of : Bytes → Option Mark
manifest_of words = if bytes_eq words (codes "null") then Some (Manifest NoManifest) else parents_of words

-- the paths whose escapes the texts are
abbrev pub raws_of : List Bytes → Option (List Bytes)
raws_of [] = Some []
raws_of (text ∷ texts) = option_and_then (λ raw. option_map (λ raws. raw ∷ raws) (raws_of texts)) (raw_of text)

-- the paths, where there are as many as is said
abbrev pub counted : Bytes → List Bytes → Option Mark
counted count paths = if bytes_eq count (decimal (length paths)) then Some (Files paths) else None

abbrev pub files_at : Bytes → Option (Bytes × Bytes) → Option Mark
files_at words None = counted words []
files_at words (Some first) = option_and_then (counted first.0) (raws_of (slice_split (λ b. b == sp) first.1))

unfoldable pub files_of : Bytes → Option Mark
files_of words = files_at words (cut_of sp words)

abbrev pub user_of : Bytes → Option Mark
user_of words = option_map User (raw_of words)

-- a date that has no extras
abbrev pub date_mark : DateLine → Option Mark
date_mark (Plain time tz []) = Some (Date time tz)
date_mark (Plain time tz (e ∷ es)) = None
date_mark (Raw text) = None

abbrev pub raw_date_of : Bytes → Option Mark
raw_date_of words = option_map RawDate (raw_of words)

unfoldable pub extra_mark_of : Bytes → Option Mark
extra_mark_of words = do
  first ← cut_of sp words
  key ← raw_of first.0
  value ← raw_of first.1
  Some (OneExtra (record { key = key; value = value }))

abbrev pub mark_of_kind : Bytes → Bytes → Option Mark
mark_of_kind kind words =
    if bytes_eq kind (codes "HG:rename") then rename_of words
    else if bytes_eq kind (codes "HG:file") then file_of words
    else if bytes_eq kind (codes "HG:manifest") then manifest_of words
    else if bytes_eq kind (codes "HG:files") then files_of words
    else if bytes_eq kind (codes "HG:user") then user_of words
    else if bytes_eq kind (codes "HG:date") then date_mark (date_of words)
    else if bytes_eq kind (codes "HG:raw") then raw_date_of words
    else if bytes_eq kind (codes "HG:extra") then extra_mark_of words
    else None

-- the mark that a line without its LF is, where it is one
unfoldable pub mark_of : Bytes → Option Mark
mark_of text = do
  first ← cut_of sp text
  mark_of_kind first.0 first.1

-- a mark behind which no raw date line may stand
abbrev pub is_date : Mark → Bool
is_date (Date time tz) = true
is_date (OneExtra e) = true
is_date _ = false

-- behind the marks, which are a list, one more may stand
abbrev pub may_end : List Mark → Mark → Bool
may_end [] mark = true
may_end (m ∷ []) mark = may_follow m mark
may_end (m ∷ n ∷ ms) mark = may_end (n ∷ ms) mark
