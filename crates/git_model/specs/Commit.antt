-- The contents of commits and tags, and the form of an author's line, as Git's object format has them.
use Rattle.std.specs.Prelude.{◌≡◌, ◌≢◌, ℕ, zero, suc, ◌+◌, ◌-◌, ◌≤◌, ◌^◌, Bool, true, false, not, ◌&&◌, ◌||◌, ◌==◌, if◌then◌else◌, List, [], ◌∷◌, ◌++◌, length, take, drop, Option, Some, None, codes, decimal, bytes_eq}
use Rattle.std.specs.List.{flat_map, list_all, list_any, starts_with, ends_with}
use Rattle.std.specs.Option.{option_and_then}
use Rattle.text_model.specs.Lists.{Each}
use Rattle.text_model.specs.Text.{Bytes, IsBytes, lf, sp, has_byte, line, first_line, whole_lines, is_digit, decimal_below}
use Rattle.text_model.specs.Cuts.{cut_of}
use Rattle.text_model.specs.Id.{Id, IsId, hex, is_hex_id, bytes_of_digits, ObjectKind, blob, tree, commit, tag, kind_word}

pub record Commit : Type 0 where
  pub tree_id : Id
  pub parents : List Id
  pub author : Bytes
  pub committer : Bytes
  pub headers : Bytes
  pub message : Bytes

abbrev pub parent_line : Id → Bytes
parent_line id = line (codes "parent " ++ hex id)

unfoldable pub commit_text : Commit → Bytes
commit_text c =
    line (codes "tree " ++ hex c.tree_id) ++ flat_map parent_line c.parents
    ++ line (codes "author " ++ c.author) ++ line (codes "committer " ++ c.committer) ++ c.headers ++ lf ∷ c.message

-- nonempty lines, each with its LF
pub record AreHeaders (headers : Bytes) : Type 0 where
  pub lines : List Bytes
  pub each : Each (λ l. (l ≢ []) × (has_byte lf l ≡ false) × IsBytes l) lines
  pub are : headers ≡ flat_map line lines

abbrev pub IsLine : Bytes → Type 0
IsLine text = IsBytes text × (has_byte lf text ≡ false)

pub record IsCommit (c : Commit) : Type 0 where
  pub tree_id : IsId c.tree_id
  pub parents : Each IsId c.parents
  pub author : IsLine c.author
  pub committer : IsLine c.committer
  pub headers : AreHeaders c.headers
  pub message : IsBytes c.message

abbrev pub IsCommitText : Bytes → Commit → Type 0
IsCommitText content c = IsCommit c × (content ≡ commit_text c)

pub record Tag : Type 0 where
  pub target : Id
  pub target_kind : ObjectKind
  pub name : Bytes
  pub rest : Bytes

unfoldable pub tag_text : Tag → Bytes
tag_text t =
    line (codes "object " ++ hex t.target) ++ line (codes "type " ++ kind_word t.target_kind) ++ line (codes "tag " ++ t.name) ++ t.rest

pub record IsTag (t : Tag) : Type 0 where
  pub target : IsId t.target
  pub name : IsLine t.name
  pub rest : IsBytes t.rest

abbrev pub IsTagText : Bytes → Tag → Type 0
IsTagText content t = IsTag t × (content ≡ tag_text t)

-- ---- any content, line by line: the offset of the first line that doesn't fit

abbrev pub begins : Bytes → Bytes → Bool
begins word text = starts_with ◌==◌ text word

-- `word HEX`
abbrev pub is_id_line : Bytes → Bytes → Bool
is_id_line word text = begins word text && is_hex_id (drop (length word) text)

-- what a line of a commit may be; the number says where: 0 the tree, 1 a parent or the author, 2 the committer, 3 a header or the blank line
abbrev pub next_place : ℕ → Bytes → Option ℕ
next_place place text =
    if place == 0 then (if is_id_line (codes "tree ") text then Some 1 else None)
    else if place == 1 then (if is_id_line (codes "parent ") text then Some 1 else if begins (codes "author ") text then Some 2 else None)
    else if place == 2 then (if begins (codes "committer ") text then Some 3 else None)
    else if length text == 0 then Some 4 else Some 3

-- The offset of the first line that doesn't fit. `next` says which place a line leads to, behind the place `last` nothing is asked, and the second number is at least the count of lines.
unfoldable pub lines_fault : (ℕ → Bytes → Option ℕ) → ℕ → ℕ → ℕ → ℕ → Bytes → Option ℕ
lines_fault next last zero place at bytes = None
lines_fault next last (suc more) place at bytes =
    if place == last then None else elim (first_line bytes) as (λ _. Option ℕ) [
      | None ↦ Some at
      | Some p ↦ elim (next place p.0) as (λ _. Option ℕ) [
        | None ↦ Some at
        | Some following ↦ lines_fault next last more following (at + length p.0 + 1) p.1
      ]
    ]

-- none where the content is that of a commit; behind the blank line all is message
abbrev pub commit_fault : Bytes → Option ℕ
commit_fault content = lines_fault next_place 4 (length content + 1) 0 0 content

-- the digits of the parent lines that stand at the beginning of the lines
abbrev pub leading_parents : List Bytes → List Id
leading_parents [] = []
leading_parents (text ∷ texts) = if begins (codes "parent ") text then bytes_of_digits (take 40 (drop 7 text)) ∷ leading_parents texts else []

-- the parents that the content of a commit names, behind its line of the tree
abbrev pub parent_ids : Bytes → List Id
parent_ids content = leading_parents (drop 1 (whole_lines content))

abbrev pub is_type_line : Bytes → Bool
is_type_line text = list_any (λ kind. bytes_eq text (codes "type " ++ kind_word kind)) (blob ∷ tree ∷ commit ∷ tag ∷ [])

-- what a line of a tag may be; the number says where: 0 the target, 1 its type, 2 the name
abbrev pub next_tag_place : ℕ → Bytes → Option ℕ
next_tag_place place text =
    if place == 0 then (if is_id_line (codes "object ") text then Some 1 else None)
    else if place == 1 then (if is_type_line text then Some 2 else None)
    else if begins (codes "tag ") text then Some 3 else None

-- none where the content is that of a tag: its first three lines fit
abbrev pub tag_fault : Bytes → Option ℕ
tag_fault content = lines_fault next_tag_place 3 (length content + 1) 0 0 content

-- ---- the ident of an author's line

pub record Ident : Type 0 where
  pub name : Bytes
  pub email : Bytes
  pub seconds : ℕ
  pub zone : Bytes

abbrev pub ident_text : Ident → Bytes
ident_text i = i.name ++ codes " <" ++ i.email ++ codes "> " ++ decimal i.seconds ++ sp ∷ i.zone

-- a sign and four digits
abbrev pub is_zone : Bytes → Bool
is_zone zone = length zone == 5 && (begins (codes "+") zone || begins (codes "-") zone) && list_all is_digit (drop 1 zone)

abbrev pub has_angle : Bytes → Bool
has_angle text = has_byte 60 text || has_byte 62 text

-- name and email have no angle bracket, and the seconds go up to 2 ^ 62
pub record IsIdent (i : Ident) : Type 0 where
  pub name : has_angle i.name ≡ false
  pub email : has_angle i.email ≡ false
  pub seconds : i.seconds ≤ 2 ^ 62
  pub zone : is_zone i.zone ≡ true

-- the line is that of the ident; a line is that of at most one
abbrev pub IsIdentLine : Bytes → Ident → Type 0
IsIdentLine text i = IsIdent i × (text ≡ ident_text i)

-- a name with the space behind it
abbrev pub name_before_space : Bytes → Option Bytes
name_before_space text = if ends_with ◌==◌ text (sp ∷ []) && not (has_byte 62 text) then Some (take (length text - 1) text) else None

-- seconds and zone, with a space between them
abbrev pub seconds_and_zone : Bytes → Option (ℕ × Bytes)
seconds_and_zone text = option_and_then (λ parts. option_and_then (λ seconds. if is_zone parts.1 then Some (seconds, parts.1) else None) (decimal_below (2 ^ 62 + 1) parts.0)) (cut_of sp text)

-- the same behind a space
abbrev pub behind_space : Bytes → Option (ℕ × Bytes)
behind_space [] = None
behind_space (b ∷ bytes) = if b == sp then seconds_and_zone bytes else None

abbrev pub ident_by : Option Bytes → Bytes → Option (ℕ × Bytes) → Option Ident
ident_by (Some name) email (Some moment) = if has_byte 60 email then None else Some (record { name = name; email = email; seconds = moment.0; zone = moment.1 })
ident_by _ email _ = None

-- The ident of a line, where it has one: the name stands before the first `<`, and the email before the first `>` behind that.
unfoldable pub ident_of : Bytes → Option Ident
ident_of text = option_and_then (λ parts. option_and_then (λ rest. ident_by (name_before_space parts.0) rest.0 (behind_space rest.1)) (cut_of 62 parts.1)) (cut_of 60 text)

-- ---- the target and the type that the content of a tag names

abbrev pub tag_target : Bytes → Id
tag_target content = bytes_of_digits (take 40 (drop 7 content))

abbrev pub is_tag_of : ObjectKind → Bytes → Bool
is_tag_of kind content = starts_with ◌==◌ (drop 48 content) (line (codes "type " ++ kind_word kind))
