-- The content of a tree object: its entries, as Git's object format has them.
use Rattle.std.specs.Prelude.{◌≡◌, ℕ, zero, suc, ◌+◌, ◌-◌, Bool, true, false, not, ◌&&◌, ◌||◌, ◌==◌, nat_le, nat_lt, if◌then◌else◌, List, [], ◌∷◌, ◌++◌, length, take, drop, map, slice_get, Option, Some, None, Result, Ok, Err, codes, IsTrue, bytes_eq}
use Rattle.std.specs.List.{flat_map, list_all, list_any}
use Rattle.std.specs.Option.{option_and_then}
use Rattle.text_model.specs.Lists.{Each, rises}
use Rattle.text_model.specs.Text.{Bytes, IsBytes, sp, nul, is_below}
use Rattle.text_model.specs.Cuts.{cut_of}
use Rattle.text_model.specs.Id.{Id, IsId}
use Rattle.text_model.specs.Path.{is_fit_name}
use Rattle.text_model.specs.Fault.{FaultName}
use Rattle.text_model.specs.Fault as fault

-- a plain file, one that its group may write, one that can be run, a symbolic link, a directory, and a commit of another repository
pub data Mode : Type 0 where
  File : Mode
  GroupFile : Mode
  Exec : Mode
  Link : Mode
  Directory : Mode
  Gitlink : Mode

abbrev pub mode_text : Mode → Bytes
mode_text File = codes "100644"
mode_text GroupFile = codes "100664"
mode_text Exec = codes "100755"
mode_text Link = codes "120000"
mode_text Directory = codes "40000"
mode_text Gitlink = codes "160000"

abbrev pub modes : List Mode
modes = File ∷ GroupFile ∷ Exec ∷ Link ∷ Directory ∷ Gitlink ∷ []

abbrev pub is_directory : Mode → Bool
is_directory Directory = true
is_directory _ = false

-- an entry of the mode is a blob's
abbrev pub is_blob_mode : Mode → Bool
is_blob_mode Directory = false
is_blob_mode Gitlink = false
is_blob_mode _ = true

pub record TreeEntry : Type 0 where
  pub mode : Mode
  pub name : Bytes
  pub id : Id

abbrev pub tree_entry_text : TreeEntry → Bytes
tree_entry_text e = mode_text e.mode ++ sp ∷ e.name ++ nul ∷ e.id

unfoldable pub tree_text : List TreeEntry → Bytes
tree_text entries = flat_map tree_entry_text entries

-- the name that counts in the order of entries: that of a directory has a slash at its end
abbrev pub order_name : Bool → Bytes → Bytes
order_name directory name = if directory then name ++ 47 ∷ [] else name

abbrev pub sort_name : Mode → Bytes → Bytes
sort_name mode name = order_name (is_directory mode) name

abbrev pub is_entry_below : TreeEntry → TreeEntry → Bool
is_entry_below a b = is_below (sort_name a.mode a.name) (sort_name b.mode b.name)

-- no name stands twice
abbrev pub has_distinct : List Bytes → Bool
has_distinct [] = true
has_distinct (name ∷ names) = not (list_any (bytes_eq name) names) && has_distinct names

-- fit names, distinct and in order
abbrev pub IsTree : List TreeEntry → Type 0
IsTree entries =
    Each (λ e. IsTrue (is_fit_name e.name) × IsBytes e.name × IsId e.id) entries
    × IsTrue (rises is_entry_below entries) × IsTrue (has_distinct (map (λ e. e.name) entries))

abbrev pub IsTreeText : Bytes → List TreeEntry → Type 0
IsTreeText content entries = IsTree entries × (content ≡ tree_text entries)

-- ---- any content, entry by entry

-- an entry as it stands: the text of its mode, its name and its id
pub record RawEntry : Type 0 where
  pub mode : Bytes
  pub name : Bytes
  pub id : Id

abbrev pub raw_size : RawEntry → ℕ
raw_size e = length e.mode + length e.name + 22

abbrev pub entry_and_rest : Bytes → Bytes → Bytes → Option (RawEntry × Bytes)
entry_and_rest mode name tail = if nat_lt (length tail) 20 then None else Some (record { mode = mode; name = name; id = take 20 tail }, drop 20 tail)

-- the entry at the beginning of the content and what follows it, unless the entry is cut
unfoldable pub first_entry : Bytes → Option (RawEntry × Bytes)
first_entry content = option_and_then (λ p. option_and_then (λ q. entry_and_rest p.0 q.0 q.1) (cut_of nul p.1)) (cut_of sp content)

abbrev pub is_octal_digit : ℕ → Bool
is_octal_digit b = nat_le 48 b && nat_le b 55

-- one or more octal digits
abbrev pub is_octal : Bytes → Bool
is_octal text = not (length text == 0) && list_all is_octal_digit text

-- the mode of a text
abbrev pub find_mode : Bytes → List Mode → Option Mode
find_mode text [] = None
find_mode text (mode ∷ others) = if bytes_eq (mode_text mode) text then Some mode else find_mode text others

abbrev pub mode_of : Bytes → Option Mode
mode_of text = find_mode text modes

-- The order asks whether a mode text is that of a directory, which it can before the mode is known.
abbrev pub is_directory_text : Bytes → Bool
is_directory_text text = bytes_eq text (mode_text Directory)

abbrev pub raw_sort_name : RawEntry → Bytes
raw_sort_name e = order_name (is_directory_text e.mode) e.name

abbrev pub rises_behind : List TreeEntry → RawEntry → Bool
rises_behind before e = elim (slice_get before (length before - 1)) as (λ _. Bool) [
  | None ↦ true
  | Some last ↦ is_below (sort_name last.mode last.name) (raw_sort_name e)
]

abbrev pub has_name : List TreeEntry → Bytes → Bool
has_name entries name = list_any (λ e. bytes_eq e.name name) entries

-- an entry of this name that is no directory's
abbrev pub is_file_named : Bytes → TreeEntry → Bool
is_file_named name e = not (is_directory e.mode) && bytes_eq e.name name

-- what is wrong with an entry behind these: its shape, else its mode, else its name
abbrev pub judged_name : Option Mode → RawEntry → Result TreeEntry FaultName
judged_name None e = Err fault.ModeOut
judged_name (Some mode) e = if is_fit_name e.name then Ok (record { mode = mode; name = e.name; id = e.id }) else Err fault.NameUnfit

abbrev pub judged : List TreeEntry → RawEntry → Result TreeEntry FaultName
judged before e =
    if not (is_octal e.mode) || not (rises_behind before e) || has_name before e.name then Err fault.ObjectShape
    else judged_name (mode_of e.mode) e

-- the fault of a content, and the offset of the first entry that doesn't fit
pub record TreeFault : Type 0 where
  pub name : FaultName
  pub place : ℕ

-- the first number is at least the count of entries
unfoldable pub entries_fault : ℕ → List TreeEntry → ℕ → Bytes → Option TreeFault
entries_fault zero before at bytes = None
entries_fault (suc more) before at [] = None
entries_fault (suc more) before at (b ∷ bytes) = elim (first_entry (b ∷ bytes)) as (λ _. Option TreeFault) [
  | None ↦ Some (record { name = fault.ObjectShape; place = at })
  | Some p ↦ elim (judged before p.0) as (λ _. Option TreeFault) [
    | Err name ↦ Some (record { name = name; place = at })
    | Ok e ↦ entries_fault more (before ++ e ∷ []) (at + raw_size p.0) p.1
  ]
]

-- none where the content is that of a tree
abbrev pub tree_fault : Bytes → Option TreeFault
tree_fault content = entries_fault (length content) [] 0 content

-- the entries of a content, as far as they have modes; all of them where it is that of a tree
unfoldable pub tree_entries_from : ℕ → Bytes → List TreeEntry
tree_entries_from zero bytes = []
tree_entries_from (suc more) bytes = elim (first_entry bytes) as (λ _. List TreeEntry) [
  | None ↦ []
  | Some p ↦ elim (mode_of p.0.mode) as (λ _. List TreeEntry) [
    | None ↦ []
    | Some mode ↦ record { mode = mode; name = p.0.name; id = p.0.id } ∷ tree_entries_from more p.1
  ]
]

abbrev pub tree_entries : Bytes → List TreeEntry
tree_entries content = tree_entries_from (length content) content
