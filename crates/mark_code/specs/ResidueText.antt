-- The text of a residue as it is read.
use Rattle.std.specs.Prelude.{◌==◌, if◌then◌else◌, List, [], ◌∷◌, ◌++◌, Option, Some, None, option_map, bytes_eq, codes}
use Rattle.std.specs.Option.{option_and_then}
use Rattle.std.specs.List.{slice_split}
use Rattle.text_model.specs.Text.{Bytes, IsBytes, sp}
use Rattle.text_model.specs.Cuts.{cut_of}
use Rattle.text_model.specs.Id.{id_of_hex}
use Rattle.git_model.specs.Residue.{ResidueKind, Group, Link, Empty, ResidueItem}
use Rattle.git_object.specs.Values.{stands_above}
use Rattle.pair_model.specs.MarkList.{IsItemKind}
use Rattle.mark_code.specs.Reading.{◌>>=◌, raw_of}

-- what stands behind the word of the kind
abbrev pub item_of_path : ResidueKind → Bytes → Option ResidueItem
item_of_path kind text = option_map (λ path. record { path = path; kind = kind }) (raw_of text)

unfoldable pub link_of : Bytes → Option ResidueItem
link_of text = do
  first ← cut_of 58 text
  id ← id_of_hex first.0
  item_of_path (Link id) first.1

abbrev pub item_of_kind : Bytes → Bytes → Option ResidueItem
item_of_kind kind text =
    if bytes_eq kind (codes "group") then item_of_path Group text
    else if bytes_eq kind (codes "link") then link_of text
    else if bytes_eq kind (codes "empty") then item_of_path Empty text
    else None

-- the item that a word is, where it is one
unfoldable pub item_of_word : Bytes → Option ResidueItem
item_of_word word = do
  first ← cut_of 58 word
  item_of_kind first.0 first.1

-- the items of the words behind those before them, where each path stands above the last
abbrev pub items_behind : List ResidueItem → List Bytes → Option (List ResidueItem)
items_behind before [] = Some before
items_behind before (word ∷ words) =
    option_and_then (λ item. if stands_above before item then items_behind (before ++ item ∷ []) words else None) (item_of_word word)

-- the residue whose text this is, where it is one
unfoldable pub residue_of_text : Bytes → Option (List ResidueItem)
residue_of_text [] = Some []
residue_of_text (b ∷ text) = items_behind [] (slice_split (λ c. c == sp) (b ∷ text))

-- the path is bytes, and a link is an id
abbrev pub IsItem : ResidueItem → Type 0
IsItem item = IsBytes item.path × IsItemKind item.kind
