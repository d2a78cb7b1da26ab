-- The marks of a changeset as they are read from its extras.
use Rattle.std.specs.Prelude.{◌≡◌, Bool, true, not, ℕ, ◌^◌, ◌&&◌, ◌==◌, nat_le, if◌then◌else◌, List, [], ◌∷◌, length, Option, Some, None, option_map, bytes_eq, codes}
use Rattle.std.specs.Option.{option_and_then}
use Rattle.text_model.specs.Lists.{Each}
use Rattle.text_model.specs.Text.{Bytes, has_byte, is_below, decimal_below}
use Rattle.git_model.specs.Residue.{ResidueItem}
use Rattle.hg_model.specs.Changeset.{Extra}
use Rattle.pair_model.specs.MarkList.{ChangesetMarks}
use Rattle.mark_code.specs.Reading.{◌>>=◌, raw_of}
use Rattle.mark_code.specs.ResidueText.{residue_of_text}

-- a part whose item may stand first, and the items behind it
abbrev pub part_at : Bytes → List Extra → Option (Option Bytes × List Extra)
part_at key [] = Some (None, [])
part_at key (e ∷ es) = if bytes_eq e.key key then option_map (λ part. (Some part, es)) (raw_of e.value) else Some (None, e ∷ es)

-- a number of parents that has a mark
abbrev pub count_of : Bytes → Option ℕ
count_of text = option_and_then (λ n. if nat_le 3 n && nat_le n 64 then Some n else None) (decimal_below (2 ^ 64) text)

-- the number of parents, whose item may stand first, and the items behind it
abbrev pub count_at : List Extra → Option (Option ℕ × List Extra)
count_at [] = Some (None, [])
count_at (e ∷ es) = if bytes_eq e.key (codes "hg-git-parents") then option_map (λ n. (Some n, es)) (count_of e.value) else Some (None, e ∷ es)

-- the residue, whose item alone may be left
abbrev pub tree_at : List Extra → Option (Option (List ResidueItem))
tree_at [] = Some None
tree_at (e ∷ []) = if bytes_eq e.key (codes "hg-git-tree") then option_map (λ items. Some items) (residue_of_text e.value) else None
tree_at (e ∷ f ∷ es) = None

-- the marks that the extras are, where they are no others
unfoldable pub marks_in_extras : List Extra → Option ChangesetMarks
marks_in_extras extras = do
  author ← part_at (codes "hg-git-author") extras
  committer ← part_at (codes "hg-git-committer") author.1
  headers ← part_at (codes "hg-git-headers") committer.1
  message ← part_at (codes "hg-git-message") headers.1
  parents ← count_at message.1
  tree ← tree_at parents.1
  Some (record { author = author.0; committer = committer.0; headers = headers.0; message = message.0; parents = parents.0; tree = tree })

-- a key that isn't empty and has no `:`
abbrev pub is_key : Bytes → Bool
is_key key = not (length key == 0) && not (has_byte 58 key)

-- each key is below this one
abbrev pub AreBelow : Bytes → List Extra → Type 0
AreBelow key extras = Each (λ e. is_below e.key key ≡ true) extras
