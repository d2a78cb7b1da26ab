-- The lines of Git's commits and tags: a word, a space and a value.
use Rattle.std.specs.Prelude.{◌≡◌, ℕ, List, ◌++◌, ◌∷◌, [], if◌then◌else◌, length, drop, Option, Some, None, option_map, bytes_eq, codes}
use Rattle.std.specs.List.{find, flat_map}
use Rattle.std.specs.Option.{option_and_then}
use Rattle.text_model.specs.Text.{Bytes, lf}
use Rattle.text_model.specs.Id.{Id, IsId, id_of_hex, ObjectKind, blob, tree, commit, tag, kind_word}
use Rattle.text_model.specs.Cuts.{cut_of}
use Rattle.text_model.specs.Lists.{Each}
use Rattle.git_model.specs.Commit.{begins, AreHeaders, parent_line}

-- what stands behind the word in the first line, and the rest
abbrev pub behind : Bytes → Bytes → Option Bytes
behind word text = if begins word text then Some (drop (length word) text) else None

unfoldable pub worded_line : Bytes → Bytes → Option (Bytes × Bytes)
worded_line word text = option_and_then (λ p. option_map (λ value. (value, p.1)) (behind word p.0)) (cut_of lf text)

-- the id in the first line, and the rest
unfoldable pub id_line : Bytes → Bytes → Option (Id × Bytes)
id_line word text = option_and_then (λ p. option_map (λ id. (id, p.1)) (id_of_hex p.0)) (worded_line word text)

-- the kind that a word names
abbrev pub kind_of : Bytes → Option ObjectKind
kind_of word = find (λ kind. bytes_eq word (kind_word kind)) (blob ∷ tree ∷ commit ∷ tag ∷ [])

-- the kind in the first line, and the rest
unfoldable pub type_line : Bytes → Option (ObjectKind × Bytes)
type_line text = option_and_then (λ p. option_map (λ kind. (kind, p.1)) (kind_of p.0)) (worded_line (codes "type ") text)

-- The text begins with these headers, and a last line that lacks its LF stands behind them.
pub record IsCutAt (text : Bytes) (at : ℕ) : Type 0 where
  pub headers : Bytes
  pub rest : Bytes
  pub are : AreHeaders headers
  pub whole : text ≡ headers ++ rest
  pub cut : cut_of lf rest ≡ None
  pub place : at ≡ length headers

-- headers, a blank line and a message
abbrev pub IsSplit : Bytes → Bytes → Bytes → Type 0
IsSplit text headers message = AreHeaders headers × (text ≡ headers ++ lf ∷ message)

-- the text is lines of the parents that were appended, and a rest that begins with no such line
pub record AreParents (text : Bytes) (old new : List Id) (rest : Bytes) : Type 0 where
  pub ids : List Id
  pub each : Each IsId ids
  pub appended : new ≡ old ++ ids
  pub whole : text ≡ flat_map parent_line ids ++ rest
  pub last : id_line (codes "parent ") rest ≡ None
