-- The pairs of ids of a saved state, and their lines.
use Rattle.std.specs.Prelude.{◌≡◌, ◌≢◌, Bool, List, [], ◌∷◌, ◌++◌, length, codes}
use Rattle.std.specs.List.{flat_map}
use Rattle.text_model.specs.Lists.{Each, in_order}
use Rattle.text_model.specs.Text.{Bytes, line, spaced, is_below}
use Rattle.text_model.specs.Id.{IsId, hex}
use Rattle.state_part.specs.declared.pairs.IdPair.{IdPair}
use Rattle.state_part.specs.Form.{count_line}

-- both are ids
abbrev pub IsPair : IdPair → Type 0
IsPair p = IsId p.commit × IsId p.node

-- `git-hex SP hg-hex LF`
abbrev pub pair_line : IdPair → Bytes
pair_line p = line (spaced (hex p.commit ∷ hex p.node ∷ []))

-- the node of the first pair is below that of the second
abbrev pub has_node_below : IdPair → IdPair → Bool
has_node_below p q = is_below p.node q.node

-- the lines of pairs in rising order of their nodes
abbrev pub sorted_lines : List IdPair → Bytes
sorted_lines pairs = flat_map pair_line (in_order has_node_below pairs)

-- no line of a pair begins the bytes
abbrev pub NoPair : Bytes → Type 0
NoPair bytes = (p : IdPair) (rest : Bytes) → IsPair p → bytes ≢ pair_line p ++ rest

-- how many pairs there are, and a line for each
abbrev pub map_section : List IdPair → Bytes
map_section pairs = count_line (codes "map") (length pairs) ++ flat_map pair_line pairs

-- the bytes begin with the section of these pairs, and go on with the rest
pub record HasMap (bytes : Bytes) (pairs : List IdPair) (rest : Bytes) : Type 0 where
  pub is : bytes ≡ map_section pairs ++ rest
  pub ids : Each IsPair pairs

-- no section of pairs begins the bytes
abbrev pub NoMap : Bytes → Type 0
NoMap bytes = (pairs : List IdPair) (rest : Bytes) → Each IsPair pairs → bytes ≢ map_section pairs ++ rest
