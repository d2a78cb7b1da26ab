-- Files beside marks, whose paths rise as those of the files do.
use Rattle.std.specs.Prelude.{Bool, false, if◌then◌else◌, List, [], ◌∷◌, Option, Some, None, option_map, is_some}
use Rattle.text_model.specs.Text.{Bytes}
use Rattle.view_model.specs.View.{Row, TreeRow}
use Rattle.pair_model.specs.Block.{Parents}
use Rattle.pair_model.specs.Rule.{ruled_row}
use Rattle.pair_model.specs.MarkList.{Mark}
use Rattle.partner_model.specs.Filled.{entry_path, is_at, revision_of_mark, row_with_revision}

-- a file by a mark, or by the rule where it has none
abbrev pub named_row : Parents → Option Mark → TreeRow → Option Row
named_row ps None t = Some (ruled_row ps t)
named_row ps (Some m) t = option_map (row_with_revision (ruled_row ps t)) (revision_of_mark ps t.content m)

-- the next mark, where it is at the path, and the marks behind it
abbrev pub mark_at : Bytes → List Mark → Option Mark
mark_at path [] = None
mark_at path (m ∷ ms) = if is_at path m then Some m else None

abbrev pub behind : Bytes → List Mark → List Mark
behind path [] = []
behind path (m ∷ ms) = if is_at path m then ms else m ∷ ms

-- the next mark is that of a file
abbrev pub starts_entry : List Mark → Bool
starts_entry [] = false
starts_entry (m ∷ ms) = is_some (entry_path m)
