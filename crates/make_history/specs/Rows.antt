-- Rows that are made, in the words of the model.
use Rattle.std.specs.Prelude.{Some}
use Rattle.text_model.specs.Text.{Bytes}
use Rattle.text_model.specs.Id.{null}
use Rattle.view_model.specs.View.{FileRevision}
use Rattle.pair_model.specs.Block.{Parents}
use Rattle.pair_model.specs.Rule.{revision_at, new_revision}
use Rattle.make_model.specs.History.{first_other, copy_or}

-- the new revision of a path over those of the parents
abbrev pub new_at : Parents → Bytes → Bytes → FileRevision
new_at ps path body = new_revision (revision_at (ps.first).rows path) (revision_at (ps.second).rows path) body

-- a copy of the first parent's first path, where that is another one
abbrev pub copied_revision : Parents → Bytes → Bytes → FileRevision
copied_revision ps path body = copy_or (new_at ps path body) body (first_other path (ps.first).rows)

-- a revision without parents that has these metadata
abbrev pub copy_with : Bytes → Bytes → FileRevision
copy_with meta body = record { p = null; q = null; meta = Some meta; body = body }
