-- An entry of a table of refs by their names.
use Rattle.std.specs.Prelude.{ℕ}
use Rattle.std.specs.Global.{Vec}
use Rattle.text_model.specs.Id.{Id}
use Rattle.state_model.specs.Kept.{NameRow}

abbrev pub entry_row : Vec ℕ × Id → NameRow
entry_row e = record { id = e.1; name = (e.0).items }
