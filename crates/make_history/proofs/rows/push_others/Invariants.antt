use Rattle.std.proofs.Common.{◌≡◌, ◌++◌, not, List, map, take, drop}
use Rattle.std.specs.Prelude.{filter, bytes_eq}
use Rattle.text_model.specs.Lists.{Each}
use Rattle.view_model.specs.View.{Row, entry_of_row}
use Rattle.view_model.specs.Held.{IsFileHeld}
use Rattle.pair_known.specs.Rows.{row_value}
use Rattle.make_history.proofs.rows.push_others.Given as goal

-- the files of the entries so far came
abbrev pub invariant-loop-place : goal.invariant-loop-place
invariant-loop-place l = (old : List Row) → map entry_of_row old ≡ l.manifest → Each (IsFileHeld l.store) old
    → l.rows ≡ l.initial.rows ++ map row_value (filter (λ row. not (bytes_eq row.path l.path)) (drop l.from (take l.place old)))
