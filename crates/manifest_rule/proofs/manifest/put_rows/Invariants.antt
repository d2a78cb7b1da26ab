use Rattle.std.proofs.Common.{◌≡◌, ◌++◌, take, map}
use Rattle.hg_model.specs.Manifest.{manifest_text}
use Rattle.manifest_rule.specs.Listed.{entry_of_value}
use Rattle.manifest_rule.proofs.manifest.put_rows.Given as goal

abbrev pub invariant-loop-row : goal.invariant-loop-row
invariant-loop-row l = l.out.items ≡ l.initial.out.items ++ manifest_text (map entry_of_value (take l.row-index l.rows))
