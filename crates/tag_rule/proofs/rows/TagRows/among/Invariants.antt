use Rattle.std.proofs.Common.{◌≡◌, take}
use Rattle.tag_rule.specs.Rows.{tag_ids}
use Rattle.tag_rule.proofs.rows.TagRows.among.Given as goal

abbrev pub invariant-loop-item : goal.invariant-loop-item
invariant-loop-item l = record {
  ids : l.rows.ids ≡ tag_ids (take l.item-index l.came);
  set : l.rows.set ≡ l.rows.ids;
}
