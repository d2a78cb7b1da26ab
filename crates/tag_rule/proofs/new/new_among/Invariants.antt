use Rattle.std.proofs.Common.{◌≡◌, take}
use Rattle.std.specs.Prelude.{filter}
use Rattle.tag_rule.specs.Named.{names}
use Rattle.tag_rule.specs.Fates.{AreRight, is_new}
use Rattle.tag_rule.proofs.new.new_among.Given as goal

abbrev pub invariant-loop-id : goal.invariant-loop-id
invariant-loop-id l = record {
  new : l.new ≡ filter (is_new l.targets) (take l.id-index l.came);
  right : AreRight (names l.targets) l.fates;
}
