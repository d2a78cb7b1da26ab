use Rattle.std.proofs.Common.{◌≡◌, take}
use Rattle.std.specs.Prelude.{IsTrue}
use Rattle.git_model.specs.Tree.{has_distinct}
use Rattle.state_text.proofs.nameable.id_set.Given as goal

abbrev pub invariant-loop-id : goal.invariant-loop-id
invariant-loop-id l = IsTrue (has_distinct l.ids) → l.set ≡ take l.id-index l.ids
