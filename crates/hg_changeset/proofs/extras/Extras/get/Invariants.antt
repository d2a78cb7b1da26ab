use Rattle.std.proofs.Common.{◌≡◌, drop}
use Rattle.hg_model.specs.Changeset.{extra_at}
use Rattle.hg_changeset.proofs.extras.Extras.get.Given as goal

-- no item so far has the key
abbrev pub invariant-loop-item : goal.invariant-loop-item
invariant-loop-item l = extra_at l.key l.self ≡ extra_at l.key (drop l.item-index l.self)
