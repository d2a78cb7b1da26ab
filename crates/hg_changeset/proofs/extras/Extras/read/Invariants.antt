use Rattle.std.proofs.Common.{length}
use Rattle.hg_changeset.proofs.ItemsLemmas.{ItemsTo}
use Rattle.hg_changeset.proofs.extras.Extras.read.Given as goal

-- the items of the text are those that are read and those of the rest
abbrev pub invariant-items : goal.invariant-items
invariant-items l = ItemsTo l.text l.extras l.rest

abbrev pub decreases-items : goal.decreases-items
decreases-items l = length l.rest
