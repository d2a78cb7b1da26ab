use Rattle.std.proofs.Common.{◌++◌, List, take}
use Rattle.hg_store.specs.Known.{AreAdded}
use Rattle.view_model.specs.View.{Row}
use Rattle.commit_rule.specs.Parts.{AreRowsOf, AreShortBodies}
use Rattle.commit_rule.proofs.fits.bodies_fit.Given as goal

-- the bodies of the rows so far are short
abbrev pub invariant-loop-row : goal.invariant-loop-row
invariant-loop-row l = (rows : List Row) → AreAdded l.known.hg → AreRowsOf (l.h.fresh ++ l.known.hg) l.h.rows rows → AreShortBodies (take l.row-index rows)
