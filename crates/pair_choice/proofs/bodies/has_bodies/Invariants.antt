use Rattle.std.proofs.Common.{◌++◌, List, take}
use Rattle.text_model.specs.Lists.{Each}
use Rattle.view_model.specs.View.{Row}
use Rattle.commit_rule.specs.Parts.{AreRowsOf}
use Rattle.pair_choice.specs.Bodies.{IsBodyAlone}
use Rattle.pair_choice.proofs.bodies.has_bodies.Given as goal

-- the bodies of the rows so far are alone
abbrev pub invariant-loop-row : goal.invariant-loop-row
invariant-loop-row l = (rows : List Row) → AreRowsOf (l.h.fresh ++ l.known.hg) l.h.rows rows → Each (IsBodyAlone l.known.git l.d.fresh) (take l.row-index rows)
