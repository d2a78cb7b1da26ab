use Rattle.std.proofs.Common.{◌≡◌, take}
use Rattle.git_model.specs.Residue.{residue_of}
use Rattle.tree_residue.proofs.items.residue_in.Given as goal

-- the residue of the rows so far
abbrev pub invariant-loop-row : goal.invariant-loop-row
invariant-loop-row l = l.residue ≡ residue_of (take l.row-index l.rows)
