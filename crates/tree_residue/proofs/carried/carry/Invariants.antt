use Rattle.std.proofs.Common.{◌≡◌, take}
use Rattle.git_model.specs.Residue.{carried}
use Rattle.tree_residue.proofs.carried.carry.Given as goal

-- what is handed on of the items so far
abbrev pub invariant-loop-item : goal.invariant-loop-item
invariant-loop-item l = l.residue ≡ carried (take l.item-index l.fn.old) l.fn.files
