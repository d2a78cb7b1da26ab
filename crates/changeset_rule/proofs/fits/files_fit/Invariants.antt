use Rattle.std.proofs.Common.{◌≤◌, length, take}
use Rattle.text_model.specs.Lists.{Each}
use Rattle.view_model.specs.View.{text_limit}
use Rattle.changeset_rule.proofs.fits.files_fit.Given as goal

-- the texts so far are within the limit
abbrev pub invariant-loop-file : goal.invariant-loop-file
invariant-loop-file l = Each (λ r. length r.text ≤ text_limit) (take l.file-index l.fresh)
