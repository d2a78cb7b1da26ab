use Rattle.std.proofs.Common.{◌≡◌, false, take}
use Rattle.text_model.specs.Lists.{Each}
use Rattle.text_model.specs.Text.{is_below}
use Rattle.make_history.proofs.rows.place_of.Given as goal

-- the entries so far don't stand above the path
abbrev pub invariant-loop-place : goal.invariant-loop-place
invariant-loop-place l = Each (λ e. is_below l.path e.path ≡ false) (take l.place l.manifest)
