use Rattle.std.proofs.Common.{◌≡◌, take}
use Rattle.hg_model.specs.Changeset.{AreExtras}
use Rattle.commit_unmark.specs.Parts.{extras_by}
use Rattle.commit_unmark.proofs.extras.named_extras.Given as goal

-- the items of the marks before the place, which have their form
abbrev pub invariant-loop-place : goal.invariant-loop-place
invariant-loop-place l = (l.extras ≡ extras_by (take l.place l.marks)) × AreExtras (extras_by (take l.place l.marks))
