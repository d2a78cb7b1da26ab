use Rattle.std.proofs.Common.{◌≡◌, ◌+◌, drop}
use Rattle.view_model.specs.View.{ChangesetView}
use Rattle.link_rule.proofs.LinkLemmas.{chain, IsSoFar}
use Rattle.link_rule.proofs.octopus.Octopus.links.Given as goal

-- the links so far, before those over the ids that are left
abbrev pub invariant-loop-place : goal.invariant-loop-place
invariant-loop-place l = (base : ChangesetView) → (base.fields).manifest ≡ (l.self).manifest
    → IsSoFar (l.self).commit base (l.self).count (l.links).items (l.place + 1) l.before (drop l.place l.seconds) (chain (l.self).commit base (l.self).count 1 l.initial.before l.seconds)
