use Rattle.std.proofs.Common.{◌≡◌, ◌++◌}
use Rattle.std.specs.List.{AllZip}
use Rattle.link_rule.proofs.DraftLemmas.{IsDraftOf}
use Rattle.link_rule.proofs.links.drafts_over.Given as goal

-- the drafts of the links so far
abbrev pub invariant-loop-link : goal.invariant-loop-link
invariant-loop-link l =
    (goal.iterator-loop-link).can_next l.link-iterator ×
    (goal.iterator-loop-link).is_finite l.link-iterator ×
    (l.initial.link-iterator.rest.items ≡ l.yielded ++ l.link-iterator.rest.items) ×
    AllZip (IsDraftOf l.base) l.yielded l.drafts
