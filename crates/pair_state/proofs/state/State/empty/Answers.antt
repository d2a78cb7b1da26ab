use Rattle.std.proofs.Common.{[], sym, ap, subst, ◌∙◌}
use Rattle.pair_state.specs.AllBlocks.{HasAllBlocks}
use Rattle.pair_state.specs.declared.state_parts.StateParts.{StateParts}
use Rattle.pair_state.proofs.AllBlocks.{none-known}
use Rattle.pair_state.proofs.state.State.empty.Goals as goal

pub from_parts-requires : goal.from_parts-requires
from_parts-requires c = record { history = ([], none-known c.empty.result c.empty.ensures.state c.empty.ensures.revisions) }

pub returns-clause-state : goal.returns-clause-state
returns-clause-state c = subst (λ (s : StateParts). HasAllBlocks s []) (sym c.from_parts.ensures) (none-known c.empty.result c.empty.ensures.state c.empty.ensures.revisions)

pub returns-clause-revisions : goal.returns-clause-revisions
returns-clause-revisions c = ap (λ (s : StateParts). s.known.hg) c.from_parts.ensures ∙ c.empty.ensures.revisions

pub returns-clause-objects : goal.returns-clause-objects
returns-clause-objects c = ap (λ (s : StateParts). s.known.git) c.from_parts.ensures ∙ c.empty.ensures.objects

pub returns-clause-tags : goal.returns-clause-tags
returns-clause-tags c = ap (λ (s : StateParts). s.tags) c.from_parts.ensures ∙ c.empty.ensures.tags

pub returns-clause-names : goal.returns-clause-names
returns-clause-names c = ap (λ (s : StateParts). s.names) c.from_parts.ensures ∙ c.empty.ensures.names
