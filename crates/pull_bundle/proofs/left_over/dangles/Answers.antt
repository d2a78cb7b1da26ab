use Rattle.std.proofs.Common.{ap, sym, subst, ◌∙◌}
use Rattle.text_model.specs.Id.{Id, has_id}
use Rattle.hg_bundle.specs.declared.arrival.Arrival.{Arrival}
use Rattle.history_model.specs.Pull.{IsKnownLink}
use Rattle.pull_bundle.proofs.LinkNames.{dangles-is}
use Rattle.pull_bundle.proofs.left_over.dangles.Goals as goal

pub returns-then-is_known_link : goal.returns-then-is_known_link
returns-then-is_known_link c = λ blocks a state is.
    let node = ap (λ (x : Arrival). x.node) is in
    dangles-is c.args.state.now blocks a state (sym (c.is_changeset.ensures a is) ∙ c.if-not-is_changeset.false)
    (subst (λ (n : Id). IsKnownLink c.args.state.now.known.hg n) node (c.is_known_link.ensures.0 c.if-is_known_link.true)) c.contains.result
    (c.contains.ensures ∙ ap (has_id c.args.state.now.changesets) node)
