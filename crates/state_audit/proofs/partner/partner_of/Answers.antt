use Rattle.std.proofs.Common.{sym, ap, ◌∙◌}
use Rattle.pair_known.specs.declared.git_draft.GitDraft.{GitDraft}
use Rattle.state_audit.proofs.Partners.{refused-none, none-here, partner-here}
use Rattle.state_audit.proofs.partner.partner_of.Goals as goal

pub returns-in-Err : goal.returns-in-Err
returns-in-Err g c = record {
  partner = λ blocks front v inside before. refused-none c.args.known.now blocks front c.args.before.now before v c.in-Err.fault c.in_ok-check_memory-in-Err.ensures (c.in-Err.ensures.refused blocks v inside);
  steps = c.in-Err.ensures.steps;
}

pub returns-then-not-are_there-clause-partner : goal.returns-then-not-are_there-clause-partner
returns-then-not-are_there-clause-partner g c = λ blocks front v inside before.
    let chosen = c.in-Ok.ensures.ok blocks v inside in
    none-here c.args.known.now blocks front c.args.before.now before v inside.history c.in-Ok.partner chosen.0 chosen.1
    c.as_slice.result.now (c.as_slice.ensures ∙ ap (λ (d : GitDraft). (d.commit).parents) c.partner.view_is) (sym c.are_there.ensures ∙ c.if-not-are_there.true)

pub returns-clause-partner : goal.returns-clause-partner
returns-clause-partner g c = λ blocks front v inside before.
    let chosen = c.in-Ok.ensures.ok blocks v inside in
    let ids = c.as_slice.ensures ∙ ap (λ (d : GitDraft). (d.commit).parents) c.partner.view_is in
    (chosen.0, partner-here c.args.known.now blocks front c.args.before.now before v inside.history c.in-Ok.partner chosen.0 chosen.1 c.as_slice.result.now ids (sym c.are_there.ensures ∙ c.if-not-are_there.false))
