use Rattle.std.proofs.Common.{sym, subst, ◌∙◌, true≢false}
use Rattle.text_model.specs.Id.{Id}
use Rattle.history_model.specs.Pull.{IsKnownLink}
use Rattle.pull_bundle.proofs.TakeLemmas.{is-saved, is-new, takes-link, takes-saved, all-taken, all-refused, all-steps}
use Rattle.pull_bundle.proofs.take.take_changeset.Goals as goal

pub returns-then-is_known_link-clause-ok : goal.returns-then-is_known_link-clause-ok
returns-then-is_known_link-clause-ok g c = λ blocks before r is group comes.
    takes-link c.args.taking blocks r comes.taking (subst (λ (n : Id). IsKnownLink (c.args.taking.state).known.hg n) (sym is) (c.is_known_link.ensures.0 c.if-is_known_link.true))

pub returns-then-is_some-clause-ok : goal.returns-then-is_some-clause-ok
returns-then-is_some-clause-ok g c = λ blocks before r is group comes.
    takes-saved c.args.taking blocks r comes.taking (λ k. true≢false (sym (c.is_known_link.ensures.1 (subst (λ (n : Id). IsKnownLink (c.args.taking.state).known.hg n) is k)) ∙ c.if-is_known_link.false))
    (is-saved c.args.taking blocks c.args.node.now r.node c.git_of.result comes.taking is c.git_of.ensures.partner ∙ sym c.is_some.ensures ∙ c.if-is_some.true)

pub take_new-requires : goal.take_new-requires
take_new-requires g c =
    let x = c.requires.comes in
    let free = is-saved c.args.taking x.0 c.args.node.now (x.2).node c.git_of.result x.5.taking x.3 c.git_of.ensures.partner ∙ sym c.is_some.ensures ∙ c.if-is_some.false in
    record { new = (x.0, x.2, x.3, is-new c.args.taking x.0 x.1 x.2 x.5 x.4 (λ k. true≢false (sym (c.is_known_link.ensures.1 (subst (λ (n : Id). IsKnownLink (c.args.taking.state).known.hg n) x.3 k)) ∙ c.if-is_known_link.false)) free) }

pub returns-clause-ok : goal.returns-clause-ok
returns-clause-ok g c = all-taken c.args.taking c.args.node.now
    (λ r is k. true≢false (sym (c.is_known_link.ensures.1 (subst (λ (n : Id). IsKnownLink (c.args.taking.state).known.hg n) is k)) ∙ c.if-is_known_link.false))
    (λ blocks r taking is. is-saved c.args.taking blocks c.args.node.now r.node c.git_of.result taking is c.git_of.ensures.partner ∙ sym c.is_some.ensures ∙ c.if-is_some.false) c.take_new.result c.take_new.ensures.ok

pub returns-clause-refused : goal.returns-clause-refused
returns-clause-refused g c = all-refused c.args.taking c.args.node.now
    (λ r is k. true≢false (sym (c.is_known_link.ensures.1 (subst (λ (n : Id). IsKnownLink (c.args.taking.state).known.hg n) is k)) ∙ c.if-is_known_link.false))
    (λ blocks r taking is. is-saved c.args.taking blocks c.args.node.now r.node c.git_of.result taking is c.git_of.ensures.partner ∙ sym c.is_some.ensures ∙ c.if-is_some.false) c.take_new.result c.take_new.ensures.refused

pub returns-clause-steps : goal.returns-clause-steps
returns-clause-steps g c = all-steps c.args.taking c.args.node.now
    (λ r is k. true≢false (sym (c.is_known_link.ensures.1 (subst (λ (n : Id). IsKnownLink (c.args.taking.state).known.hg n) is k)) ∙ c.if-is_known_link.false))
    (λ blocks r taking is. is-saved c.args.taking blocks c.args.node.now r.node c.git_of.result taking is c.git_of.ensures.partner ∙ sym c.is_some.ensures ∙ c.if-is_some.false)
    c.args.steps.now c.take_new.new.steps c.take_new.ensures.steps.1 c.take_new.result c.take_new.ensures.ok
