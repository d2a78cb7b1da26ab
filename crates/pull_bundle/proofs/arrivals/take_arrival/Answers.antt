use Rattle.std.proofs.Common.{inr, ap, sym, subst, ◌∙◌}
use Rattle.hg_bundle.specs.declared.arrival.Arrival.{Arrival}
use Rattle.bridge_text.specs.Refusals.{fault_name}
use Rattle.pull_outcome.specs.Takes.{IsTakeFault}
use Rattle.pull_bundle.specs.Faults.{IsOfChangeset}
use Rattle.pull_bundle.proofs.ArrivalLemmas.{ComesDue, group-is, other-taken, changeset-taken}
use Rattle.pull_bundle.proofs.arrivals.take_arrival.Goals as goal

pub take_changeset-requires : goal.take_changeset-requires
take_changeset-requires g c =
    let x = c.requires.comes in
    let one = sym (c.is_changeset.ensures x.2 x.3) ∙ c.if-not-is_changeset.false in
    record { comes = (x.0, x.1, (x.2).revision, sym (ap (λ (a : Arrival). a.node) x.3), group-is ((x.2).revision).group one, x.4) }

pub returns-then-not-is_changeset-clause-ok : goal.returns-then-not-is_changeset-clause-ok
returns-then-not-is_changeset-clause-ok g c = λ blocks before a is comes.
    other-taken c.args.taking before blocks a (sym (c.is_changeset.ensures a is) ∙ c.if-not-is_changeset.true) comes

pub returns-in-Ok-clause-ok : goal.returns-in-Ok-clause-ok
returns-in-Ok-clause-ok g c = λ blocks before a is comes.
    let one = sym (c.is_changeset.ensures a is) ∙ c.if-not-is_changeset.false in
    changeset-taken c.args.taking c.in-Ok.next before blocks a one comes (c.in-Ok.ensures.ok blocks before a.revision (sym (ap (λ (x : Arrival). x.node) is)) (group-is (a.revision).group one) comes)

pub returns-in-Err-Refused-clause-refused : goal.returns-in-Err-Refused-clause-refused
returns-in-Err-Refused-clause-refused g c = λ blocks before a is comes.
    let one = sym (c.is_changeset.ensures a is) ∙ c.if-not-is_changeset.false in
    let due = subst (IsTakeFault (ComesDue c.args.taking c.args.arrival.now.node)) c.in-Err-Refused.field-0-is c.in-Err-Refused.ensures.refused in
    record {
      changeset = one;
      name = fault_name c.in-Err-Refused.fault;
      refused = due blocks before a.revision (sym (ap (λ (x : Arrival). x.node) is)) (group-is (a.revision).group one) comes;
      is = (λ i. record { name = fault_name c.in-Err-Refused.fault; id = (is i).node; place = (is i).at });
    }

pub returns-in-Err-Refused-clause-names : goal.returns-in-Err-Refused-clause-names
returns-in-Err-Refused-clause-names g c = inr (subst IsOfChangeset c.in-Err-Refused.field-0-is c.in-Err-Refused.ensures.names)

pub returns-in-Ok-clause-steps : goal.returns-in-Ok-clause-steps
returns-in-Ok-clause-steps g c =
    let x = c.requires.comes in
    let one = sym (c.is_changeset.ensures x.2 x.3) ∙ c.if-not-is_changeset.false in
    c.in-Ok.ensures.steps x.0 x.1 (x.2).revision (sym (ap (λ (a : Arrival). a.node) x.3)) (group-is ((x.2).revision).group one) x.4
