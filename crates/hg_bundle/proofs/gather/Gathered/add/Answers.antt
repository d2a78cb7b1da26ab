use Rattle.std.proofs.Common.{◌≡◌, ◌++◌, ◌∷◌, [], List, ◌∙◌, ap, refl, arith, rules, not}
use Rattle.hg_model.specs.Revision.{knows}
use Rattle.hg_store.specs.Groups.{revision_value}
use Rattle.hg_bundle.specs.Place.{group_value}
use Rattle.hg_bundle.specs.declared.arrival.Arrival.{Arrival}
use Rattle.hg_bundle.specs.Entry.{entry_value}
use Rattle.hg_bundle.proofs.EntryLemmas.{refused_addition, added_entry}
use Rattle.hg_bundle.proofs.gather.Gathered.add.Goals as goal

pub returns-in-Err-clause-fault : goal.returns-in-Err-clause-fault
returns-in-Err-clause-fault c =
    rw c.addition_fault.ensures.value
    (refused_addition c.args.self.now.store c.args.self.now.sum (group_value c.args.group.now) c.args.self.now.last c.args.at (entry_value c.args.entry.now)
    c.in_ok-text.text (revision_value c.with_text.result) c.in-Err.fault c.in_ok-text.ensures.text c.with_text.ensures c.in-Err.ensures.fault)

pub returns-clause-adds : goal.returns-clause-adds
returns-clause-adds c =
    let fresh : c.eq-fresh.result ≡ not (knows c.args.self.now.store (group_value c.args.group.now) c.args.entry.now.node) = search rules in
    let arrival : Arrival → List Arrival = λ a. c.args.self.now.arrivals ++ a ∷ [] in
    added_entry (group_value c.args.group.now) c.args.at (entry_value c.args.entry.now) c.args.self.now _ c.in_ok-text.text (revision_value c.with_text.result)
    c.in_ok-text.ensures.text c.with_text.ensures c.in-Ok.ensures.faultless c.in-Ok.ensures.ok
    (c.in_ok-push.ensures.ok
    ∙ ap arrival (λ i. record { kind = c.kind.ensures i; path = c.in_ok-path.ensures i; node = c.args.entry.now.node; at = c.args.at; fresh = fresh i }))
    refl (omega (arith, c.len-len.ensures.value))
