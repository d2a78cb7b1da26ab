use Rattle.std.proofs.Common.{ℕ, ◌+◌, sym, ap, subst, ◌∙◌}
use Rattle.text_model.specs.Text.{Bytes}
use Rattle.name_model.specs.Reading.{set_of}
use Rattle.ref_map.specs.Faults.{IsNameFault, fault_at}
use Rattle.ref_map.specs.Rows.{reader}
use Rattle.ref_map.specs.declared.fault.NameFault.{NameFault}
use Rattle.ref_map.proofs.TextLemmas.{SoFar, taken, fault_of_line, none_refused, all_rows, nothing}
use Rattle.ref_map.proofs.rows.Rows.of_text.Goals as goal

pub returns-in-Err-clause-fault : goal.returns-in-Err-clause-fault
returns-in-Err-clause-fault g c =
    let read = reader c.args.side (g.K.Lookup.targets c.args.known.now) in
    subst (λ (f : NameFault). IsNameFault (set_of read c.args.text.now) f)
    (sym (c.at.ensures ∙ ap (λ (n : ℕ). fault_at c.in-Err.fault (n + 1)) c.len-before.ensures.len))
    (fault_of_line read c.args.text.now c.loop-rest.rows c.loop-rest.rest.now c.first_line.result.0.now c.first_line.result.1.now c.loop-rest.invariant c.first_line.ensures.lines
    c.in-Err.fault c.in-Err.ensures.fault)

pub loop-rest-preserved : goal.loop-rest-preserved
loop-rest-preserved g c =
    taken (reader c.args.side (g.K.Lookup.targets c.args.known.now)) c.args.text.now c.loop-rest.rows c.loop-rest.rest.now c.first_line.result.0.now c.first_line.result.1.now
    c.loop-rest.invariant c.first_line.ensures.lines c.take.new.self c.in_default.ensures.ok

pub returns-clause-none : goal.returns-clause-none
returns-clause-none g c =
    let read = reader c.args.side (g.K.Lookup.targets c.args.known.now) in
    none_refused read c.args.text.now c.loop-rest.rows
    (subst (λ (x : Bytes). SoFar read c.args.text.now c.loop-rest.rows x) (nothing c.loop-rest.rest.now (sym c.loop-rest-test.ensures)) c.loop-rest.invariant)

pub returns-clause-rows : goal.returns-clause-rows
returns-clause-rows g c =
    let read = reader c.args.side (g.K.Lookup.targets c.args.known.now) in
    all_rows read c.args.text.now c.loop-rest.rows
    (subst (λ (x : Bytes). SoFar read c.args.text.now c.loop-rest.rows x) (nothing c.loop-rest.rest.now (sym c.loop-rest-test.ensures)) c.loop-rest.invariant)
