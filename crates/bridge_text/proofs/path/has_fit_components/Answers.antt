use Rattle.std.proofs.Common.{sym, ◌∙◌, arith}
use Rattle.text_model.proofs.PathLemmas.{turn, last, unfit, fit_on, at_end, not_at_end}
use Rattle.bridge_text.proofs.path.has_fit_components.Goals as goal

pub returns-then-not-is_fit_component : goal.returns-then-not-is_fit_component
returns-then-not-is_fit_component c =
    let t = turn c.loop-name.rest.now c.in-Some.name.now c.in-Some.after.now c.in-Some.ensures in
    unfit c.args.path.now c.loop-name.rest.now c.in-Some.name.now c.in-Some.after.now c.loop-name.count c.loop-name.invariant.left t (sym c.if-not-is_fit_component.ensures)

pub loop-name-smaller : goal.loop-name-smaller
loop-name-smaller c = (turn c.loop-name.rest.now c.in-Some.name.now c.in-Some.after.now c.in-Some.ensures).len

pub loop-name-preserved : goal.loop-name-preserved
loop-name-preserved c =
    let t = turn c.loop-name.rest.now c.in-Some.name.now c.in-Some.after.now c.in-Some.ensures in
    record {
      left = fit_on c.args.path.now c.loop-name.rest.now c.in-Some.name.now c.in-Some.after.now c.loop-name.count c.loop-name.invariant.left t (sym c.if-not-is_fit_component.ensures);
      within = omega (arith, t.len, c.loop-name.invariant.within);
    }

pub returns-then-is_fit_component : goal.returns-then-is_fit_component
returns-then-is_fit_component c = at_end c.args.path.now c.loop-name.rest.now c.loop-name.count c.loop-name.invariant.left (last c.loop-name.rest.now c.in_default.ensures) (sym c.if-is_fit_component.ensures)

pub returns-else-is_fit_component : goal.returns-else-is_fit_component
returns-else-is_fit_component c = c.if-is_fit_component.false ∙ not_at_end c.args.path.now c.loop-name.rest.now c.loop-name.count c.loop-name.invariant.left (last c.loop-name.rest.now c.in_default.ensures) (sym c.if-is_fit_component.ensures)
