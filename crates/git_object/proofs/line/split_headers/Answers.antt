use Rattle.std.proofs.Common.{arith}
use Rattle.text_model.proofs.ByteLemmas.{IsBytes-by_index}
use Rattle.git_object.proofs.HeaderLemmas.{Headed-none, Headed-more, Headed-split, Headed-cut, Headed-shorter}
use Rattle.git_object.proofs.line.split_headers.Goals as goal

pub lines-init : goal.lines-init
lines-init c = record {
  headed = Headed-none c.args.text.now (IsBytes-by_index c.args.text.now (λ i. omega (arith, c.type_inv.text i)));
  within = omega arith;
}

pub returns-then-is_empty : goal.returns-then-is_empty
returns-then-is_empty c =
    Headed-split c.args.text.now c.lines.rest.now c.in-Some.line.now c.in-Some.after.now c.split_at.result.0.now c.lines.invariant.headed c.in-Some.ensures c.if-is_empty.ensures c.split_at.ensures.front

pub lines-smaller : goal.lines-smaller
lines-smaller c = omega (arith, Headed-shorter c.lines.rest.now c.in-Some.line.now c.in-Some.after.now c.in-Some.ensures)

pub lines-preserved : goal.lines-preserved
lines-preserved c =
    record {
      headed = Headed-more c.args.text.now c.lines.rest.now c.in-Some.line.now c.in-Some.after.now c.lines.invariant.headed c.in-Some.ensures c.if-is_empty.ensures;
      within = omega (arith, Headed-shorter c.lines.rest.now c.in-Some.line.now c.in-Some.after.now c.in-Some.ensures, c.lines.invariant.within);
    }

pub returns : goal.returns
returns c = Headed-cut c.args.text.now c.lines.rest.now c.lines.invariant.headed c.in_default.ensures
