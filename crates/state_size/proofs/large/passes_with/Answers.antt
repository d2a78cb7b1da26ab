use Rattle.std.proofs.Common.{◌-◌, ◌∙◌, arith}
use Rattle.state_size.proofs.Grown.{few-is, many-is}
use Rattle.state_size.proofs.Prefixes.{blocks-count}
use Rattle.state_size.proofs.Written.{ok-each}
use Rattle.state_size.proofs.large.passes_with.Goals as goal

pub returns-then-count-added : goal.returns-then-count-added
returns-then-count-added c = ok-each c.passes.result _ _ (λ passes is m g.
    let size-is = c.len.ensures ∙ blocks-count c.args.state.now m.blocks (g.stands).blocks.state in
    is m g ∙ few-is c.args.first_new c.args.first_tag m c.len.result size-is c.args.count c.if-count-added.true) c.passes.ensures

pub returns-else-count-added : goal.returns-else-count-added
returns-else-count-added c = ok-each c.passes-else-count-added.result _ _ (λ passes is m g.
    let added = c.len.result - c.args.first_new in
    let size-is = c.len-else-count-added.ensures ∙ blocks-count c.args.state.now m.blocks (g.stands).blocks.state in
    is m g
    ∙ many-is c.args.first_new c.args.first_tag m c.len-else-count-added.result size-is c.args.count added (omega (arith, c.len.ensures, c.len-else-count-added.ensures))
    (omega (arith, c.requires.within, c.len-else-count-added.ensures)) (omega (arith, c.if-count-added.false))) c.passes-else-count-added.ensures
