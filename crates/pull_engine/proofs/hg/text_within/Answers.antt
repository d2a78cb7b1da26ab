use Rattle.std.proofs.Common.{[], drop, length, Some, sym, ap, subst, ◌∙◌}
use Rattle.bridge_text.specs.declared.fault.Fault.TheVariants.{StateLimit}
use Rattle.state_size.specs.Large.{kept_up_to}
use Rattle.pull_engine.specs.declared.limit.TooLarge.{TooLarge}
use Rattle.pull_engine.specs.Limit.{IsTooLarge, IsLargeBundle, refused_at}
use Rattle.pull_engine.proofs.Large.{large-bundle, no-new-tags}
use Rattle.pull_engine.proofs.hg.text_within.Goals as goal

pub returns-in-None-clause-small : goal.returns-in-None-clause-small
returns-in-None-clause-small c m order =
    let p = c.args.pulled.now in
    let asked = no-new-tags p.state m p.first_new c.len.result (order.stands).tags (c.len.ensures ∙ ap length c.tags.ensures) c.in_ok-first_too_large.field-0 (c.in_ok-first_too_large.ensures m order) in
    (subst (IsTooLarge (kept_up_to p.first_new m.blocks m.tags) (drop p.first_new m.blocks) []) c.in-None.is asked).0

pub returns-in-Some-Block-clause-large : goal.returns-in-Some-Block-clause-large
returns-in-Some-Block-clause-large c m order =
    let p = c.args.pulled.now in
    let old = kept_up_to p.first_new m.blocks m.tags in
    let added = drop p.first_new m.blocks in
    let is = c.in-Some-Block.is ∙ ap (λ (l : TooLarge). Some l) c.in-Some-Block.field-0-is in
    let asked = no-new-tags p.state m p.first_new c.len.result (order.stands).tags (c.len.ensures ∙ ap length c.tags.ensures) c.in_ok-first_too_large.field-0 (c.in_ok-first_too_large.ensures m order) in
    let large = subst (IsTooLarge old added []) is asked in
    let refused = c.limit_fault.ensures ∙ ap (refused_at StateLimit c.in-Some-Block.block.node) c.place_of_node.ensures in
    subst (IsLargeBundle old added p.arrivals) (sym refused) (large-bundle old added [] p.arrivals c.in-Some-Block.block large)

pub returns-in-Some-Tag-clause-small : goal.returns-in-Some-Tag-clause-small
returns-in-Some-Tag-clause-small c m order =
    let p = c.args.pulled.now in
    let is = c.in-Some-Tag.is ∙ ap (λ (l : TooLarge). Some l) c.in-Some-Tag.field-0-is in
    let asked = no-new-tags p.state m p.first_new c.len.result (order.stands).tags (c.len.ensures ∙ ap length c.tags.ensures) c.in_ok-first_too_large.field-0 (c.in_ok-first_too_large.ensures m order) in
    (subst (IsTooLarge (kept_up_to p.first_new m.blocks m.tags) (drop p.first_new m.blocks) []) is asked).0
