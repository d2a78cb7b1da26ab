use Rattle.std.proofs.Common.{take, drop, Some, sym, ap, subst, ◌∙◌}
use Rattle.state_size.specs.declared.large.Large.{Large}
use Rattle.state_size.specs.Large.{IsLarge, kept_up_to}
use Rattle.pull_engine.specs.Limit.{IsTooLarge}
use Rattle.pull_engine.proofs.Large.{block-large, tag-large}
use Rattle.pull_engine.proofs.limit.first_too_large.Goals as goal

pub returns-in-Some-Block : goal.returns-in-Some-Block
returns-in-Some-Block c m order =
    let s = c.args.state.now in
    let n = c.args.first_new in
    let old = kept_up_to n m.blocks (take c.args.first_tag m.tags) in
    let added = drop n m.blocks in
    let new = drop c.args.first_tag m.tags in
    let is = c.in-Some-Block.is ∙ ap (λ (l : Large). Some l) c.in-Some-Block.field-0-is in
    let large = subst (IsLarge old added new) is (c.in_ok-first_large.ensures m order.stands order.parents) in
    subst (IsTooLarge old added new) (sym c.block_at.ensures) (block-large s m n c.args.first_tag (order.stands).blocks.state c.in-Some-Block.place large)

pub returns-in-Some-Tag : goal.returns-in-Some-Tag
returns-in-Some-Tag c m order =
    let s = c.args.state.now in
    let n = c.args.first_new in
    let old = kept_up_to n m.blocks (take c.args.first_tag m.tags) in
    let added = drop n m.blocks in
    let new = drop c.args.first_tag m.tags in
    let is = c.in-Some-Tag.is ∙ ap (λ (l : Large). Some l) c.in-Some-Tag.field-0-is in
    let large = subst (IsLarge old added new) is (c.in_ok-first_large.ensures m order.stands order.parents) in
    subst (IsTooLarge old added new) (sym c.tag_at.ensures) (tag-large s m n c.args.first_tag (order.stands).tags c.in-Some-Tag.place large)
