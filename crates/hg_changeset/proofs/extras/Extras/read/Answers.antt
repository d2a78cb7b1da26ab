use Rattle.std.proofs.Common.{Some, None, sym}
use Rattle.hg_changeset.proofs.ItemsLemmas.{items-shorter, items-more, items-bad, items-last, taken-some, taken-none}
use Rattle.hg_changeset.proofs.extras.Extras.read.Goals as goal

pub returns-then-not-branch : goal.returns-then-not-branch
returns-then-not-branch c =
    let none = taken-none c.items.extras c.in-Some.item.now c.in_ok-take.field-0 c.take.new.self c.in_ok-take.ensures c.if-not-branch.true in
    sym (items-bad c.args.text.now c.items.rest.now c.in-Some.item.now c.in-Some.after.now c.in-Some.ensures c.items.extras c.items.invariant none)

pub items-smaller : goal.items-smaller
items-smaller c = items-shorter c.args.text.now c.items.rest.now c.in-Some.item.now c.in-Some.after.now c.in-Some.ensures

pub items-preserved : goal.items-preserved
items-preserved c =
    let some = taken-some c.items.extras c.in-Some.item.now c.in_ok-take.field-0 c.take.new.self c.in_ok-take.ensures c.if-not-branch.false in
    items-more c.args.text.now c.items.rest.now c.in-Some.item.now c.in-Some.after.now c.in-Some.ensures c.items.extras c.take.new.self c.items.invariant some

pub returns-then-branch : goal.returns-then-branch
returns-then-branch c =
    let some = taken-some c.items.extras c.items.rest.now c.in_ok-take-2.field-0 c.take-2.new.self c.in_ok-take-2.ensures c.if-branch.true in
    sym (items-last c.args.text.now c.items.rest.now c.items.extras (Some c.take-2.new.self) c.items.invariant c.in_default.ensures some)

pub returns-else-branch : goal.returns-else-branch
returns-else-branch c =
    let none = taken-none c.items.extras c.items.rest.now c.in_ok-take-2.field-0 c.take-2.new.self c.in_ok-take-2.ensures c.if-branch.false in
    sym (items-last c.args.text.now c.items.rest.now c.items.extras None c.items.invariant c.in_default.ensures none)
