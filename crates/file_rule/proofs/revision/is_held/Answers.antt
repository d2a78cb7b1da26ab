use Rattle.std.proofs.Common.{sym}
use Rattle.std.proofs.lemmas.Slice.Eq.{bytes_eq-Decides}
use Rattle.file_rule.proofs.RowLemmas.{known-as, not_parents, other_text}
use Rattle.file_rule.proofs.revision.is_held.Goals as goal

pub returns-then-eq-clause-held : goal.returns-then-eq-clause-held
returns-then-eq-clause-held c = λ h.
    known-as c.args.store.now c.args.path.now c.args.node.now c.args.parents c.args.text.now c.in-Some.found.now (c.has_parents.ensures.held h) c.in-Some.ensures.value ((bytes_eq-Decides c.in-Some.found.now c.args.text.now).0 (sym c.if-eq.ensures))

pub returns-then-eq-clause-free : goal.returns-then-eq-clause-free
returns-then-eq-clause-free c = λ h meta body spells order.
    not_parents c.args.store.now c.args.path.now c.args.node.now c.args.parents c.args.text.now meta body spells order (c.has_parents.ensures.other h)

pub returns-else-eq-clause-free : goal.returns-else-eq-clause-free
returns-else-eq-clause-free c = λ h meta body spells order.
    other_text c.args.store.now c.args.path.now c.args.node.now c.args.parents c.args.text.now c.in-Some.found.now meta body spells order c.in-Some.ensures.value (sym c.if-eq.ensures)
