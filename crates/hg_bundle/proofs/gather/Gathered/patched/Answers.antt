use Rattle.std.proofs.Common.{sym}
use Rattle.hg_bundle.specs.Place.{group_value}
use Rattle.hg_bundle.specs.Entry.{entry_value}
use Rattle.hg_bundle.proofs.EntryLemmas.{has_text, sum_fault, limit_fault, shape_refused, range_refused, parent_refused}
use Rattle.hg_bundle.proofs.gather.Gathered.patched.Goals as goal

pub returns-in_default-clause-patched : goal.returns-in_default-clause-patched
returns-in_default-clause-patched c = rw c.refused-fault.ensures (parent_refused _ _ _ _ _ _ c.requires.last (sym c.in_default.ensures))

pub returns-in-Err-Shape-clause-patched : goal.returns-in-Err-Shape-clause-patched
returns-in-Err-Shape-clause-patched c =
    let refused = shape_refused c.args.self.now.store c.args.self.now.sum (group_value c.args.group.now) c.args.self.now.last c.args.at (entry_value c.args.entry.now)
    c.in-Some.base.now (sym c.in-Some.ensures) c.in-Err-Shape.place (rw c.in-Err-Shape.field-0-is at c.in-Err-Shape.ensures.fault) in
    rw (c.refused-fault-in-Err-Shape.ensures, c.hunk_place.ensures, c.in-Err-Shape.place-is) refused

pub returns-in-Err-Range-clause-patched : goal.returns-in-Err-Range-clause-patched
returns-in-Err-Range-clause-patched c =
    let refused = range_refused c.args.self.now.store c.args.self.now.sum (group_value c.args.group.now) c.args.self.now.last c.args.at (entry_value c.args.entry.now)
    c.in-Some.base.now (sym c.in-Some.ensures) c.in-Err-Range.place (rw c.in-Err-Range.field-0-is at c.in-Err-Range.ensures.fault) in
    rw (c.refused-fault-in-Err-Range.ensures, c.hunk_place-in-Err-Range.ensures, c.in-Err-Range.place-is) refused

pub returns-in-Err-Limit-clause-fault : goal.returns-in-Err-Limit-clause-fault
returns-in-Err-Limit-clause-fault c =
    let over = rw c.in-Err-Limit.field-0-is at c.in-Err-Limit.ensures.fault in
    rw c.refused.ensures (sum_fault c.args.self.now.store c.args.self.now.sum (group_value c.args.group.now) c.args.self.now.last c.args.at (entry_value c.args.entry.now)
    c.in-Some.base.now (sym c.in-Some.ensures) over.0 over.1 over.2 c.requires.sum)

pub returns-then-len-text_limit-clause-fault : goal.returns-then-len-text_limit-clause-fault
returns-then-len-text_limit-clause-fault c =
    rw c.refused-then-len-text_limit.ensures (limit_fault c.args.self.now.store c.args.self.now.sum (group_value c.args.group.now) c.args.self.now.last c.args.at (entry_value c.args.entry.now)
    c.in-Some.base.now (sym c.in-Some.ensures) c.in-Ok.len c.in-Ok.ensures.size c.in-Ok.ensures.most c.requires.sum (rw c.text_limit.ensures at c.if-len-text_limit.true))

pub returns-clause-patched : goal.returns-clause-patched
returns-clause-patched c =
    has_text c.args.self.now.store c.args.self.now.sum (group_value c.args.group.now) c.args.self.now.last c.args.at (entry_value c.args.entry.now)
    c.in-Some.base.now (sym c.in-Some.ensures) c.in_ok-text_over.field-0 c.in-Ok.len c.in_ok-text_over.ensures c.in-Ok.ensures.size c.in-Ok.ensures.most c.requires.sum
    (rw c.text_limit.ensures at c.if-len-text_limit.false)
