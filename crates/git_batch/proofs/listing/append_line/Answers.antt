use Rattle.bridge_text.specs.Kinds.{object_kind}
use Rattle.git_batch.proofs.ListingLemmas.{grows, line_pieces}
use Rattle.git_batch.proofs.listing.append_line.Goals as goal

pub returns-clause-line : goal.returns-clause-line
returns-clause-line c =
    let p0 = rw c.hex.ensures.hex at c.in_ok-extend_from_slice.ensures.items in
    let p1 = grows _ _ _ _ _ p0 c.in_ok-push.ensures.items in
    let p2 = grows _ _ _ _ _ p1 (rw c.word.ensures at c.in_ok-extend_from_slice-2.ensures.items) in
    let p3 = grows _ _ _ _ _ p2 c.in_ok-push-2.ensures.items in
    let p4 = grows _ _ _ _ _ p3 c.in_ok-decimal_into.ensures.ok in
    let p5 = grows _ _ _ _ _ p4 c.in_ok-push-3.ensures.items in
    rw (← line_pieces c.args.id.now (object_kind c.args.kind) c.args.size) p5
