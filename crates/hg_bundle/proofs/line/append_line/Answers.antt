use Rattle.std.proofs.Common.{length-drop}
use Rattle.hg_bundle.specs.Place.{group_value}
use Rattle.hg_model.specs.Bundle.{entry_of}
use Rattle.hg_bundle.proofs.LineLemmas.{grows, line_pieces}
use Rattle.hg_bundle.proofs.line.append_line.Goals as goal

pub returns-clause-line : goal.returns-clause-line
returns-clause-line c =
    let payload = c.args.payload.now in
    let p0 = c.in_ok-append_group.ensures.text in
    let p1 = grows _ _ _ _ _ p0 c.in_ok-append_id.ensures.text in
    let p2 = grows _ _ _ _ _ p1 c.in_ok-append_id-2.ensures.text in
    let p3 = grows _ _ _ _ _ p2 c.in_ok-append_id-3.ensures.text in
    let p4 = grows _ _ _ _ _ p3 c.in_ok-append_id-4.ensures.text in
    let p5 = grows _ _ _ _ _ p4 c.in_ok-push.ensures.items in
    let p6 = grows _ _ _ _ _ p5 c.in_ok-decimal_into.ensures.ok in
    let p7 = grows _ _ _ _ _ p6 c.in_ok-push-2.ensures.items in
    rw (← line_pieces (group_value c.args.group.now) (entry_of payload), length-drop 80 payload) p7
