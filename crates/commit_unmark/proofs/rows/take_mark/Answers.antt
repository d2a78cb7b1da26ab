use Rattle.std.proofs.Common.{◌≡◌, true, false, sym, ◌∙◌}
use Rattle.commit_unmark.proofs.MarkPlaces.{at-mark, behind-mark}
use Rattle.commit_unmark.proofs.rows.take_mark.Goals as goal

pub returns-then-not-is_at-clause-mark : goal.returns-then-not-is_at-clause-mark
returns-then-not-is_at-clause-mark c =
    let off : c.is_at.result ≡ false = cc c.if-not-is_at.true in
    sym (at-mark c.args.marks.now c.args.place.now _ c.at-mark.ensures c.args.path.now false (sym off ∙ c.is_at.ensures))

pub returns-then-not-is_at-clause-rest : goal.returns-then-not-is_at-clause-rest
returns-then-not-is_at-clause-rest c =
    let off : c.is_at.result ≡ false = cc c.if-not-is_at.true in
    sym (behind-mark c.args.marks.now c.args.place.now _ c.at-mark.ensures c.args.path.now false (sym off ∙ c.is_at.ensures))

pub returns-clause-mark : goal.returns-clause-mark
returns-clause-mark c =
    let on : c.is_at.result ≡ true = cc c.if-not-is_at.false in
    sym (at-mark c.args.marks.now c.args.place.now _ c.at-mark.ensures c.args.path.now true (sym on ∙ c.is_at.ensures))

pub returns-clause-rest : goal.returns-clause-rest
returns-clause-rest c =
    let on : c.is_at.result ≡ true = cc c.if-not-is_at.false in
    sym (behind-mark c.args.marks.now c.args.place.now _ c.at-mark.ensures c.args.path.now true (sym on ∙ c.is_at.ensures))
