use Rattle.std.proofs.Common.{not, sym, ap, ◌∙◌}
use Rattle.state_audit.proofs.Rows.{in-time_before}
use Rattle.state_audit.proofs.late.is_row_late.Goals as goal

pub returns-else-not-is_seen-clause-late : goal.returns-else-not-is_seen-clause-late
returns-else-not-is_seen-clause-late c = λ front file refers lines times is held.
    let known = c.args.hg.now in
    let seen = sym (c.is_seen.ensures.seen known front refers lines) ∙ c.if-not-is_seen.false in
    ap not c.if-not-is_seen.false ∙ sym (in-time_before known c.args.referred.now front refers file held c.args.row.now is seen times)
