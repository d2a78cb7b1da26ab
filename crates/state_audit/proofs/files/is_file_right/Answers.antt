use Rattle.std.proofs.Common.{refl, sym, ◌∙◌}
use Rattle.pair_state.proofs.BodyLemmas.{value-is}
use Rattle.state_audit.proofs.Rows.{in-time_before, body_before}
use Rattle.state_audit.proofs.files.is_file_right.Goals as goal

pub returns-then-is_seen-clause-right : goal.returns-then-is_seen-clause-right
returns-then-is_seen-clause-right c = λ front file refers lines compared asked.
    let known = c.args.known.now in
    let seen = sym (c.is_seen.ensures.seen known.hg front refers lines) ∙ c.if-is_seen.true in
    let value = value-is known.hg known.git c.args.row.now file asked in (
      (λ t. (
        in-time_before known.hg c.args.referred.now front refers file asked.held.0 c.args.row.now value seen compared.in_time,
        body_before known.hg c.args.referred.now front refers file asked.held.0 c.args.row.now value seen known.git compared.blobs,
      )),
      (λ h. refl),
    )
