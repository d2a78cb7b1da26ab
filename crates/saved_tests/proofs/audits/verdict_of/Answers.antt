use Rattle.saved_tests.proofs.audits.verdict_of.Goals as goal

pub verify-requires : goal.verify-requires
verify-requires g c =
    let m = c.in_ok-state.ensures.ok in
    record { saved = (m.0, m.1.0, m.2) }
