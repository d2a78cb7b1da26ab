use Rattle.state_audit.proofs.seen.seen_before.Goals as goal

pub returns : goal.returns
returns c = λ front walked. record { refers = walked.referred; lines = c.lines_near.ensures front walked }
