use Rattle.hg_bundle.proofs.Wholes.{behind}
use Rattle.hg_bundle.proofs.entry.Entry.of.Goals as goal

pub returns-clause-value : goal.returns-clause-value
returns-clause-value c =
    rw (← c.bytes-bytes.ensures)
    (λ i. record { node = c.id_at.ensures i; p = c.id_at-2.ensures i; q = c.id_at-3.ensures i; link = c.id_at-4.ensures i; delta = behind 80 c.bytes-bytes.result.now i })

pub returns-clause-ends : goal.returns-clause-ends
returns-clause-ends c = rw (← c.bytes-bytes.ensures) (behind 80 c.bytes-bytes.result.now)
