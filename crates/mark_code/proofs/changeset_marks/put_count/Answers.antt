use Rattle.mark_code.proofs.changeset_marks.put_count.Goals as goal

pub returns-in_ok-decimal-in-Some : goal.returns-in_ok-decimal-in-Some
returns-in_ok-decimal-in-Some c = rw (c.in-Some.is, ← c.in_ok-decimal-in-Some.ensures) c.put_item.ensures
