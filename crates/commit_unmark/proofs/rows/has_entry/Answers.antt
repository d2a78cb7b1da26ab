use Rattle.std.proofs.Common.{◌∙◌}
use Rattle.commit_unmark.proofs.MarkPlaces.{entry-at}
use Rattle.commit_unmark.proofs.rows.has_entry.Goals as goal

pub returns-then-place-len-clause-entry : goal.returns-then-place-len-clause-entry
returns-then-place-len-clause-entry c = c.is_some.ensures ∙ entry-at c.args.marks.now c.args.place _ c.at.ensures c.entry_path.result _ c.entry_path.ensures
