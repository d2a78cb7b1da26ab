use Rattle.unmark_law.proofs.Refuted.{without_table}
use Rattle.unmark_law.proofs.unmarking_needs_a_table.Goals as goal

pub returns : goal.returns
returns c = without_table
