use Rattle.filled_law.proofs.Plain.{plain-is_unmarked, unmarked-is_plain}
use Rattle.filled_law.proofs.plain_is_unmarked.Goals as goal

pub returns-clause-there : goal.returns-clause-there
returns-clause-there c = plain-is_unmarked

pub returns-clause-only : goal.returns-clause-only
returns-clause-only c = unmarked-is_plain
