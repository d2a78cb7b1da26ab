use Rattle.tag_law.proofs.DistinctTags.{distinct-left}
use Rattle.tag_law.proofs.tags_are_distinct.Goals as goal

pub returns : goal.returns
returns c = distinct-left
