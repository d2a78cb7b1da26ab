use Rattle.tag_law.proofs.TagsRead.{read-left}
use Rattle.tag_law.proofs.tags_are_read.Goals as goal

pub returns : goal.returns
returns c = read-left
