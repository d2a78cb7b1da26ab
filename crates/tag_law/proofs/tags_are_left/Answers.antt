use Rattle.tag_law.proofs.TagsOnly.{tags-only_left}
use Rattle.tag_law.proofs.tags_are_left.Goals as goal

pub returns : goal.returns
returns c = tags-only_left
