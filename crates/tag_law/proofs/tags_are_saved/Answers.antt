use Rattle.tag_law.proofs.SavedTags.{tags-left}
use Rattle.tag_law.proofs.tags_are_saved.Goals as goal

pub returns : goal.returns
returns c = tags-left
