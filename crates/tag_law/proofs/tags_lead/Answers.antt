use Rattle.tag_law.proofs.Lead.{lead-left}
use Rattle.tag_law.proofs.tags_lead.Goals as goal

pub returns : goal.returns
returns c = lead-left
