use Rattle.next_law.proofs.ReadHg.{views-read}
use Rattle.next_law.proofs.views_are_read.Goals as goal

pub returns : goal.returns
returns c = views-read
