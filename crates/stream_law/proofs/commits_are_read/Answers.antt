use Rattle.stream_law.proofs.ReadGit.{commits-read}
use Rattle.stream_law.proofs.commits_are_read.Goals as goal

pub returns : goal.returns
returns c = commits-read
