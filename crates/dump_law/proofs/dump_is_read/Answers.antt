use Rattle.dump_law.proofs.Dumped.{dump-brings}
use Rattle.dump_law.proofs.Order.{dump-held}
use Rattle.dump_law.proofs.Earlier.{dump-earlier}
use Rattle.dump_law.proofs.DumpOne.{dump-nodes}
use Rattle.dump_law.proofs.Commits.{git-ids}
use Rattle.dump_law.proofs.StreamRead.{git-brings}
use Rattle.dump_law.proofs.CommitsHeld.{git-held, git-walks}
use Rattle.dump_law.proofs.dump_is_read.Goals as goal

pub returns-clause-hg : goal.returns-clause-hg
returns-clause-hg c = dump-brings

pub returns-clause-held : goal.returns-clause-held
returns-clause-held c = dump-held

pub returns-clause-earlier : goal.returns-clause-earlier
returns-clause-earlier c = dump-earlier

pub returns-clause-git : goal.returns-clause-git
returns-clause-git c = git-brings

pub returns-clause-commits : goal.returns-clause-commits
returns-clause-commits c = git-held

pub returns-clause-walks : goal.returns-clause-walks
returns-clause-walks c = git-walks

pub returns-clause-nodes : goal.returns-clause-nodes
returns-clause-nodes c = dump-nodes

pub returns-clause-ids : goal.returns-clause-ids
returns-clause-ids c = git-ids
