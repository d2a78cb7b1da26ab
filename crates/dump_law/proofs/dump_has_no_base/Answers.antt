use Rattle.dump_law.proofs.Bases.{dump-same, read-is-dump, base-is-same}
use Rattle.dump_law.proofs.dump_has_no_base.Goals as goal

pub returns-clause-dumped : goal.returns-clause-dumped
returns-clause-dumped c = dump-same

pub returns-clause-read : goal.returns-clause-read
returns-clause-read c = read-is-dump

pub returns-clause-increment : goal.returns-clause-increment
returns-clause-increment c = base-is-same
