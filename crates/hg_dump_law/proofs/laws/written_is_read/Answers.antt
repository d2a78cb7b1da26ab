use Rattle.hg_dump_law.proofs.Increment.{is-read, is-known, is-held}
use Rattle.hg_dump_law.proofs.laws.written_is_read.Goals as goal

pub returns-clause-read : goal.returns-clause-read
returns-clause-read c = is-read

pub returns-clause-known : goal.returns-clause-known
returns-clause-known c = is-known

pub returns-clause-held : goal.returns-clause-held
returns-clause-held c = is-held
