use Rattle.git_batch.proofs.StreamLaws.{brings_all, brings_only, counts}
use Rattle.git_batch.proofs.laws.stream_reading_laws.Goals as goal

pub returns-clause-all : goal.returns-clause-all
returns-clause-all c = brings_all

pub returns-clause-only : goal.returns-clause-only
returns-clause-only c = brings_only

pub returns-clause-counts : goal.returns-clause-counts
returns-clause-counts c = counts
