use Rattle.std.proofs.Common.{length}
use Rattle.mark_code.proofs.PathsLemmas.{PathsTo}
use Rattle.mark_code.proofs.reading.read_paths.Given as goal

-- the paths of the words are those that are read and those of the rest
abbrev pub invariant-words : goal.invariant-words
invariant-words l = PathsTo l.words l.paths l.rest

abbrev pub decreases-words : goal.decreases-words
decreases-words l = length l.rest
