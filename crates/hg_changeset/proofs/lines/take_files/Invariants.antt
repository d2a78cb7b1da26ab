use Rattle.std.proofs.Common.{length}
use Rattle.hg_changeset.proofs.HeadLemmas.{FilesTo}
use Rattle.hg_changeset.proofs.lines.take_files.Given as goal

-- what was added is the lines before the rest
abbrev pub invariant-files : goal.invariant-files
invariant-files l = FilesTo l.text l.initial.files l.files l.rest

abbrev pub decreases-files : goal.decreases-files
decreases-files l = length l.rest
