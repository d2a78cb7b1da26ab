use Rattle.std.proofs.Common.{◌≡◌, length}
use Rattle.pair_state.proofs.KeptLemmas.{AreBlobsTo}
use Rattle.pair_state.proofs.bodies.have_blobs.Given as goal

-- the files so far have their bodies, and the second parent's files are as they were
abbrev pub invariant-loop-line : goal.invariant-loop-line
invariant-loop-line l = record {
  same : l.second ≡ l.fn.second;
  to : AreBlobsTo l.known.hg l.known.git l.fn.lines l.fn.near l.walk;
}

abbrev pub decreases-loop-line : goal.decreases-loop-line
decreases-loop-line l = length (l.walk).lines
