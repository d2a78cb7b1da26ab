use Rattle.std.proofs.Common.{length}
use Rattle.std.specs.Option.{option_copied}
use Rattle.hg_manifest.proofs.ReadLemmas.{IsReadTo}
use Rattle.hg_manifest.proofs.BesideLemmas.{IsToldTo}
use Rattle.hg_manifest.proofs.list.Manifest.read_near.Given as goal

-- the entries so far are the lines before the rest, the rest decides the fault of the text, and the entries that the other manifest may lack are told
abbrev pub invariant-loop-near : goal.invariant-loop-near
invariant-loop-near l = record {
  read : IsReadTo l.text (option_copied l.last) l.manifest l.rest;
  told : IsToldTo l.fn.near l.near l.newer l.told l.manifest;
}

abbrev pub decreases-loop-near : goal.decreases-loop-near
decreases-loop-near l = length l.rest
