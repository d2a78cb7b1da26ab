use Rattle.std.proofs.Common.{◌≡◌, ◌++◌, List, ℕ, length, map, drop}
use Rattle.hg_model.specs.Manifest.{manifest_text}
use Rattle.hg_manifest.specs.Values.{manifest_entry}
use Rattle.hg_manifest.specs.Near.{StartsWithLines}
use Rattle.hg_manifest.proofs.lines.len_behind.Given as goal

abbrev pub invariant-loop-entry : goal.invariant-loop-entry
invariant-loop-entry l =
    (rest : List ℕ) → StartsWithLines l.text (map manifest_entry l.entries) rest → l.behind ≡ length (manifest_text (map manifest_entry (drop l.entry-index l.entries)) ++ rest)
