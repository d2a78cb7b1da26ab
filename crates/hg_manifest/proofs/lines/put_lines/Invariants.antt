use Rattle.std.proofs.Common.{◌≡◌, ◌++◌, take, map}
use Rattle.hg_model.specs.Manifest.{manifest_text}
use Rattle.hg_manifest.specs.Values.{manifest_entry}
use Rattle.hg_manifest.proofs.lines.put_lines.Given as goal

abbrev pub invariant-loop-entry : goal.invariant-loop-entry
invariant-loop-entry l = l.out.items ≡ l.initial.out.items ++ manifest_text (map manifest_entry (take l.entry-index l.entries))
