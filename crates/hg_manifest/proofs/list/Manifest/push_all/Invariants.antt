use Rattle.std.proofs.Common.{◌≡◌, ◌++◌, map, take}
use Rattle.hg_manifest.specs.Values.{manifest_entry}
use Rattle.hg_manifest.proofs.list.Manifest.push_all.Given as goal

abbrev pub invariant-loop-entry : goal.invariant-loop-entry
invariant-loop-entry l = l.self ≡ l.fn.self ++ map manifest_entry (take l.entry-index l.entries)
