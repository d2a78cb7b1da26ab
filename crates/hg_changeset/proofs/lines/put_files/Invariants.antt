use Rattle.std.proofs.Common.{◌≡◌, ◌++◌, take}
use Rattle.std.specs.List.{flat_map}
use Rattle.text_model.specs.Text.{line}
use Rattle.hg_changeset.proofs.lines.put_files.Given as goal

-- what was appended is the text of those so far
abbrev pub invariant-loop-file : goal.invariant-loop-file
invariant-loop-file l = l.out.items ≡ l.initial.out.items ++ flat_map line (take l.file-index l.files)
