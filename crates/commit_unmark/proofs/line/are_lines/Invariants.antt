use Rattle.std.proofs.Common.{take}
use Rattle.text_model.specs.Lists.{Each}
use Rattle.commit_unmark.specs.Parts.{IsOneLine}
use Rattle.commit_unmark.proofs.line.are_lines.Given as goal

-- the paths so far are lines
abbrev pub invariant-loop-path : goal.invariant-loop-path
invariant-loop-path l = Each IsOneLine (take l.path-index l.path-items)
