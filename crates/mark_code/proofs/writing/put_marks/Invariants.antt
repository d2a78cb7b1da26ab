use Rattle.std.proofs.Common.{◌≡◌, ◌++◌, take, map}
use Rattle.std.specs.List.{flat_map}
use Rattle.text_model.specs.Text.{line, spaced}
use Rattle.pair_model.specs.MarkList.{mark_words}
use Rattle.mark_code.specs.Values.{mark_value}
use Rattle.mark_code.proofs.writing.put_marks.Given as goal

-- what was appended is the lines of those so far
abbrev pub invariant-loop-mark : goal.invariant-loop-mark
invariant-loop-mark l = l.out.items ≡ l.initial.out.items ++ flat_map (λ m. line (spaced (mark_words m))) (map mark_value (take l.mark-index l.marks))
