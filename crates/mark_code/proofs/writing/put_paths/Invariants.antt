use Rattle.std.proofs.Common.{◌≡◌, ◌∷◌, ◌++◌, take, map}
use Rattle.std.specs.List.{flat_map}
use Rattle.text_model.specs.Text.{sp}
use Rattle.text_model.specs.Escape.{escape}
use Rattle.mark_code.proofs.writing.put_paths.Given as goal

-- what was appended is the words of those so far
abbrev pub invariant-loop-path : goal.invariant-loop-path
invariant-loop-path l = l.out.items ≡ l.initial.out.items ++ flat_map (λ w. sp ∷ w) (map escape (take l.path-index l.paths))
