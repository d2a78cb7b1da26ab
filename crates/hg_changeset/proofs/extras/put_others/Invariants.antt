use Rattle.std.proofs.Common.{◌≡◌, ◌∷◌, ◌++◌, take}
use Rattle.std.specs.List.{flat_map}
use Rattle.text_model.specs.Text.{nul}
use Rattle.hg_model.specs.Changeset.{extra_text}
use Rattle.hg_changeset.proofs.extras.put_others.Given as goal

-- what was appended is the text of those so far
abbrev pub invariant-loop-item : goal.invariant-loop-item
invariant-loop-item l = l.out.items ≡ l.initial.out.items ++ flat_map (λ e. nul ∷ extra_text e) (take l.item-index l.items)
