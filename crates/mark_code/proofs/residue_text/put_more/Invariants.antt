use Rattle.std.proofs.Common.{◌≡◌, ◌∷◌, ◌++◌, take}
use Rattle.std.specs.List.{flat_map}
use Rattle.text_model.specs.Lists.{Each}
use Rattle.text_model.specs.Text.{sp}
use Rattle.pair_model.specs.MarkList.{residue_words}
use Rattle.mark_code.specs.ResidueText.{IsItem}
use Rattle.mark_code.proofs.residue_text.put_more.Given as goal

-- what was appended is the words of those so far, which are items
abbrev pub invariant-loop-item : goal.invariant-loop-item
invariant-loop-item l = record {
  put : l.out.items ≡ l.initial.out.items ++ flat_map (λ w. sp ∷ w) (residue_words (take l.item-index l.items));
  items : Each IsItem (take l.item-index l.items);
}
