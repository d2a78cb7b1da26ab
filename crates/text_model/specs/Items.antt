-- Texts that are items one after the other, each of which may ask something of those before it, as rising lines do.
use Rattle.std.specs.Prelude.{◌≡◌, List, [], ◌∷◌, ◌++◌, Option, Some, None, ⊤}
use Rattle.std.specs.List.{flat_map}
use Rattle.text_model.specs.Lists.{Each}
use Rattle.text_model.specs.Text.{Bytes, IsBytes}

-- `text` spells an item, `Is` says which values are items, `step` is the state after an item, and `Fits` says which item may come in a state
module _ {I S : Type 0} (text : I → Bytes) (Is : I → Type 0) (step : S → I → S) (Fits : S → I → Type 0) where
  -- each item may come where it comes
  abbrev pub Follow : S → List I → Type 0
  Follow s [] = ⊤
  Follow s (x ∷ xs) = Fits s x × Follow (step s x) xs

  -- the state after the items
  abbrev pub state_after : S → List I → S
  state_after s [] = s
  state_after s (x ∷ xs) = state_after (step s x) xs

  -- the bytes begin with these items, and go on with the rest
  pub record Begins (start : S) (bytes : Bytes) (xs : List I) (rest : Bytes) : Type 0 where
    pub whole : bytes ≡ flat_map text xs ++ rest
    pub each : Each Is xs
    pub follow : Follow start xs

  -- no item begins the bytes
  abbrev pub NoItem : Bytes → Type 0
  NoItem bytes = (x : I) (more : Bytes) → Is x → bytes ≡ text x ++ more → ⊥

  -- what a reader of one item has to do: it reads exactly the items
  pub record ReadsItems (at : Bytes → Option (I × Bytes)) : Type 0 where
    pub takes : (bytes : Bytes) (x : I) (rest : Bytes) → IsBytes bytes → at bytes ≡ Some (x, rest) → (bytes ≡ text x ++ rest) × Is x
    pub again : (x : I) (rest : Bytes) → Is x → at (text x ++ rest) ≡ Some (x, rest)
    pub ends : at [] ≡ None
