-- The value of a link's item, cut at its colons.
use Rattle.std.specs.Prelude.{◌==◌, List, [], ◌∷◌, Option, Some, None}
use Rattle.std.specs.List.{slice_split}
use Rattle.text_model.specs.Text.{Bytes}

-- what stands between the colons
abbrev pub parts_of : Bytes → List Bytes
parts_of value = slice_split (λ b. b == 58) value

-- the parts, where there are three
abbrev pub three_of : List Bytes → Option (Bytes × Bytes × Bytes)
three_of (a ∷ b ∷ c ∷ []) = Some (a, b, c)
three_of _ = None
