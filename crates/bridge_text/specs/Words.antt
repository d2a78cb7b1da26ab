-- Bytes of an id that are compared together.
use Rattle.std.specs.Prelude.{ℕ, ◌+◌, [], ◌∷◌, slice_index}
use Rattle.text_model.specs.Text.{Bytes}

-- the eight bytes from a place on
abbrev pub word_of : Bytes → ℕ → Bytes
word_of bytes i =
    slice_index bytes i ∷ slice_index bytes (i + 1) ∷ slice_index bytes (i + 2) ∷ slice_index bytes (i + 3)
    ∷ slice_index bytes (i + 4) ∷ slice_index bytes (i + 5) ∷ slice_index bytes (i + 6) ∷ slice_index bytes (i + 7) ∷ []
