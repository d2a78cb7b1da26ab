-- Where the path of a row can lie below that of an earlier row.
use Rattle.std.specs.Prelude.{ℕ, ◌+◌, Bool, false, ◌==◌, if◌then◌else◌, [], ◌∷◌}
use Rattle.text_model.specs.Text.{Bytes}

-- how many of their first bytes two byte strings share
abbrev pub shared : Bytes → Bytes → ℕ
shared [] ys = 0
shared (x ∷ xs) [] = 0
shared (x ∷ xs) (y ∷ ys) = if x == y then 1 + shared xs ys else 0

-- a slash comes first
abbrev pub begins_with_slash : Bytes → Bool
begins_with_slash [] = false
begins_with_slash (b ∷ bytes) = b == 47
