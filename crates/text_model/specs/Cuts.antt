-- Bytes cut in two at the first place where a byte stands, as a line is at its LF and a path at its slash.
use Rattle.std.specs.Prelude.{◌≢◌, ℕ, ◌+◌, suc, ◌==◌, take, drop, Option, option_map, position}
use Rattle.text_model.specs.Lists.{Each}
use Rattle.text_model.specs.Text.{Bytes}

-- the byte stands nowhere in these
abbrev pub Lacks : ℕ → Bytes → Type 0
Lacks b bytes = Each (λ x. x ≢ b) bytes

-- the bytes before the first b and those after it, where there is one
unfoldable pub cut_of : ℕ → Bytes → Option (Bytes × Bytes)
cut_of b bytes = option_map (λ i. (take i bytes, drop (suc i) bytes)) (position (λ x. x == b) bytes)

-- the place of the first b at or after this one, where there is one
abbrev pub place_from : ℕ → Bytes → ℕ → Option ℕ
place_from b bytes from = option_map (λ i. from + i) (position (λ x. x == b) (drop from bytes))
