-- How a slot in memory keeps what it holds.
use Rattle.std.specs.Prelude.{ℕ, List, drop, Option, None, Some}

-- the bytes from the last replacement on, or what was held before the first
abbrev pub held_of : Option ℕ → List ℕ → Option (List ℕ) → Option (List ℕ)
held_of None room first = first
held_of (Some start) room first = Some (drop start room)
