-- The objects in memory, as contracts see them.
use Rattle.std.specs.Prelude.{◌==◌, if◌then◌else◌, ℕ, List, Option, min}
use Rattle.bridge_io.specs.Calls.{CallCount}

-- a source: the bytes still to come, the most of one call (0: no bound), and its calls
pub record SourceState : Type 0 where
  pub left : List ℕ
  pub cut : ℕ
  pub calls : CallCount

-- a sink: the bytes so far, the most of all calls, the most of one call (0: no bound), and its calls
pub record SinkState : Type 0 where
  pub taken : List ℕ
  pub flushed : List ℕ
  pub most : ℕ
  pub cut : ℕ
  pub calls : CallCount

-- a slot: what it holds, how many bytes its replacements had in all and may have, and its calls
pub record SlotState : Type 0 where
  pub held : Option (List ℕ)
  pub used : ℕ
  pub most : ℕ
  pub calls : CallCount

-- as much of `len` bytes as one call gives or takes
abbrev pub cut_len : ℕ → ℕ → ℕ
cut_len cut len = if cut == 0 then len else min len cut
