-- The streams of std, as contracts see them.
use Rattle.std.specs.Prelude.{ℕ, List, Option}

-- the bytes that a reader has left, where it tells them, and how often it has failed
pub record ReaderState : Type 0 where
  pub left : Option (List ℕ)
  pub faults : ℕ

-- the bytes that a writer has taken, where it tells them, and how often it has failed
pub record WriterState : Type 0 where
  pub taken : Option (List ℕ)
  pub faults : ℕ
