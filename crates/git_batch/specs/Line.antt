-- A line that was read up to where it is cut off.
use Rattle.std.specs.Prelude.{◌≡◌, ℕ, ◌+◌, ◌<◌, ◌≤◌, [], ◌∷◌, ◌++◌, length, Option, Some, None}
use Rattle.std.specs.Io.KnownBytes.{Consumes, IsAtEnd}
use Rattle.text_model.specs.Text.{Bytes, lf, line}
use Rattle.text_model.specs.Cuts.{Lacks}
use Rattle.text_model.specs.Fault.{reach}
use Rattle.git_model.specs.Stream.{LineReading, NoLine, unless_bad, line_by}
use Rattle.git_batch.specs.declared.line.LineEnd.{LineEnd}
use Rattle.git_batch.specs.declared.line.LineEnd.TheVariants.{Lf, Input, Limit}

-- a source gave this line, without its LF, and what it ended at
abbrev pub HasLine : Option Bytes → Option Bytes → LineEnd → Bytes → Type 0
HasLine old new Lf text = Lacks lf text × (length text < 4096) × Consumes old new (line text)
HasLine old new Input text = Lacks lf text × (length text ≤ 4096) × Consumes old new text × IsAtEnd new
HasLine old new Limit text = Lacks lf text × (length text ≡ 4096) × ((b : ℕ) × Consumes old new (text ++ b ∷ []))

-- what such a line says
abbrev pub piece_reading : ℕ → LineEnd → Bytes → LineReading
piece_reading at Lf text = unless_bad (reach (at + length text + 1) (at + length text + 1)) (line_by at text (Some (text, [])))
piece_reading at Input [] = NoLine
piece_reading at Input (b ∷ text) = unless_bad (reach (at + length (b ∷ text)) (at + length (b ∷ text) + 1)) NoLine
piece_reading at Limit text = unless_bad (reach (at + length text) (at + length text)) (line_by at text None)
