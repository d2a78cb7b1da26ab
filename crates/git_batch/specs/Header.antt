-- What the line of an object says, as the code has it.
use Rattle.std.specs.Prelude.{◌≡◌, ℕ, ◌+◌, ◌≤◌, List, [], ◌∷◌, Option, Some, None, Result, MatchResult, decimal, length}
use Rattle.text_model.specs.Limits.{input_limit}
use Rattle.text_model.specs.Text.{Bytes, spaced}
use Rattle.text_model.specs.Id.{hex, kind_word}
use Rattle.text_model.specs.Fault.{Refusal}
use Rattle.git_model.specs.Stream.{LineReading, NoLine, Header, BadLine, size_limit}
use Rattle.bridge_text.specs.Kinds.{object_kind}
use Rattle.git_batch.specs.declared.header.Header as code
use Rattle.git_batch.specs.declared.fault.BatchFault.{BatchFault}
use Rattle.git_batch.specs.declared.line.LineEnd.{LineEnd}
use Rattle.git_batch.specs.declared.line.LineEnd.TheVariants.{Lf, Input}
use Rattle.git_batch.specs.Faults.{IsFault}
use Rattle.git_batch.specs.Line.{HasLine}

abbrev pub header_value : code.Header → LineReading
header_value h = Header h.id (object_kind h.kind) h.size

-- the line without its LF
abbrev pub header_text : code.Header → Bytes
header_text h = spaced (hex h.id ∷ kind_word (object_kind h.kind) ∷ decimal h.size ∷ [])

-- what a line is refused for
abbrev pub line_fault : LineReading → Option Refusal
line_fault NoLine = None
line_fault (Header id kind size) = None
line_fault (BadLine why) = Some why

-- a header comes where the line says it, and a fault where it is what the line is refused for
abbrev pub ReadsHeader : LineReading → Result code.Header BatchFault → Type 0
ReadsHeader reading result = MatchResult result (λ h. reading ≡ header_value h) (IsFault (line_fault reading))

abbrev pub line_value : Option code.Header → LineReading
line_value None = NoLine
line_value (Some h) = header_value h

abbrev pub ReadsLine : LineReading → Result (Option code.Header) BatchFault → Type 0
ReadsLine reading result = MatchResult result (λ h. reading ≡ line_value h) (IsFault (line_fault reading))

-- the line at the offset is that of the header, whose size is within its limit
pub record IsLineOf (at : ℕ) (text : Bytes) (h : code.Header) : Type 0 where
  pub is : text ≡ header_text h
  pub limit : h.size ≤ size_limit (object_kind h.kind)
  pub fits : at + length text + 1 ≤ input_limit

-- a line that ended there has this header; one that the end of the input left without bytes has none
abbrev pub IsTextOf : ℕ → LineEnd → Bytes → Option code.Header → Type 0
IsTextOf at end text None = (end ≡ Input) × (text ≡ [])
IsTextOf at end text (Some h) = (end ≡ Lf) × IsLineOf at text h

-- a source gave the line of the header, or was at its end
abbrev pub HasHeader : Option Bytes → Option Bytes → ℕ → Bytes → Option code.Header → Type 0
HasHeader old new at text None = HasLine old new Input text × (text ≡ [])
HasHeader old new at text (Some h) = HasLine old new Lf text × IsLineOf at text h

-- the words of a line of three
abbrev pub three_words : List Bytes → Option (Bytes × Bytes × Bytes)
three_words (first ∷ second ∷ third ∷ []) = Some (first, second, third)
three_words _ = None
