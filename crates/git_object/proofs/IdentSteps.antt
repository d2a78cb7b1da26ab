-- What is read as an ident stands in the line.
use Rattle.std.proofs.Common.{◌≡◌, Option, Some, None, sym}
use Rattle.std.specs.Prelude.{option_map, IfSome}
use Rattle.text_model.specs.Text.{Bytes}
use Rattle.git_model.specs.Commit.{IsIdentLine, ident_of}
use Rattle.git_model.proofs.IdentLemmas.{ident_of-takes}
use Rattle.git_object.specs.declared.ident.Ident.{Ident}
use Rattle.git_object.specs.Values.{ident_value}

pub found : (text : Bytes) (read : Option Ident) → option_map ident_value read ≡ ident_of text → IfSome read (λ ident. IsIdentLine text (ident_value ident))
found text None e = tt
found text (Some ident) e = ident_of-takes text (ident_value ident) (sym e)
