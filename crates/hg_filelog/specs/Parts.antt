-- Which metadata and body a text of a file revision can be made of.
use Rattle.std.specs.Prelude.{◌≡◌, false, Option, Some, None}
use Rattle.text_model.specs.Text.{Bytes, has_piece}
use Rattle.hg_model.specs.FileText.{mark, begins_with_mark}

-- metadata hold no mark, and a body without metadata doesn't begin with one
abbrev pub CanJoin : Option Bytes → Bytes → Type 0
CanJoin None body = begins_with_mark body ≡ false
CanJoin (Some meta) body = has_piece mark meta ≡ false
