-- When a text is refused.
use Rattle.std.specs.Prelude.{⊤}
use Rattle.text_model.specs.Text.{Bytes}
use Rattle.text_model.specs.Escape.{IsBadEscapeAt}
use Rattle.bridge_text.specs.declared.escape.TextFault.{TextFault}
use Rattle.bridge_text.specs.declared.escape.TextFault.TheVariants.{Shape, Memory}

-- this is what is wrong with a text that should be an escape; of memory the text tells nothing
abbrev pub IsTextFault : Bytes → TextFault → Type 0
IsTextFault text (Shape place) = IsBadEscapeAt text place
IsTextFault text Memory = ⊤
