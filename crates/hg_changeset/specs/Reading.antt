-- The parts of a changeset's text, as they are read.
use Rattle.std.specs.Prelude.{◌≡◌, ◌≢◌, ℕ, false, true, ◌==◌, if◌then◌else◌, List, [], ◌∷◌, ◌++◌, length, Option, Some, None, option_map}
use Rattle.std.specs.List.{flat_map}
use Rattle.text_model.specs.Lists.{Each}
use Rattle.text_model.specs.Text.{Bytes, IsBytes, lf, sp, has_byte, line}
use Rattle.text_model.specs.Id.{IsId, hex}
use Rattle.hg_model.specs.Changeset.{Extra, extras_text, is_literal, spelled_byte, has_blank_line, files_fault, changeset_fault}

-- the byte that this letter spells behind a `\`, and what follows it
abbrev pub behind_backslash : Bytes → Option (ℕ × Bytes)
behind_backslash [] = None
behind_backslash (letter ∷ rest) = option_map (λ byte. (byte, rest)) (spelled_byte letter)

-- the byte with which an escaped text begins, and what follows it
abbrev pub first_byte : Bytes → Option (ℕ × Bytes)
first_byte [] = None
first_byte (b ∷ rest) = if b == 92 then behind_backslash rest else if is_literal b then Some (b, rest) else None

-- a space and the items, where there are any
abbrev pub extras_part : List Extra → Bytes
extras_part [] = []
extras_part (e ∷ es) = sp ∷ extras_text (e ∷ es)

-- The text begins with the lines of these three, and the fault of what follows them is that of the text.
pub record IsHead (text manifest user date rest : Bytes) : Type 0 where
  pub whole : text ≡ line (hex manifest) ++ line user ++ line date ++ rest
  pub id : IsId manifest
  pub user_is : (user ≢ []) × (has_byte 10 user ≡ false)
  pub date_is : has_byte 10 date ≡ false
  pub fault : changeset_fault text ≡ files_fault (length text) rest

-- The text is lines of the files that were added, a blank line and the description.
pub record AreFiles (text : Bytes) (old new : List Bytes) (description : Bytes) : Type 0 where
  pub files : List Bytes
  pub each : Each (λ f. (f ≢ []) × (has_byte 10 f ≡ false) × IsBytes f) files
  pub added : new ≡ old ++ files
  pub whole : text ≡ flat_map line files ++ lf ∷ description
  pub blank : has_blank_line text ≡ true
