-- How the parts of a state's text are told apart.
use Rattle.std.specs.Prelude.{◌≡◌, ◌≢◌, ℕ, ◌<◌, ◌^◌, [], ◌∷◌, ◌++◌, codes, decimal, length}
use Rattle.text_model.specs.Text.{Bytes, line, spaced}
use Rattle.state_model.specs.Text.{sized, version_word, version}
use Rattle.state_model.specs.Saved.{IsVersionFault}
use Rattle.state_part.specs.declared.head.HeadFault.{HeadFault}
use Rattle.state_part.specs.declared.head.HeadFault.TheVariants.{OtherVersion, Shape}

-- the first line of a state's text
abbrev pub head_line : Bytes
head_line = line (spaced (version_word ∷ version ∷ []))

-- why the bytes don't begin with the first line
abbrev pub IsHeadFault : Bytes → HeadFault → Type 0
IsHeadFault bytes OtherVersion = IsVersionFault bytes
IsHeadFault bytes Shape = (¬ (IsVersionFault bytes)) × ((rest : Bytes) → bytes ≢ head_line ++ rest)

-- a word and a number, as a line
abbrev pub count_line : Bytes → ℕ → Bytes
count_line word n = line (spaced (word ∷ decimal n ∷ []))

-- the bytes begin with the line of this word and a number of 64 bits, and go on with the rest
pub record HasCount (word bytes : Bytes) (n : ℕ) (rest : Bytes) : Type 0 where
  pub is : bytes ≡ count_line word n ++ rest
  pub fits : n < 2 ^ 64

-- no line of this word and a number of 64 bits begins the bytes
abbrev pub NoCount : Bytes → Bytes → Type 0
NoCount word bytes = (n : ℕ) (rest : Bytes) → n < 2 ^ 64 → bytes ≢ count_line word n ++ rest

-- the bytes begin with the section of this word, and go on with the rest
abbrev pub HasSection : Bytes → Bytes → Bytes → Bytes → Type 0
HasSection word bytes text rest = bytes ≡ sized word text ++ rest

-- no section of this word begins the bytes
abbrev pub NoSection : Bytes → Bytes → Type 0
NoSection word bytes = (text rest : Bytes) → bytes ≢ sized word text ++ rest

-- the bytes are an end of the text
abbrev pub IsEnd : Bytes → Bytes → Type 0
IsEnd text bytes = (front : Bytes) × (text ≡ front ++ bytes)

-- the first line, the sections of a bundle and of a stream, and the rest
abbrev pub dumps_text : Bytes → Bytes → Bytes → Bytes
dumps_text bundle stream rest = head_line ++ (sized (codes "hg") bundle ++ (sized (codes "git") stream ++ rest))

-- a text begins with the first line and the sections of this bundle and of this stream
pub record HasDumps (text bundle stream : Bytes) : Type 0 where
  pub rest : Bytes
  pub is : text ≡ dumps_text bundle stream rest
  pub short : length text < 2 ^ 64

-- it doesn't begin so
abbrev pub NoDumps : Bytes → Type 0
NoDumps text = (bundle stream rest : Bytes) → text ≢ dumps_text bundle stream rest
