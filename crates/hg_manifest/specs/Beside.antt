-- The lines of a manifest that are read beside those of another.
use Rattle.std.specs.Prelude.{◌≡◌, ◌++◌, ◌∷◌, [], ℕ, List, length}
use Rattle.text_model.specs.Lists.{Each}
use Rattle.hg_model.specs.Manifest.{ManifestEntry}
use Rattle.hg_manifest.specs.Lines.{HasLine}
use Rattle.hg_manifest.specs.Near.{IsLater}
use Rattle.hg_manifest.specs.declared.ahead.Ahead.{Ahead}

-- an entry's line stands among these
abbrev pub IsLineOf : List ManifestEntry → ManifestEntry → Type 0
IsLineOf lines e = HasLine e.path e.node lines

-- The lines up to these were passed, each of which the other manifest has, and then these were told. Of the other's lines some were passed too.
pub record IsPassed (old new : Ahead) (told : List ManifestEntry) : Type 0 where
  pub same : List ManifestEntry
  pub whole : old.lines ≡ same ++ (told ++ new.lines)
  pub both : Each (IsLineOf old.other) same
  pub later : IsLater old.other new.other

-- Of these entries the other manifest has all but some, of which each is told by how many stand before it, behind the one that was told before.
abbrev pub IsNewer : List ManifestEntry → List ℕ → List ManifestEntry → Type 0
IsNewer other [] es = Each (IsLineOf other) es
IsNewer other (gap ∷ gaps) es = (same : List ManifestEntry) × (e : ManifestEntry) × (rest : List ManifestEntry) × (es ≡ same ++ (e ∷ rest)) × (length same ≡ gap) × Each (IsLineOf other) same × IsNewer other gaps rest
