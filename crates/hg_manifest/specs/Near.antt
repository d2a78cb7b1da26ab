-- The first lines of a manifest or of a text.
use Rattle.std.specs.Prelude.{◌≡◌, ◌<◌, [], ◌∷◌, ◌++◌, ℕ, Bool, true, List, length, Option, Some, IsTrue}
use Rattle.text_model.specs.Text.{Bytes, IsBytes}
use Rattle.text_model.specs.Id.{IsId}
use Rattle.text_model.specs.Path.{is_fit_path}
use Rattle.text_model.specs.Lists.{Each}
use Rattle.hg_model.specs.Manifest.{ManifestEntry, entry_text, manifest_text, IsManifest, IsManifestText, rises_above, entry_of_line}
use Rattle.hg_manifest.specs.declared.entry.Entry.{Entry}
use Rattle.hg_manifest.specs.Values.{manifest_entry}

-- an entry that a manifest may have
abbrev pub IsFit : ManifestEntry → Type 0
IsFit e = IsTrue (is_fit_path e.path) × IsBytes e.path × IsId e.node

-- the first of the entries, its line, and the other entries
abbrev pub IsSplit : List ManifestEntry → Entry → Bytes → List ManifestEntry → Type 0
IsSplit entries e line behind = (entries ≡ manifest_entry e ∷ behind) × (line ≡ entry_text (manifest_entry e)) × IsFit (manifest_entry e)

-- a text begins with the lines of entries that a manifest may have, and this follows
abbrev pub StartsWithLines : Bytes → List ManifestEntry → Bytes → Type 0
StartsWithLines text entries rest = (text ≡ manifest_text entries ++ rest) × Each IsFit entries

-- so many of the entries, the first ones, whose text this is, and the other entries
pub record IsFront (count : ℕ) (entries front : List ManifestEntry) (text : Bytes) (behind : List ManifestEntry) : Type 0 where
  pub many : length front ≡ count
  pub whole : entries ≡ front ++ behind
  pub text_is : IsManifestText text front

-- the entries that are left, where some were passed
pub record IsLater (old new : List ManifestEntry) : Type 0 where
  pub passed : List ManifestEntry
  pub whole : old ≡ passed ++ new

-- a text begins with the lines of these entries, some, which may be the next of a manifest, and this follows
pub record AreFirstLines (text : Bytes) (entries : List ManifestEntry) (after : Bytes) : Type 0 where
  pub some : 0 < length entries
  pub are : IsManifest entries
  pub whole : text ≡ manifest_text entries ++ after

-- the line says this, which may follow a line with this path, if there is one
pub record IsEntryOf (line : Bytes) (last : Option Bytes) (e : ManifestEntry) : Type 0 where
  pub reads : Some e ≡ entry_of_line line
  pub above : rises_above last e.path ≡ true
  pub fit : is_fit_path e.path ≡ true

-- the path of the first of the entries is above that of the line before, if there is one
abbrev pub first_rises : Option Bytes → List ManifestEntry → Bool
first_rises last [] = true
first_rises last (e ∷ entries) = rises_above last e.path
