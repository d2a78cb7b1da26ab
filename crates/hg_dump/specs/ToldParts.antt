-- The parts of a bundle whose entries make the texts that are known.
use Rattle.std.specs.Prelude.{◌≡◌, ◌≢◌, ◌++◌, ℕ, List, [], length}
use Rattle.std.specs.List.{flat_map}
use Rattle.text_model.specs.Lists.{Each}
use Rattle.text_model.specs.Text.{Bytes}
use Rattle.hg_model.specs.Revision.{Group, FilesAt, Revision}
use Rattle.hg_model.specs.Chunk.{chunk_text}
use Rattle.hg_model.specs.Delta.{Patches}
use Rattle.hg_model.specs.Bundle.{BundleEntry, FileGroup, IsBundleEntry, IsSize, entry_payload, group_text, file_group_text}
use Rattle.hg_dump.specs.Told.{TellsText}

-- the bytes begin with a delta of this size that makes the text
pub record TellsDelta (bytes : Bytes) (size : ℕ) (text : Bytes) : Type 0 where
  pub base : Bytes
  pub delta : Bytes
  pub tail : Bytes
  pub spells : bytes ≡ delta ++ tail
  pub size_is : length delta ≡ size
  pub makes : Patches base delta text

-- the bytes are what is left of a group and this tail, and each entry that is left makes the text that is known
pub record TellsGroup (known : List Revision) (group : Group) (bytes tail : Bytes) : Type 0 where
  pub entries : List BundleEntry
  pub spells : bytes ≡ group_text entries ++ tail
  pub are : Each (λ e. IsBundleEntry e × IsSize (entry_payload e)) entries
  pub tell : Each (TellsText known group) entries

-- the bytes are the paths that are left with their groups, and the empty chunk, and each entry makes the text that is known
pub record TellsFiles (known : List Revision) (bytes : Bytes) : Type 0 where
  pub files : List FileGroup
  pub spells : bytes ≡ flat_map file_group_text files ++ chunk_text []
  pub are : Each (λ f. (f.path ≢ []) × IsSize f.path × Each (λ e. IsBundleEntry e × IsSize (entry_payload e)) f.entries) files
  pub tell : Each (λ f. Each (TellsText known (FilesAt f.path)) f.entries) files
