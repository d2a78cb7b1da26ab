-- What the outcome of a command over a bundle says of its input, in the words of the format.
use Rattle.std.specs.Prelude.{◌≡◌, ℕ, List, [], ◌++◌, length, codes, sum_by}
use Rattle.text_model.specs.Text.{Bytes}
use Rattle.hg_model.specs.Revision.{Revision}
use Rattle.hg_model.specs.Bundle.{FileGroup, Bundle, IsBundle, IsWithinLimits}
use Rattle.hg_bundle.specs.Brought.{AreOfBundle}
use Rattle.saved_model.specs.Written.{count_line}

-- how many entries the groups of files have
abbrev pub file_entries : List FileGroup → ℕ
file_entries files = sum_by (λ f. length f.entries) files

-- a line for each part of a bundle: how many entries it has
abbrev pub entry_counts : Bundle → Bytes
entry_counts b =
    count_line (codes "changesets") (length b.changesets)
    ++ (count_line (codes "manifests") (length b.manifests)
    ++ count_line (codes "files") (file_entries b.files))

-- the bytes are a bundle within the limits, and its revisions can be added one after another where none are known
pub record IsSoundBundle (bytes : Bytes) (b : Bundle) : Type 0 where
  pub is : IsBundle bytes b
  pub within : IsWithinLimits bytes b
  pub revisions : List Revision
  pub are : AreOfBundle [] b revisions

-- the bytes are such a bundle, and the counts are those of its entries
pub record CountsBundle (bytes output : Bytes) : Type 0 where
  pub bundle : Bundle
  pub is : IsSoundBundle bytes bundle
  pub counts : output ≡ entry_counts bundle

-- the bytes are no such bundle
abbrev pub IsNoSoundBundle : Bytes → Type 0
IsNoSoundBundle bytes = (b : Bundle) → IsSoundBundle bytes b → ⊥
