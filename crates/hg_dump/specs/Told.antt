-- Bundles whose entries make the texts that are known.
use Rattle.std.specs.Prelude.{◌≡◌, List, Some}
use Rattle.text_model.specs.Lists.{Each}
use Rattle.text_model.specs.Text.{Bytes}
use Rattle.hg_model.specs.Revision.{Group, Changesets, Manifests, FilesAt, Revision, revision_of}
use Rattle.hg_model.specs.Delta.{Patches}
use Rattle.hg_model.specs.Bundle.{BundleEntry, Bundle, IsBundle}

-- the entry's delta makes, of some base, the text of the revision that is known under its node
pub record TellsText (known : List Revision) (group : Group) (e : BundleEntry) : Type 0 where
  pub base : Bytes
  pub text : Bytes
  pub makes : Patches base e.delta text
  pub known_is : (r : Revision) → revision_of known group e.node ≡ Some r → r.text ≡ text

-- the bytes are a bundle of which each entry makes the text that is known under its node
pub record TellsTexts (known : List Revision) (bytes : Bytes) : Type 0 where
  pub bundle : Bundle
  pub is : IsBundle bytes bundle
  pub changesets : Each (TellsText known Changesets) bundle.changesets
  pub manifests : Each (TellsText known Manifests) bundle.manifests
  pub files : Each (λ f. Each (TellsText known (FilesAt f.path)) f.entries) bundle.files
