-- The equality of keys.
use Rattle.std.proofs.Common.{◌≡◌, ◌&&◌, refl}
use Rattle.std.specs.Prelude.{bytes_eq}
use Rattle.text_model.specs.Id.{Id}
use Rattle.hg_store.specs.declared.group.KeyGroup.{KeyGroup}
use Rattle.hg_store.specs.declared.group.KeyGroup.TheVariants as key
use Rattle.hg_store.specs.declared.held.Key.{Key}
use Rattle.hg_store.specs.contracts.held.KeyPartialEq.TheImpl as key_eq
use Rattle.hg_store.specs.Groups.{same_key_group}

-- keys are equal where their groups and their nodes are
pub tests : (a : KeyGroup) (node : Id) (k : Key) → key_eq.eq-value.it (record { group = a; node = node }) k ≡ (same_key_group a k.group && bytes_eq node k.node)
tests a node k = by a k.group
  where
    by : (a b : KeyGroup) → key_eq.eq-value.it (record { group = a; node = node }) (record { group = b; node = k.node }) ≡ (same_key_group a b && bytes_eq node k.node)
    by key.Changesets key.Changesets = refl
    by key.Changesets key.Manifests = refl
    by key.Changesets (key.FilesAt j) = refl
    by key.Manifests key.Changesets = refl
    by key.Manifests key.Manifests = refl
    by key.Manifests (key.FilesAt j) = refl
    by (key.FilesAt i) key.Changesets = refl
    by (key.FilesAt i) key.Manifests = refl
    by (key.FilesAt i) (key.FilesAt j) = refl
