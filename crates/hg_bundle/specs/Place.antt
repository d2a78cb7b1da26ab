-- The places and groups of the code as those of the format.
use Rattle.hg_model.specs.Revision as format
use Rattle.hg_model.specs.Bundle as bundle
use Rattle.hg_bundle.specs.declared.place.Group.{Group}
use Rattle.hg_bundle.specs.declared.place.Group.TheVariants.{Changesets, Manifests, File}
use Rattle.hg_bundle.specs.declared.place.Place.{Place}
use Rattle.hg_bundle.specs.declared.place.Place.TheVariants.{In, AtPath}

abbrev pub group_value : Group → format.Group
group_value Changesets = format.Changesets
group_value Manifests = format.Manifests
group_value (File path) = format.FilesAt path

abbrev pub place_value : Place → bundle.Place
place_value (In group) = bundle.InGroup (group_value group)
place_value AtPath = bundle.AtPath
