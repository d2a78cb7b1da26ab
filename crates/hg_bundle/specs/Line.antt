-- What the line of an entry begins with.
use Rattle.std.specs.Prelude.{◌++◌, codes}
use Rattle.text_model.specs.Text.{Bytes}
use Rattle.text_model.specs.Escape.{escape}
use Rattle.hg_model.specs.Revision.{Group, Changesets, Manifests, FilesAt}

abbrev pub group_text : Group → Bytes
group_text Changesets = codes "changeset"
group_text Manifests = codes "manifest"
group_text (FilesAt path) = codes "file " ++ escape path
