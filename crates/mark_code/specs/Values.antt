-- What this crate's marks are in the words of the pairing.
use Rattle.pair_model.specs.MarkList as model
use Rattle.mark_code.specs.declared.mark.Mark.{Mark}
use Rattle.mark_code.specs.declared.mark.Mark.TheVariants as mark
use Rattle.hg_manifest.specs.Values.{manifest_value}
use Rattle.mark_code.specs.declared.changeset_marks.ChangesetMarks.{ChangesetMarks}

-- the mark that a value of the enum stands for
abbrev pub mark_value : Mark → model.Mark
mark_value (mark.Rename path source) = model.Rename path source
mark_value (mark.File path p q meta) = model.File path p q meta
mark_value (mark.Manifest m) = model.Manifest (manifest_value m)
mark_value (mark.Files paths) = model.Files paths
mark_value (mark.User user) = model.User user
mark_value (mark.Date time tz) = model.Date time tz
mark_value (mark.Raw text) = model.RawDate text
mark_value (mark.Extra key value) = model.OneExtra (record { key = key; value = value })

-- the marks that a value of the struct stands for
abbrev pub changeset_marks : ChangesetMarks → model.ChangesetMarks
changeset_marks x = record { author = x.author; committer = x.committer; headers = x.headers; message = x.message; parents = x.parents; tree = x.tree }
