-- What this crate's changesets, date lines and faults are in the words of the format.
use Rattle.std.specs.Prelude.{◌≡◌, Bool, true, false, Some, ⊤}
use Rattle.text_model.specs.Text.{Bytes}
use Rattle.hg_model.specs.Changeset as model
use Rattle.hg_model.specs.Changeset.{changeset_fault}
use Rattle.hg_changeset.specs.declared.changeset.Changeset.{Changeset}
use Rattle.hg_changeset.specs.declared.date.DateLine.{DateLine}
use Rattle.hg_changeset.specs.declared.date.DateLine.TheVariants as line
use Rattle.hg_changeset.specs.declared.fault.ChangesetFault.{ChangesetFault}
use Rattle.hg_changeset.specs.declared.fault.ChangesetFault.TheVariants.{Shape, Memory}

-- the date line that a value of the enum stands for
abbrev pub date_value : DateLine → model.DateLine
date_value (line.Plain time tz extras) = model.Plain time tz extras
date_value (line.Raw text) = model.Raw text

-- the changeset that a value of the struct stands for
abbrev pub changeset_value : Changeset → model.Changeset
changeset_value x = record { manifest = x.manifest; user = x.user; date = date_value x.date; files = x.files; description = x.desc }

abbrev pub is_plain : DateLine → Bool
is_plain (line.Plain time tz extras) = true
is_plain (line.Raw text) = false

-- a fault other than want of memory is exactly that of the text; of memory the text tells nothing
abbrev pub IsFault : Bytes → ChangesetFault → Type 0
IsFault text (Shape place) = changeset_fault text ≡ Some place
IsFault text Memory = ⊤
