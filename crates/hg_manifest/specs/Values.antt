-- What this crate's entries, flags and faults are in the words of the format.
use Rattle.std.specs.Prelude.{◌≡◌, Option, Some, ⊤}
use Rattle.text_model.specs.Text.{Bytes}
use Rattle.hg_model.specs.Manifest.{Regular, Executable, Symlink, ManifestEntry, BadLine, UnfitPath, manifest_fault}
use Rattle.hg_model.specs.Manifest as manifest
use Rattle.hg_manifest.specs.declared.entry.Entry.{Entry}
use Rattle.hg_manifest.specs.declared.entry.Flag.{Flag}
use Rattle.hg_manifest.specs.declared.entry.Flag.TheVariants.{Plain, Exec, Link}
use Rattle.view_model.specs.View as view
use Rattle.hg_manifest.specs.declared.rev.ManifestRev.{ManifestRev}
use Rattle.hg_manifest.specs.declared.rev.ManifestRev.TheVariants.{Null, Over}
use Rattle.hg_manifest.specs.declared.fault.ManifestFault.{ManifestFault}
use Rattle.hg_manifest.specs.declared.fault.ManifestFault.TheVariants.{Shape, PathUnfit, Memory}

-- the kind of file that a value of the enum stands for
abbrev pub file_flag : Flag → manifest.Flag
file_flag Plain = Regular
file_flag Exec = Executable
file_flag Link = Symlink

-- the entry that a value of the struct stands for
abbrev pub manifest_entry : Entry → ManifestEntry
manifest_entry e = record { path = e.path; node = e.node; flag = file_flag e.flag }

-- the manifest that a value of the enum stands for
abbrev pub manifest_value : ManifestRev → view.ManifestParents
manifest_value Null = view.NoManifest
manifest_value (Over p q) = view.Over p q

-- a fault other than want of memory is this one
abbrev pub IsNamed : Option manifest.ManifestFault → ManifestFault → Type 0
IsNamed fault (Shape place) = fault ≡ Some (BadLine place)
IsNamed fault (PathUnfit place) = fault ≡ Some (UnfitPath place)
IsNamed fault Memory = ⊤

-- why the text is no manifest's: a fault other than want of memory is exactly the first of the text
abbrev pub IsFault : Bytes → ManifestFault → Type 0
IsFault text fault = IsNamed (manifest_fault text) fault
