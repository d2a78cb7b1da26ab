-- What the types of this crate stand for.
use Rattle.std.specs.Prelude.{◌-◌, Bool, true, if◌then◌else◌, List, [], ◌∷◌, length, map, slice_get, None, Some, IsTrue}
use Rattle.text_model.specs.Lists.{rises}
use Rattle.text_model.specs.Text.{Bytes, is_below}
use Rattle.git_model.specs.Commit.{Ident}
use Rattle.git_model.specs.Tree as model
use Rattle.git_model.specs.Residue as residue
use Rattle.git_object.specs.declared.entry.RawEntry.{RawEntry}
use Rattle.git_object.specs.declared.ident.Ident as declared
use Rattle.git_object.specs.declared.residue.ResidueKind.{ResidueKind}
use Rattle.git_object.specs.declared.residue.ResidueKind.TheVariants as kind
use Rattle.git_object.specs.declared.mode.Mode.{Mode}
use Rattle.git_object.specs.declared.mode.Mode.TheVariants.{File, Group, Exec, Link, Dir, Gitlink}

abbrev pub mode_value : Mode → model.Mode
mode_value File = model.File
mode_value Group = model.GroupFile
mode_value Exec = model.Exec
mode_value Link = model.Link
mode_value Dir = model.Directory
mode_value Gitlink = model.Gitlink

abbrev pub kind_value : ResidueKind → residue.ResidueKind
kind_value kind.Group = residue.Group
kind_value (kind.Link id) = residue.Link id
kind_value kind.Empty = residue.Empty

-- the paths of the items rise
abbrev pub AreItems : List residue.ResidueItem → Type 0
AreItems items = IsTrue (rises is_below (map (λ i. i.path) items))

-- the path of the item stands above that of the last, where there is one
abbrev pub stands_above : List residue.ResidueItem → residue.ResidueItem → Bool
stands_above before item = elim (slice_get before (length before - 1)) as (λ _. Bool) [ None ↦ true | Some last ↦ is_below last.path item.path ]

-- what stands behind a name in the order of entries
abbrev pub order_end : Bool → Bytes
order_end directory = if directory then 47 ∷ [] else []

-- an entry as it stands in a content
abbrev pub raw_entry : RawEntry → model.RawEntry
raw_entry e = record { mode = e.mode.now; name = e.name.now; id = e.id }

abbrev pub ident_value : declared.Ident → Ident
ident_value i = record { name = i.name.now; email = i.email.now; seconds = i.seconds; zone = i.zone }
