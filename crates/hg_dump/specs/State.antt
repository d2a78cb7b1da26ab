-- The references to the revisions of all groups.
use Rattle.std.specs.Prelude.{◌≡◌, Bool, true, false, List, ℕ, map}
use Rattle.std.specs.Global.{Vec}
use Rattle.std.specs.Ordering.{nat_cmp}
use Rattle.std.specs.Cmp.Lexicographic.{slice_cmp}
use Rattle.std.specs.List.Sorted.{IsStrictlySortedBy}
use Rattle.std.specs.BTreeMap.{BTreeMap, get_by, keys}
use Rattle.std.specs.List.{list_any}
use Rattle.text_model.specs.Lists.{Each}
use Rattle.text_model.specs.Id.{null}
use Rattle.text_model.specs.Text.{Bytes}
use Rattle.hg_model.specs.Manifest.{ManifestEntry}
use Rattle.hg_model.specs.Revision.{Group, Changesets, Manifests, FilesAt, Revision}
use Rattle.hg_dump.specs.declared.brought.Brought.{Brought}
use Rattle.hg_dump.specs.Referred.{Referred, or_nothing}
use Rattle.hg_dump.specs.Marks.{Mark, Met, IsMet, meets, none, marks_in, same_mark, file_mark}
use Rattle.hg_dump.specs.Written.{AreOf}
use Rattle.view_model.specs.View.{ChangesetView}
use Rattle.view_model.specs.Dump.{of_group}

-- the references to the revisions of the file at a path
abbrev pub files_at : BTreeMap (Vec ℕ) Referred → Bytes → Referred
files_at files path = or_nothing (get_by (λ k. slice_cmp nat_cmp path k.items) files)

abbrev pub referred_in : Brought → Group → Referred
referred_in b Changesets = b.changesets
referred_in b Manifests = b.manifests
referred_in b (FilesAt path) = files_at b.files path

-- the marks were met, one after the other
abbrev pub Steps : Bool → List Mark → Brought → Brought → Type 0
Steps is_new ms old new = (s : Met) → IsMet s (referred_in old) → IsMet (meets is_new s ms) (referred_in new)

-- the file revision that a line of a manifest names was met
abbrev pub IsLineMet : Met → ManifestEntry → Type 0
IsLineMet s e = list_any (same_mark (file_mark null e)) s.all ≡ true

-- the same where the lines of a manifest were met before
abbrev pub StepsAfter : List ManifestEntry → Bool → List Mark → Brought → Brought → Type 0
StepsAfter before is_new ms old new = (s : Met) → IsMet s (referred_in old) → Each (IsLineMet s) before → IsMet (meets is_new s ms) (referred_in new)

-- the marks of the new changesets were met behind those of the old ones
abbrev pub met_of : List ChangesetView → List ChangesetView → Met
met_of old new = meets true (meets false none (marks_in old)) (marks_in new)

-- each group's references are those to the revisions that are written of it
abbrev pub AreBrought : List Revision → Brought → List Revision → Type 0
AreBrought known b rs = (group : Group) → AreOf known group (referred_in b group).brought (of_group group rs)

-- the same of the files alone
abbrev pub AreFiles : List Revision → BTreeMap (Vec ℕ) Referred → List Revision → Type 0
AreFiles known files rs = (path : Bytes) → AreOf known (FilesAt path) (files_at files path).brought (of_group (FilesAt path) rs)

abbrev pub paths_of : BTreeMap (Vec ℕ) Referred → List Bytes
paths_of files = map (λ k. k.items) (keys files)

-- each path is below those after it
abbrev pub AreRising : List Bytes → Type 0
AreRising paths = IsStrictlySortedBy (slice_cmp nat_cmp) paths
