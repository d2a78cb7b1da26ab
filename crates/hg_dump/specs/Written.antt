-- Revisions as they are written.
use Rattle.std.specs.Prelude.{◌≡◌, ℕ, List, [], ◌∷◌, length, map, Some, unwrap_or}
use Rattle.std.specs.List.{flat_map}
use Rattle.text_model.specs.Lists.{Each}
use Rattle.text_model.specs.Text.{Bytes}
use Rattle.text_model.specs.Id.{Id}
use Rattle.hg_model.specs.FileText.{manifest_order}
use Rattle.hg_model.specs.Revision.{Group, Changesets, Manifests, FilesAt, Revision, revision_of}
use Rattle.hg_model.specs.Chunk.{chunk_text}
use Rattle.hg_model.specs.Reading.{first_base}
use Rattle.hg_model.specs.Delta.{whole_delta}
use Rattle.hg_model.specs.Bundle.{BundleEntry, FileGroup, entry_payload, file_group_text}
use Rattle.view_model.specs.Dump.{written_file, of_group}
use Rattle.hg_store.specs.Known.{AreFileParents}
use Rattle.hg_dump.specs.declared.references.Reference.{Reference}

abbrev pub reference_to : Revision → Reference
reference_to r = record { node = r.node; link = r.link }

-- the parents of a known revision in the order in which they are written
abbrev pub AreParentsOf : List Revision → Group → Id → Revision → Id × Id → Type 0
AreParentsOf known Changesets node r parents = parents ≡ (r.p, r.q)
AreParentsOf known Manifests node r parents = parents ≡ manifest_order r.p r.q
AreParentsOf known (FilesAt path) node r parents = AreFileParents known path node parents

-- the revision is a known one with its parents in that order
pub record IsHeldIn (known : List Revision) (group : Group) (r : Revision) : Type 0 where
  pub group_is : r.group ≡ group
  pub revision : Revision
  pub is_held : revision_of known group r.node ≡ Some revision
  pub text : r.text ≡ revision.text
  pub parents : AreParentsOf known group r.node revision (r.p, r.q)

-- the references are those to known revisions
pub record AreOf (known : List Revision) (group : Group) (references : List Reference) (rs : List Revision) : Type 0 where
  pub references_are : references ≡ map reference_to rs
  pub are_held : Each (IsHeldIn known group) rs

-- the entry of a revision whose base has this size
abbrev pub entry_over : ℕ → Revision → BundleEntry
entry_over size r = record { node = r.node; p = r.p; q = r.q; link = r.link; delta = whole_delta size r.text }

abbrev pub entry_chunk : BundleEntry → Bytes
entry_chunk e = chunk_text (entry_payload e)

-- the path and the group of a file, unless none of its revisions is written
abbrev pub file_part_of : FileGroup → List Revision → Bytes
file_part_of f [] = []
file_part_of f (r ∷ rs) = file_group_text f

abbrev pub file_part : List Revision → List Revision → Bytes → Bytes
file_part known rs path = file_part_of (written_file known rs path) (of_group (FilesAt path) rs)

-- one after the other, where the base of the first has this size
abbrev pub entries_over : ℕ → List Revision → List BundleEntry
entries_over size [] = []
entries_over size (r ∷ rs) = entry_over size r ∷ entries_over (length r.text) rs

abbrev pub chunks_over : ℕ → List Revision → Bytes
chunks_over size rs = flat_map entry_chunk (entries_over size rs)

-- the size of the base of a group's first entry
abbrev pub base_size : List Revision → Group → List Revision → ℕ
base_size known group [] = 0
base_size known group (r ∷ rs) = length (unwrap_or (first_base known group r.p) [])

-- the reference is that to a known revision
pub record IsOf (known : List Revision) (group : Group) (reference : Reference) (r : Revision) : Type 0 where
  pub reference_is : reference ≡ reference_to r
  pub is_held : IsHeldIn known group r
