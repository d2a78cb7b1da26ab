-- What changesets refer to, without the texts: each revision by its group and its node, with the changeset that refers to it.
use Rattle.std.specs.Prelude.{◌≡◌, Bool, not, ◌&&◌, if◌then◌else◌, List, [], ◌∷◌, ◌++◌, map, filter, bytes_eq}
use Rattle.std.specs.List.{list_any, flat_map}
use Rattle.text_model.specs.Id.{Id, is_null, has_id}
use Rattle.hg_model.specs.Manifest.{ManifestEntry}
use Rattle.hg_model.specs.Revision.{Group, Changesets, Manifests, FilesAt, Revision, same_group}
use Rattle.view_model.specs.View.{ChangesetView}
use Rattle.view_model.specs.Dump.{revisions_of}
use Rattle.hg_dump.specs.declared.references.Reference.{Reference}
use Rattle.hg_dump.specs.Referred.{Referred}

pub record Mark : Type 0 where
  pub group : Group
  pub node : Id
  pub link : Id

abbrev pub mark_of : Revision → Mark
mark_of r = record { group = r.group; node = r.node; link = r.link }

abbrev pub same_mark : Mark → Mark → Bool
same_mark a b = same_group a.group b.group && bytes_eq a.node b.node

abbrev pub reference_of : Mark → Reference
reference_of m = record { node = m.node; link = m.link }

-- the references of a group
abbrev pub references_at : Group → List Mark → List Reference
references_at group marks = map reference_of (filter (λ m. same_group group m.group) marks)

-- ---- the marks of a changeset

abbrev pub own_mark : Id → Mark
own_mark link = record { group = Changesets; node = link; link = link }

-- the null id is that of no manifest
abbrev pub manifest_marks : Id → Id → List Mark
manifest_marks link node = if is_null node then [] else record { group = Manifests; node = node; link = link } ∷ []

abbrev pub file_mark : Id → ManifestEntry → Mark
file_mark link e = record { group = FilesAt e.path; node = e.node; link = link }

abbrev pub view_marks : Id → Id → List ManifestEntry → List Mark
view_marks link manifest entries = own_mark link ∷ manifest_marks link manifest ++ map (file_mark link) entries

abbrev pub marks_of : ChangesetView → List Mark
marks_of h = map mark_of (revisions_of h)

abbrev pub marks_in : List ChangesetView → List Mark
marks_in hs = flat_map marks_of hs

-- ---- what was met

-- the marks that were met, and those among them that are new and were not met before
pub record Met : Type 0 where
  pub all : List Mark
  pub brought : List Mark

abbrev pub none : Met
none = record { all = []; brought = [] }

-- one mark more
abbrev pub meet : Bool → Met → Mark → Met
meet is_new s m = record {
  all = s.all ++ m ∷ [];
  brought = if is_new && not (list_any (same_mark m) s.all) then s.brought ++ m ∷ [] else s.brought;
}

abbrev pub meets : Bool → Met → List Mark → Met
meets is_new s [] = s
meets is_new s (m ∷ ms) = meets is_new (meet is_new s m) ms

-- each group has the nodes that were met, and the references that are new
pub record IsMet (s : Met) (at : Group → Referred) : Type 0 where
  pub met : (group : Group) (node link : Id) → has_id (at group).met node ≡ list_any (same_mark (record { group = group; node = node; link = link })) s.all
  pub brought : (group : Group) → (at group).brought ≡ references_at group s.brought
