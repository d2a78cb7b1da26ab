-- Git objects by their ids, and the tests of an object that is added to those known.
use Rattle.std.specs.Prelude.{◌≡◌, Bool, not, ◌&&◌, nat_lt, if◌then◌else◌, List, [], ◌∷◌, ◌++◌, length, map, Option, Some, None, is_some, bytes_eq, IsTrue}
use Rattle.std.specs.List.{find, list_any}
use Rattle.text_model.specs.Limits.{parent_limit}
use Rattle.text_model.specs.Lists.{Each}
use Rattle.text_model.specs.Text.{Bytes}
use Rattle.text_model.specs.Id.{Id, ObjectKind, blob, tree, commit, tag, same_kind, object_id}
use Rattle.text_model.specs.Fault.{FaultName}
use Rattle.text_model.specs.Fault as fault
use Rattle.git_model.specs.Tree.{TreeFault, tree_fault, TreeEntry, tree_entries, IsTreeText, has_distinct}
use Rattle.git_model.specs.Commit.{commit_fault, tag_fault, parent_ids}

pub record Object : Type 0 where
  pub id : Id
  pub kind : ObjectKind
  pub content : Bytes

-- the object of a kind and a content
abbrev pub object_of : ObjectKind → Bytes → Object
object_of kind content = record { id = object_id kind content; kind = kind; content = content }

abbrev pub has_id : Id → Object → Bool
has_id id o = bytes_eq id o.id

abbrev pub same_object : Object → Object → Bool
same_object a b = bytes_eq a.id b.id

abbrev pub object_at : List Object → Id → Option Object
object_at known id = find (has_id id) known

abbrev pub knows_object : List Object → Id → Bool
knows_object known id = is_some (object_at known id)

-- the same id with another kind or content
abbrev pub is_other_content : Object → Object → Bool
is_other_content o other = same_object o other && not (same_kind o.kind other.kind && bytes_eq o.content other.content)

-- the entries of the tree with this id, and none where there is no such tree
abbrev pub entries_of : Option Object → Option (List TreeEntry)
entries_of None = None
entries_of (Some o) = if same_kind o.kind tree then Some (tree_entries o.content) else None

abbrev pub tree_at : List Object → Id → Option (List TreeEntry)
tree_at known id = entries_of (object_at known id)

-- Objects of which no two have one id: each id is that of its kind and content, and each content of a tree is that of a tree.
pub record AreObjects (known : List Object) : Type 0 where
  pub distinct : IsTrue (has_distinct (map (λ o. o.id) known))
  pub ids : Each (λ o. o.id ≡ object_id o.kind o.content) known
  pub trees : Each (λ o. IsTrue (same_kind o.kind tree) → (entries : List TreeEntry) × IsTreeText o.content entries) known

abbrev pub tree_name : Option TreeFault → Option FaultName
tree_name None = None
tree_name (Some f) = Some f.name

abbrev pub commit_name : Bytes → Option FaultName
commit_name content =
    if is_some (commit_fault content) then Some fault.ObjectShape
    else if not (has_distinct (parent_ids content)) then Some fault.ParentTwice
    else if nat_lt parent_limit (length (parent_ids content)) then Some fault.ParentLimit
    else None

abbrev pub content_fault : ObjectKind → Bytes → Option FaultName
content_fault blob content = None
content_fault tree content = tree_name (tree_fault content)
content_fault commit content = commit_name content
content_fault tag content = if is_some (tag_fault content) then Some fault.ObjectShape else None

-- the first refusal of an object that is added to those known; its id is that of its kind and content
unfoldable pub object_fault : List Object → Object → Option FaultName
object_fault known o = elim (content_fault o.kind o.content) as (λ _. Option FaultName) [
  | Some name ↦ Some name
  | None ↦ if list_any (is_other_content o) known then Some fault.Collision else None
]

-- the known objects after an addition: an object that is there changes nothing
abbrev pub objects_after : List Object → Object → List Object
objects_after known o = if knows_object known o.id then known else known ++ o ∷ []

-- the known objects after all these, one after the other
abbrev pub objects_after_all : List Object → List Object → List Object
objects_after_all known [] = known
objects_after_all known (o ∷ os) = objects_after_all (objects_after known o) os
