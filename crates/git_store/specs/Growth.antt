-- A store that has grown by objects, and objects that can't be added to it.
use Rattle.std.specs.Prelude.{◌≡◌, true, None, Some, List, ◌++◌}
use Rattle.text_model.specs.Lists.{Each, In}
use Rattle.text_model.specs.Id.{Id, object_id}
use Rattle.git_model.specs.Object.{Object, object_at, content_fault, is_other_content}

-- the id is that of kind and content, and the content is that of an object of its kind
abbrev pub IsRight : Object → Type 0
IsRight o = (object_id o.kind o.content ≡ o.id) × (content_fault o.kind o.content ≡ None)

-- the object is there under its id
abbrev pub IsThere : List Object → Object → Type 0
IsThere known o = object_at known o.id ≡ Some o

-- each object that is found in the one is found in the other
abbrev pub IsWithin : List Object → List Object → Type 0
IsWithin old new = (id : Id) (o : Object) → object_at old id ≡ Some o → object_at new id ≡ Some o

-- the store keeps what it had, has the objects too, and nothing else
pub record HasGrown (old new objects : List Object) : Type 0 where
  pub kept : IsWithin old new
  pub older : (o : Object) → In o old → In o new
  pub added : Each (IsThere new) objects
  pub only : (o : Object) → In o new → In o (old ++ objects)

-- one of the objects has the id of another, or of one of the store, and another kind or content
pub record Clash (old objects : List Object) : Type 0 where
  pub object : Object
  pub other : Object
  pub is_new : In object objects
  pub is_there : In other (old ++ objects)
  pub differs : is_other_content object other ≡ true
