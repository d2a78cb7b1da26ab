-- The objects that a store holds, in the order in which they came.
use Rattle.std.specs.Prelude.{◌≡◌, Bool, false, ◌&&◌, bytes_eq, List, Option, Some, None, if◌then◌else◌}
use Rattle.text_model.specs.Text.{Bytes, IsBytes}
use Rattle.text_model.specs.Id.{Id, IsId, ObjectKind, commit, tag, same_kind}
use Rattle.text_model.specs.Lists.{Each}
use Rattle.git_model.specs.Commit.{Commit, IsCommitText, Tag, IsTagText}
use Rattle.git_model.specs.Object.{Object, AreObjects, object_at, knows_object, content_fault}
use Rattle.bridge_text.specs.Kinds.{object_kind}
use Rattle.bridge_text.specs.declared.kind.Kind.{Kind}
use Rattle.bridge_text.specs.declared.kind.Added.{Added}
use Rattle.bridge_text.specs.declared.kind.Added.TheVariants.{New, Known}

-- the object that is to be added
abbrev pub object_with : Id → Kind → Bytes → Object
object_with id kind content = record { id = id; kind = object_kind kind; content = content }

-- what is answered where no fault comes
abbrev pub answer_of : List Object → Id → Added
answer_of known id = if knows_object known id then Known else New

-- an object has the kind and the content of one that was found
abbrev pub is_same_as : Object → Option Object → Bool
is_same_as o None = false
is_same_as o (Some h) = same_kind o.kind h.kind && bytes_eq o.content h.content

-- the same object is known
abbrev pub knows_same : List Object → Object → Bool
knows_same known o = is_same_as o (object_at known o.id)

-- The id and the content are made of bytes, and the content is that of an object of its kind.
pub record IsSound (o : Object) : Type 0 where
  pub id : IsId o.id
  pub bytes : IsBytes o.content
  pub fits : content_fault o.kind o.content ≡ None

-- objects of which no two have one id, each of them sound
pub record AreKnown (known : List Object) : Type 0 where
  pub are : AreObjects known
  pub sound : Each IsSound known

-- the content of an object, where it is of the kind
abbrev pub content_of : ObjectKind → Option Object → Option Bytes
content_of kind None = None
content_of kind (Some o) = if same_kind o.kind kind then Some o.content else None

-- the content of the object of the kind with this id
abbrev pub content_at : ObjectKind → List Object → Id → Option Bytes
content_at kind known id = content_of kind (object_at known id)

-- the object with this id is the commit
pub record IsCommitAt (known : List Object) (id : Id) (c : Commit) : Type 0 where
  pub content : Bytes
  pub held : content_at commit known id ≡ Some content
  pub is : IsCommitText content c

-- the object with this id is the tag
pub record IsTagAt (known : List Object) (id : Id) (t : Tag) : Type 0 where
  pub content : Bytes
  pub held : content_at tag known id ≡ Some content
  pub is : IsTagText content t
