-- What this crate's entries are in the words of the model.
use Rattle.std.specs.Prelude.{◌≡◌, not, nat_lt, if◌then◌else◌, List, map, length, Option, Some, None, ⊤}
use Rattle.text_model.specs.Limits.{parent_limit}
use Rattle.text_model.specs.Text.{Bytes}
use Rattle.text_model.specs.Id.{Id, ObjectKind}
use Rattle.text_model.specs.Id as kind
use Rattle.text_model.specs.Lists.{Each}
use Rattle.text_model.specs.Fault.{FaultName, ParentTwice, ParentLimit}
use Rattle.git_model.specs.Tree.{has_distinct, IsTreeText}
use Rattle.git_model.specs.Commit.{IsCommitText, IsTagText}
use Rattle.git_model.specs.Object.{Object}
use Rattle.git_store.specs.Known.{AreKnown}
use Rattle.git_store.specs.declared.held.Held.{Held}
use Rattle.git_store.specs.declared.held.Parsed.{Parsed}
use Rattle.git_store.specs.declared.held.Parsed.TheVariants.{Blob, Tree, Commit, Tag}

abbrev pub parsed_kind : Parsed → ObjectKind
parsed_kind Blob = kind.blob
parsed_kind (Tree entries) = kind.tree
parsed_kind (Commit c) = kind.commit
parsed_kind (Tag t) = kind.tag

-- what was parsed is what the content says
abbrev pub IsValue : Bytes → Parsed → Type 0
IsValue content Blob = ⊤
IsValue content (Tree entries) = IsTreeText content entries
IsValue content (Commit c) = IsCommitText content c
IsValue content (Tag t) = IsTagText content t

-- a content of the kind was parsed
pub record IsParsed (k : ObjectKind) (content : Bytes) (p : Parsed) : Type 0 where
  pub kind_is : parsed_kind p ≡ k
  pub value : IsValue content p

-- what is wrong with the parents of a commit
abbrev pub parents_fault : List Id → Option FaultName
parents_fault ids = if not (has_distinct ids) then Some ParentTwice else if nat_lt parent_limit (length ids) then Some ParentLimit else None

abbrev pub object_in : Id × Held → Object
object_in e = record { id = e.0; kind = parsed_kind e.1.parsed; content = e.1.content }

abbrev pub objects_in : List (Id × Held) → List Object
objects_in entries = map object_in entries

-- What was parsed is what the contents say, and these are known objects.
pub record IsStore (entries : List (Id × Held)) : Type 0 where
  pub values : Each (λ e. IsValue e.1.content e.1.parsed) entries
  pub known : AreKnown (objects_in entries)
