-- The revisions that a store holds, in the order in which they came.
use Rattle.std.specs.Prelude.{◌≡◌, ◌≤◌, ◌&&◌, Bool, false, bytes_eq, List, [], ◌∷◌, ◌++◌, length, Option, Some, None, option_map, if◌then◌else◌, IsTrue, ⊤}
pub use Rattle.text_model.specs.Limits.{text_limit}
use Rattle.text_model.specs.Text.{Bytes, IsBytes}
use Rattle.text_model.specs.Id.{Id, IsId, is_null, blob_id}
use Rattle.text_model.specs.Path.{is_fit_path}
use Rattle.hg_model.specs.Revision.{Group, Changesets, Manifests, FilesAt, Revision, revision_of, knows, same_parents, addition_fault}
use Rattle.hg_model.specs.FileText.{IsFileText, file_order}
use Rattle.bridge_text.specs.declared.kind.Added.{Added}
use Rattle.bridge_text.specs.declared.kind.Added.TheVariants.{New, Known}

-- the revisions that an addition brings
abbrev pub changeset_revision : Id → Id → Id → Id → Bytes → Revision
changeset_revision node p1 p2 link text = record { group = Changesets; node = node; p = p1; q = p2; link = link; text = text }

abbrev pub manifest_revision : Id → Id → Id → Id → Bytes → Revision
manifest_revision node p q link text = record { group = Manifests; node = node; p = p; q = q; link = link; text = text }

abbrev pub file_revision : Bytes → Id → Id → Id → Id → Bytes → Revision
file_revision path node p q link text = record { group = FilesAt path; node = node; p = p; q = q; link = link; text = text }

-- a revision has the text and the parents of one that was found
abbrev pub is_same_as : Revision → Option Revision → Bool
is_same_as r None = false
is_same_as r (Some h) = bytes_eq r.text h.text && same_parents r.group r.p r.q h.p h.q

-- the same revision is known
abbrev pub knows_same : List Revision → Revision → Bool
knows_same known r = is_same_as r (revision_of known r.group r.node)

-- what is answered where no fault comes
abbrev pub answer_of : List Revision → Revision → Added
answer_of known r = if knows known r.group r.node then Known else New

-- a path is fit
abbrev pub HasFitPath : Group → Type 0
HasFitPath Changesets = ⊤
HasFitPath Manifests = ⊤
HasFitPath (FilesAt path) = IsTrue (is_fit_path path)

-- a path is a list of bytes
abbrev pub HasPathOfBytes : Group → Type 0
HasPathOfBytes Changesets = ⊤
HasPathOfBytes Manifests = ⊤
HasPathOfBytes (FilesAt path) = IsBytes path

-- the revision could be added to those known, and was none of them
pub record IsAddedTo (known : List Revision) (r : Revision) : Type 0 where
  pub faultless : addition_fault known r ≡ None
  pub fresh : knows known r.group r.node ≡ false
  pub node : IsId r.node
  pub parents : IsId r.p × IsId r.q
  pub link : IsId r.link
  pub bytes : IsBytes r.text
  pub short : length r.text ≤ text_limit
  pub path : HasFitPath r.group
  pub path_bytes : HasPathOfBytes r.group

-- each was added to those known and those before it
abbrev pub AreAddedTo : List Revision → List Revision → Type 0
AreAddedTo known [] = ⊤
AreAddedTo known (r ∷ rs) = IsAddedTo known r × AreAddedTo (known ++ r ∷ []) rs

-- each was added to those before it
abbrev pub AreAdded : List Revision → Type 0
AreAdded rs = AreAddedTo [] rs

abbrev pub text_of : List Revision → Group → Id → Option Bytes
text_of known group node = option_map (λ r. r.text) (revision_of known group node)

-- the text of a manifest; the null id stands for the empty one
abbrev pub manifest_text_of : List Revision → Id → Option Bytes
manifest_text_of known node = if is_null node then Some [] else text_of known Manifests node

-- the parents of a file revision in canonical order
pub record AreFileParents (known : List Revision) (path : Bytes) (node : Id) (parents : Id × Id) : Type 0 where
  pub revision : Revision
  pub is_held : revision_of known (FilesAt path) node ≡ Some revision
  pub meta : Option Bytes
  pub body : Bytes
  pub spells : IsFileText revision.text meta body
  pub in_order : parents ≡ file_order meta revision.p revision.q

-- the text is that of a file revision whose body has this id as a Git blob
pub record HasBlob (text : Bytes) (blob : Id) : Type 0 where
  pub meta : Option Bytes
  pub body : Bytes
  pub spells : IsFileText text meta body
  pub id : blob ≡ blob_id body

-- the file revision is known, and its body has this id as a Git blob
pub record IsFileBlob (known : List Revision) (path : Bytes) (node : Id) (blob : Id) : Type 0 where
  pub revision : Revision
  pub is_held : revision_of known (FilesAt path) node ≡ Some revision
  pub has_blob : HasBlob revision.text blob
