-- What the rule gives for one file.
use Rattle.std.specs.Prelude.{◌≡◌, ◌++◌, false, List, [], ◌∷◌, Option, Some, None, ⊤}
use Rattle.text_model.specs.Lists.{Each}
use Rattle.text_model.specs.Text.{Bytes}
use Rattle.text_model.specs.Id.{Id, blob_id, null}
use Rattle.hg_model.specs.FileText.{IsFileText, file_order}
use Rattle.hg_model.specs.Manifest.{ManifestEntry}
use Rattle.hg_model.specs.Revision.{Revision, FilesAt, revision_of}
use Rattle.hg_store.specs.Known.{knows_same}
use Rattle.git_model.specs.Object.{Object}
use Rattle.git_model.specs.Unfold.{FileRow}
use Rattle.view_model.specs.View.{FileRevision, Row, TreeRow}
use Rattle.view_model.specs.Dump.{file_revision}
use Rattle.view_model.specs.Held.{IsFileHeld, IsBlobHeld, file_row_of}
use Rattle.pair_known.specs.Rows.{row_value}
use Rattle.pair_known.specs.Fresh.{fresh_revision}
use Rattle.pair_known.specs.declared.fresh_files.FreshFile.{FreshFile}
use Rattle.file_rule.specs.Parents.{IsRevisionAt}
use Rattle.file_rule.specs.declared.revision.RuledRow.{RuledRow}

abbrev pub fresh_list : Option FreshFile → List Revision
fresh_list None = []
fresh_list (Some f) = fresh_revision f ∷ []

-- a file of the commit, with its content, and the revisions of its path in the parents
pub record IsRowOf (known : List Revision) (objects : List Object) (file : FileRow) (first second : Option ManifestEntry) (r s : Option FileRevision) (t : TreeRow) : Type 0 where
  pub in_first : IsRevisionAt known file.path first r
  pub in_second : IsRevisionAt known file.path second s
  pub of_file : file_row_of t ≡ file
  pub blob : t.id ≡ blob_id t.content
  pub content : IsBlobHeld objects t

-- the row is this one, its revision is stored or brought, and no other is brought
pub record IsMadeRow (known : List Revision) (made : RuledRow) (row : Row) : Type 0 where
  pub value : made.row ≡ row_value row
  pub held : IsFileHeld (fresh_list made.fresh ++ known) row
  pub of_row : Each (λ r. r ≡ file_revision null row) (fresh_list made.fresh)

-- what is brought is of this file, and the same is not known
abbrev pub IsFresh : List Revision → Bytes → Option FreshFile → Type 0
IsFresh known path None = ⊤
IsFresh known path (Some f) = (f.path ≡ path) × (knows_same known (fresh_revision f) ≡ false)

-- the file revision with this text and these parents
abbrev pub revision_with : Bytes → Id → Id → Id → Bytes → Revision
revision_with path node p q text = record { group = FilesAt path; node = node; p = p; q = q; link = null; text = text }

-- a file revision is known with this text, and these are its parents
pub record IsKnownAs (known : List Revision) (path : Bytes) (node p q : Id) (text : Bytes) : Type 0 where
  pub revision : Revision
  pub is_held : revision_of known (FilesAt path) node ≡ Some revision
  pub text_is : revision.text ≡ text
  pub parents : (meta : Option Bytes) (body : Bytes) → IsFileText text meta body → (p, q) ≡ file_order meta revision.p revision.q

-- the text is that of these metadata and this body, whose parents stand in the order that they say
pub record IsTextOver (text : Bytes) (meta : Option Bytes) (body : Bytes) (p q : Id) : Type 0 where
  pub spells : IsFileText text meta body
  pub order : (p, q) ≡ file_order meta p q

-- the revision has this text and these parents, and its body is the blob
pub record IsRevisionOver (r : FileRevision) (blob p q : Id) (text : Bytes) : Type 0 where
  pub parents : (r.p ≡ p) × (r.q ≡ q)
  pub text_is : IsTextOver text r.meta r.body p q
  pub blob_is : blob ≡ blob_id r.body
