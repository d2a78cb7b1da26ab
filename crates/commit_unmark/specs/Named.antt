-- What the marks of a commit name of its files, and drafts of it.
use Rattle.std.specs.Prelude.{◌≡◌, ◌++◌, true, List, map, Option, Some, option_map, unwrap_or, bytes_eq}
use Rattle.std.specs.List.{find}
use Rattle.std.specs.Option.{option_or}
use Rattle.text_model.specs.Lists.{Each}
use Rattle.text_model.specs.Text.{Bytes}
use Rattle.text_model.specs.Id.{Id, null, blob_id}
use Rattle.hg_model.specs.Manifest.{ManifestEntry}
use Rattle.hg_model.specs.Revision.{Revision}
use Rattle.git_model.specs.Object.{Object}
use Rattle.git_model.specs.Tree.{is_blob_mode}
use Rattle.git_model.specs.Unfold.{FileRow}
use Rattle.view_model.specs.View.{FileRevision, IsRevision, Row, entry_of_row, TreeRow, files_among}
use Rattle.view_model.specs.Held.{IsFileHeld, IsBlobHeld, file_row_of}
use Rattle.pair_model.specs.Block.{Parents}
use Rattle.pair_model.specs.Rule.{flag_of_mode, ruled_row}
use Rattle.pair_model.specs.MarkList.{Mark}
use Rattle.partner_model.specs.Filled.{renamed, filled_rows}
use Rattle.pair_known.specs.Rows.{row_value}
use Rattle.pair_known.specs.Drafts.{AreFreshOf}
use Rattle.file_rule.specs.Made.{IsMadeRow}
use Rattle.file_rule.specs.Parents.{row_with}
use Rattle.file_rule.specs.Rows.{AreRows}
use Rattle.file_rule.specs.declared.parents.Parent.{Parent}
use Rattle.file_rule.specs.declared.revision.RuledRow.{RuledRow}
use Rattle.file_rule.specs.declared.rows.RuledRows.{RuledRows}
use Rattle.filled_law.specs.Walks.{named_row}

-- the revision with these parents, metadata and body
abbrev pub revision_with : Id × Id → Option Bytes → Bytes → FileRevision
revision_with parents meta body = record { p = parents.0; q = parents.1; meta = meta; body = body }

-- the blob of a file, with its content
pub record IsContentOf (objects : List Object) (file : FileRow) (t : TreeRow) : Type 0 where
  pub of_file : file_row_of t ≡ file
  pub blob : t.id ≡ blob_id t.content
  pub content : IsBlobHeld objects t

-- the node that a path has among the first entries, or, where it is absent there, among the second
abbrev pub node_at : Bytes → List ManifestEntry → List ManifestEntry → Id
node_at path first second = unwrap_or (option_or (option_map (λ e. e.node) (find (λ e. bytes_eq e.path path) first)) (option_map (λ e. e.node) (find (λ e. bytes_eq e.path path) second))) null

-- the copy of a source at a node, or that there is no right one
abbrev pub NamesNoCopy : Id → Bytes → TreeRow → Type 0
NamesNoCopy node source t = (r : FileRevision) → renamed node source t.content ≡ Some r → IsRevision r → ⊥

abbrev pub NamesCopy : List Revision → FileRow → Id → Bytes → TreeRow → RuledRow → Type 0
NamesCopy known file node source t made =
    (r : FileRevision) × (renamed node source t.content ≡ Some r) × IsRevision r × IsMadeRow known made (row_with file.path (flag_of_mode file.mode) r)

-- a file of a commit with its content, and the entries of the parents of its changeset
pub record IsFileOver (known : List Revision) (objects : List Object) (first second : List ManifestEntry) (file : FileRow) (ps : Parents) (t : TreeRow) : Type 0 where
  pub in_first : (map entry_of_row (ps.first).rows ≡ first) × Each (IsFileHeld known) (ps.first).rows
  pub in_second : (map entry_of_row (ps.second).rows ≡ second) × Each (IsFileHeld known) (ps.second).rows
  pub blob : IsContentOf objects file t
  pub ruled : IsRevision (ruled_row ps t).revision

-- no right file is named
abbrev pub NamesNone : Parents → Option Mark → TreeRow → Type 0
NamesNone ps m t = (row : Row) → named_row ps m t ≡ Some row → IsRevision row.revision → ⊥

-- the file that is named is a right one, and the row is its
abbrev pub NamesRow : List Revision → Parents → Option Mark → TreeRow → RuledRow → Type 0
NamesRow known ps m t made = (row : Row) × (named_row ps m t ≡ Some row) × IsRevision row.revision × IsMadeRow known made row

-- ---- all files

abbrev pub AreRight : List Row → Type 0
AreRight rows = Each (λ row. IsRevision row.revision) rows

-- the rows are these files, their revisions are stored or brought, and no others are brought
pub record AreBroughtRows (known : List Revision) (made : RuledRows) (rows : List Row) : Type 0 where
  pub values : made.rows ≡ map row_value rows
  pub held : Each (IsFileHeld (made.fresh ++ known)) rows
  pub of_rows : AreFreshOf made.fresh rows

-- the files of a commit with their contents, over parents of which the rule makes right ones
pub record AreFilesOver (known : List Revision) (objects : List Object) (files : List FileRow) (first second : Parent) (ps : Parents) (ts : List TreeRow) : Type 0 where
  pub rows : AreRows known objects files first second ps ts
  pub ruled : Each (λ t. is_blob_mode t.mode ≡ true → IsRevision (ruled_row ps t).revision) ts

abbrev pub NamesNoRows : Parents → List Mark → List TreeRow → Type 0
NamesNoRows ps marks ts = (rows : List Row) → filled_rows ps marks (files_among ts) ≡ Some rows → AreRight rows → ⊥

abbrev pub NamesRows : List Revision → Parents → List Mark → List TreeRow → RuledRows → Type 0
NamesRows known ps marks ts made = (rows : List Row) × (filled_rows ps marks (files_among ts) ≡ Some rows) × AreRight rows × AreBroughtRows known made rows
