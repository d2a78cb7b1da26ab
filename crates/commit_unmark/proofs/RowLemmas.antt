-- The file that the rule or a mark names.
use Rattle.std.proofs.Common.{◌≡◌, List, Option, Some, None, refl, sym, ap, subst, ◌∙◌, bytes_eq}
use Rattle.std.specs.Prelude.{option_map, MatchOption}
use Rattle.std.specs.List.{find}
use Rattle.std.proofs.lemmas.Option.{same_Some, none-some}
use Rattle.text_model.specs.Text.{Bytes}
use Rattle.text_model.specs.Id.{Id}
use Rattle.hg_model.specs.Manifest.{ManifestEntry}
use Rattle.hg_model.specs.Revision.{Revision}
use Rattle.git_model.specs.Object.{Object}
use Rattle.git_model.specs.Unfold.{FileRow}
use Rattle.view_model.specs.View.{FileRevision, IsRevision, TreeRow, Row}
use Rattle.pair_model.specs.Block.{Parents}
use Rattle.pair_model.specs.Rule.{revision_at, ruled_row, ruled_revision, flag_of_mode}
use Rattle.pair_model.specs.MarkList.{Mark, Rename}
use Rattle.partner_model.specs.Mark.{node_in_parents}
use Rattle.partner_model.specs.Filled.{revision_of_mark, row_with_revision}
use Rattle.mark_law.proofs.Entries.{node-by_entries}
use Rattle.file_rule.specs.Made.{IsRowOf, IsMadeRow}
use Rattle.file_rule.specs.Parents.{row_with}
use Rattle.file_rule.specs.declared.revision.RuledRow.{RuledRow}
use Rattle.file_rule.proofs.RowsLoop.{entry-in}
use Rattle.commit_unmark.specs.Named.{IsFileOver, NamesNone, NamesRow, NamesNoCopy, NamesCopy, node_at}

module _ (known : List Revision) (objects : List Object) (first second : List ManifestEntry) (file : FileRow) (ps : Parents) (t : TreeRow) (over : IsFileOver known objects first second file ps t) where
  -- the revisions of its path in the parents
  pub row-of : (e f : Option ManifestEntry) → e ≡ find (λ x. bytes_eq x.path file.path) first → f ≡ find (λ x. bytes_eq x.path file.path) second
      → IsRowOf known objects file e f (revision_at (ps.first).rows file.path) (revision_at (ps.second).rows file.path) t
  row-of e f e_is f_is = record {
    in_first = entry-in known first (ps.first).rows file.path e (over.in_first).0 (over.in_first).1 e_is;
    in_second = entry-in known second (ps.second).rows file.path f (over.in_second).0 (over.in_second).1 f_is;
    of_file = (over.blob).of_file;
    blob = (over.blob).blob;
    content = (over.blob).content;
  }

  row_is : row_with file.path (flag_of_mode file.mode) (ruled_revision (revision_at (ps.first).rows file.path) (revision_at (ps.second).rows file.path) t) ≡ ruled_row ps t
  row_is = λ j. record {
    path = (sym (over.blob).of_file j).path;
    flag = flag_of_mode (sym (over.blob).of_file j).mode;
    revision = ruled_revision (revision_at (ps.first).rows (sym (over.blob).of_file j).path) (revision_at (ps.second).rows (sym (over.blob).of_file j).path) t;
  }

  -- the row that the rule gives is named where there is no mark
  pub ruled-named : (made : RuledRow) → IsMadeRow known made (row_with file.path (flag_of_mode file.mode) (ruled_revision (revision_at (ps.first).rows file.path) (revision_at (ps.second).rows file.path) t)) → NamesRow known ps None t made
  ruled-named made is = (ruled_row ps t, refl, over.ruled, subst (IsMadeRow known made) row_is is)

  -- the revision at a row is the row's, and the row of a named revision is the one that is made
  revised : (o : Option FileRevision) (row : Row) → option_map (row_with_revision (ruled_row ps t)) o ≡ Some row → (r : FileRevision) × (o ≡ Some r) × (row.revision ≡ r)
  revised None row e = absurd (none-some _ e)
  revised (Some r) row e = (r, refl, ap (λ (x : Row). x.revision) (sym (same_Some _ _ e)))

  made-row : (made : RuledRow) (r : FileRevision) → IsMadeRow known made (row_with file.path (flag_of_mode file.mode) r) → IsMadeRow known made (row_with_revision (ruled_row ps t) r)
  made-row made r is = subst (IsMadeRow known made) (λ j. record { path = (sym (over.blob).of_file j).path; flag = flag_of_mode (sym (over.blob).of_file j).mode; revision = r }) is

  -- a file is named where its revision is
  pub by-revision : (m : Mark) (found : Option RuledRow)
      → MatchOption found ((r : FileRevision) → revision_of_mark ps t.content m ≡ Some r → IsRevision r → ⊥) (λ made. (r : FileRevision) × (revision_of_mark ps t.content m ≡ Some r) × IsRevision r × IsMadeRow known made (row_with file.path (flag_of_mode file.mode) r))
      → MatchOption found (NamesNone ps (Some m) t) (NamesRow known ps (Some m) t)
  by-revision m None none = λ row e right.
      let x = revised (revision_of_mark ps t.content m) row e in
      none x.0 x.1 (subst IsRevision x.2 right)
  by-revision m (Some made) some =
      (row_with_revision (ruled_row ps t) some.0, ap (option_map (row_with_revision (ruled_row ps t))) some.1, some.2, made-row made some.0 some.3)

  -- the node of a path in the parents
  pub node-is : (path : Bytes) → node_at path first second ≡ node_in_parents ps path
  node-is path = node-by_entries ps path first second (over.in_first).0 (over.in_second).0

  pub copy-named : (path source : Bytes) (node : Id) → node ≡ node_at source first second → (found : Option RuledRow) → MatchOption found (NamesNoCopy node source t) (NamesCopy known file node source t)
      → MatchOption found (NamesNone ps (Some (Rename path source)) t) (NamesRow known ps (Some (Rename path source)) t)
  copy-named path source node is found h =
      by-revision (Rename path source) found (subst (λ (n : Id). MatchOption found (NamesNoCopy n source t) (NamesCopy known file n source t)) (is ∙ node-is source) h)
