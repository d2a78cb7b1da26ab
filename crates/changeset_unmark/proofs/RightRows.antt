-- Items that fit a changeset's files make rows of a commit.
use Rattle.std.proofs.Common.{◌≡◌, Bool, true, List, [], ◌∷◌, map, refl, sym, ap, subst, ◌∙◌}
use Rattle.std.specs.Prelude.{IsTrue}
use Rattle.std.specs.List.{list_all, cons_option}
use Rattle.std.proofs.lemmas.Bool.{and_parts}
use Rattle.text_model.specs.Lists.{Each, rises}
use Rattle.text_model.specs.Text.{Bytes, is_below}
use Rattle.text_model.specs.Id.{Id}
use Rattle.text_model.specs.Path.{is_fit_path}
use Rattle.git_model.specs.Tree.{Mode, File, GroupFile, Exec, Link as LinkMode, Directory, Gitlink}
use Rattle.git_model.specs.Unfold.{FileRow}
use Rattle.git_model.specs.Residue.{ResidueItem, kind_of_row, item_of, residue_of, fits, carried, rows_with}
use Rattle.git_model.proofs.SortLemmas.{Ascends, rises-ascends, ascends-rises}
use Rattle.git_model.proofs.RowOrder.{behind_filter}
use Rattle.git_model.proofs.ResidueLemmas.{path_of, path_of_item, residue-with, carried_fits, up_filter, up_residue}
use Rattle.git_model.proofs.FitLemmas.{carried-up}
use Rattle.tree_shape.specs.Sets.{IsFileRow, IsFiles}
use Rattle.view_model.specs.View.{ChangesetView, IsChangesetView, TreeRow, files_among, tree_paths, HaveSameBodies}
use Rattle.view_model.specs.Held.{file_row_of}
use Rattle.pair_model.specs.MarkList.{IsResidue}
use Rattle.pair_model.specs.Rule.{tree_row_of, tree_rows_with}
use Rattle.partner_model.specs.Mark.{residue_in}
use Rattle.mark_law.proofs.Residues.{IsItem}
use Rattle.unmark_law.proofs.ChangesetOne.{IsViewRow}
use Rattle.unmark_law.proofs.TreeRows.{files_of, files_up, files_plain, rows_joined, files_with}
use Rattle.residue_law.proofs.Fits.{view_rows, bodies_with}
use Rattle.commit_rule.proofs.FileLemmas.{paths-same}
use Rattle.commit_rule.proofs.Handed.{file-rows}

-- items with fit paths that fit the files
pub record AreFit (files : List FileRow) (items : List ResidueItem) : Type 0 where
  pub is : IsResidue items
  pub paths : Each (λ i. IsTrue (is_fit_path i.path)) items
  pub all : Each (λ i. IsTrue (fits files i)) items

pub each_all : {X : Type 0} (f : X → Bool) (xs : List X) → list_all f xs ≡ true → Each (λ x. IsTrue (f x)) xs
each_all f [] h = tt
each_all f (x ∷ xs) h = let p = and_parts (f x) (list_all f xs) h in (p.0, each_all f xs p.1)

pub all_each : {X : Type 0} (f : X → Bool) (xs : List X) → Each (λ x. IsTrue (f x)) xs → list_all f xs ≡ true
all_each f [] h = refl
all_each f (x ∷ xs) h = rw (h.0, all_each f xs h.1) refl

-- ---- the rows of a commit

module _ (v : ChangesetView) (view : IsChangesetView v) (items : List ResidueItem) (fit : AreFit (files_of v.rows) items) where
  up : Ascends path_of (rows_with items (files_of v.rows))
  up = carried-up items (files_of v.rows) (files_up v.rows view.in_order) (rises-ascends path_of_item items (fit.is).1) fit.all

  pub joined : map file_row_of (tree_rows_with items (map tree_row_of v.rows)) ≡ rows_with items (files_of v.rows)
  joined = rows_joined items (map tree_row_of v.rows)

  pub each_row : Each IsViewRow (tree_rows_with items (map tree_row_of v.rows))
  each_row = view_rows items v.rows view.rows (fit.is).0 fit.paths

  pub are_files : IsFiles (rows_with items (files_of v.rows))
  are_files = record {
    each = subst (Each IsFileRow) joined (file-rows (tree_rows_with items (map tree_row_of v.rows)) each_row);
    in_order = ascends-rises path_of (rows_with items (files_of v.rows)) up;
  }

  pub rows_rise : IsTrue (rises is_below (tree_paths (tree_rows_with items (map tree_row_of v.rows))))
  rows_rise = subst (λ (ps : List Bytes). IsTrue (rises is_below ps)) (ap (map path_of) (sym joined) ∙ paths-same (tree_rows_with items (map tree_row_of v.rows))) are_files.in_order

  pub residue_back : residue_in (tree_rows_with items (map tree_row_of v.rows)) ≡ items
  residue_back = ap residue_of joined ∙ residue-with items (files_of v.rows) (files_up v.rows view.in_order) (files_plain v.rows) (rises-ascends path_of_item items (fit.is).1) fit.all

  pub same_bodies : HaveSameBodies v.rows (files_among (tree_rows_with items (map tree_row_of v.rows)))
  same_bodies = subst (λ (x : List TreeRow). HaveSameBodies v.rows x) (sym (files_with items v.rows view.in_order)) (bodies_with items v.rows)

-- ---- what is handed on

item_right : (path : Bytes) (mode : Mode) (id : Id) → IsFileRow (record { path = path; mode = mode; id = id }) → (rest : List ResidueItem) → Each IsItem rest → Each IsItem (cons_option (item_of path (kind_of_row mode id)) rest)
item_right path File id r rest e = e
item_right path GroupFile id r rest e = ((r.bytes, tt), e)
item_right path Exec id r rest e = e
item_right path LinkMode id r rest e = e
item_right path Directory id r rest e = ((r.bytes, tt), e)
item_right path Gitlink id r rest e = ((r.bytes, r.id), e)

items_right : (rows : List FileRow) → Each IsFileRow rows → Each IsItem (residue_of rows)
items_right [] h = tt
items_right (r ∷ rs) h = item_right r.path r.mode r.id h.0 (residue_of rs) (items_right rs h.1)

path_right : (path : Bytes) (mode : Mode) (id : Id) → IsTrue (is_fit_path path) → (rest : List ResidueItem) → Each (λ i. IsTrue (is_fit_path i.path)) rest → Each (λ i. IsTrue (is_fit_path i.path)) (cons_option (item_of path (kind_of_row mode id)) rest)
path_right path File id f rest e = e
path_right path GroupFile id f rest e = (f, e)
path_right path Exec id f rest e = e
path_right path LinkMode id f rest e = e
path_right path Directory id f rest e = (f, e)
path_right path Gitlink id f rest e = (f, e)

paths_right : (rows : List FileRow) → Each IsFileRow rows → Each (λ i. IsTrue (is_fit_path i.path)) (residue_of rows)
paths_right [] h = tt
paths_right (r ∷ rs) h = path_right r.path r.mode r.id (h.0).fit (residue_of rs) (paths_right rs h.1)

-- what fits of the residue of a tree's rows
pub handed_fit : (rows files : List FileRow) → IsFiles rows → AreFit files (carried (residue_of rows) files)
handed_fit rows files are =
    let items = residue_of rows in
    record {
      is = (
        behind_filter IsItem (fits files) items (items_right rows are.each),
        ascends-rises path_of_item (carried items files) (up_filter (fits files) items (up_residue rows (rises-ascends path_of rows are.in_order))),
      );
      paths = behind_filter (λ (i : ResidueItem). IsTrue (is_fit_path i.path)) (fits files) items (paths_right rows are.each);
      all = carried_fits items files;
    }
