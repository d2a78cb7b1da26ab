-- An unmarking of a changeset is the commit that its marks name over its parents, and each part comes back from it.
use Rattle.std.proofs.Common.{◌≡◌, Bool, true, false, List, [], map, Option, Some, None, refl, sym, ap, subst, ◌∙◌}
use Rattle.std.specs.Prelude.{IsTrue, unwrap_or, option_map, if◌then◌else◌}
use Rattle.text_model.specs.Path.{is_fit_path}
use Rattle.text_model.specs.Lists.{Each}
use Rattle.text_model.specs.Text.{Bytes}
use Rattle.text_model.specs.Id.{Id}
use Rattle.text_model.proofs.Options.{some_is, none_some}
use Rattle.text_model.proofs.HexLemmas.{IsId-null}
use Rattle.git_model.proofs.ResidueLemmas.{carried_fits}
use Rattle.hg_model.specs.Changeset.{Changeset}
use Rattle.git_model.specs.Commit.{Commit, IsCommit}
use Rattle.git_model.specs.Shape.{first_clash}
use Rattle.git_model.specs.Residue.{ResidueItem, fits, carried, rows_with}
use Rattle.view_model.specs.View.{Row, ChangesetView, IsChangesetView, CommitView, SameRows, root_of_rows}
use Rattle.view_model.specs.Held.{file_row_of}
use Rattle.pair_model.specs.Block.{Block, Parents}
use Rattle.pair_model.specs.MarkList.{ChangesetMarks}
use Rattle.pair_model.specs.Octopus.{parents_of_commit}
use Rattle.pair_model.specs.User.{user_of_line, line_of_user, message_of, description_of}
use Rattle.pair_model.specs.Rule.{tree_row_of, tree_rows_with, ruled_rows, ruled_manifest, ruled_files}
use Rattle.partner_model.specs.Mark.{part_unless, residue_unless, residue_in, first_residue, handed_on, changeset_marks, mark_changeset}
use Rattle.partner_model.specs.Partner.{UnmarksChangeset}
use Rattle.partner_model.specs.Filled.{files_in, HasMarks, are_items_right, residue_of_marks, commit_by_marks, filled_commit}
use Rattle.unmark_law.proofs.ChangesetOne.{marks_in, user_is, date_is, description_is, rows_are}
use Rattle.unmark_law.proofs.TreeRows.{files_of, files_alike, rows_joined}
use Rattle.residue_law.proofs.Fits.{marks_read, residue_read, residue_fits, items_fit}
use Rattle.residue_law.proofs.FilledCommits.{commit_filled}
use Rattle.depth_law.proofs.SameRows.{manifest_same, files_same}
use Rattle.depth_law.proofs.PlainChangeset.{manifest_is, files_are}
use Rattle.commit_rule.proofs.FileLemmas.{unclashed}
use Rattle.commit_rule.proofs.Handed.{apart-rows}
use Rattle.changeset_unmark.specs.Heads.{author_named, head_named, HasDate, ComesBack, AreHeadsNeeded}
use Rattle.changeset_unmark.specs.Residues.{items_named, AreItemsFit}
use Rattle.changeset_unmark.specs.Named.{count_of, commit_named, IsNamed}
use Rattle.changeset_unmark.proofs.RightRows.{all_each}
use Rattle.changeset_unmark.proofs.Built.{rows_again, given_line}

-- ---- marks, part by part

record HasParts (c : Commit) (items given : List ResidueItem) (m : ChangesetMarks) : Type 0 where
  author : part_unless c.author (line_of_user (user_of_line c.author).user (user_of_line c.author).time (user_of_line c.author).tz) ≡ m.author
  committer : part_unless c.committer c.author ≡ m.committer
  headers : part_unless c.headers [] ≡ m.headers
  message : part_unless c.message (message_of (description_of c.message)) ≡ m.message
  parents : count_of c.parents ≡ m.parents
  tree : residue_unless items given ≡ m.tree

parts_of : (c : Commit) (items given : List ResidueItem) (m : ChangesetMarks) → changeset_marks c (description_of c.message) items given ≡ m → HasParts c items given m
unfolding changeset_marks
parts_of c items given m e = record {
  author = ap (λ (x : ChangesetMarks). x.author) e;
  committer = ap (λ (x : ChangesetMarks). x.committer) e;
  headers = ap (λ (x : ChangesetMarks). x.headers) e;
  message = ap (λ (x : ChangesetMarks). x.message) e;
  parents = ap (λ (x : ChangesetMarks). x.parents) e;
  tree = ap (λ (x : ChangesetMarks). x.tree) e;
}

-- ---- the commit

filled_by : (blocks : List Block) (ids : List Id) (v : ChangesetView) (m : ChangesetMarks) (c : CommitView) → filled_commit blocks ids v m ≡ Some c → c ≡ commit_named blocks ids v m
unfolding filled_commit
filled_by blocks ids v m c e = by m.tree refl e
  where
    by : (o : Option (List ResidueItem)) → m.tree ≡ o → option_map (commit_by_marks ids v m) (residue_of_marks blocks ids v.rows o) ≡ Some c → c ≡ commit_by_marks ids v m (items_named (handed_on blocks ids v.rows) m.tree)
    by None t f = sym (some_is f) ∙ ap (λ (x : Option (List ResidueItem)). commit_by_marks ids v m (items_named (handed_on blocks ids v.rows) x)) (sym t)
    by (Some items) t f = right (are_items_right (files_in v.rows) items) f
      where
        right : (b : Bool) → option_map (commit_by_marks ids v m) (if b then Some items else None) ≡ Some c → c ≡ commit_by_marks ids v m (items_named (handed_on blocks ids v.rows) m.tree)
        right true g = sym (some_is g) ∙ ap (λ (x : Option (List ResidueItem)). commit_by_marks ids v m (items_named (handed_on blocks ids v.rows) x)) (sym t)
        right false g = absurd (none_some g)

module _ (blocks : List Block) (Known : ChangesetView → Type 0) (v : ChangesetView) (view : IsChangesetView v) (m : ChangesetMarks) (date : HasMarks v m) (c : CommitView) (u : UnmarksChangeset blocks Known v c) where
  pub is_named : c ≡ commit_named blocks (c.value).parents v m
  is_named = filled_by blocks (c.value).parents v m c (commit_filled blocks Known v c m date u)

  read : marks_in blocks c ≡ m
  read = marks_read blocks Known v c m date u

  value_is : c.value ≡ head_named (root_of_rows (commit_named blocks (c.value).parents v m).rows) (c.value).parents v.fields m
  value_is = ap (λ (x : CommitView). x.value) is_named

  rows_are_named : c.rows ≡ tree_rows_with (items_named (handed_on blocks (c.value).parents v.rows) m.tree) (map tree_row_of v.rows)
  rows_are_named = ap (λ (x : CommitView). x.rows) is_named

  came_back : ComesBack v.fields c.value
  came_back = record {
    user = sym (user_is blocks c) ∙ ap (λ (x : Changeset). x.user) (u.marked).fields;
    date = subst (HasDate (user_of_line (c.value).author)) (sym (date_is blocks c) ∙ ap (λ (x : Changeset). x.date) (u.marked).fields) (refl, refl);
    description = sym (description_is blocks c) ∙ ap (λ (x : Changeset). x.description) (u.marked).fields;
  }

  back : ComesBack v.fields (head_named (root_of_rows (commit_named blocks (c.value).parents v m).rows) (c.value).parents v.fields m)
  back = subst (ComesBack v.fields) value_is came_back

  handed_same : handed_on blocks (c.value).parents (mark_changeset blocks c).rows ≡ handed_on blocks (c.value).parents v.rows
  handed_same = ap (carried (first_residue blocks (c.value).parents)) (files_alike (mark_changeset blocks c).rows v.rows (u.marked).rows)

  parts : HasParts (head_named (root_of_rows (commit_named blocks (c.value).parents v m).rows) (c.value).parents v.fields m) (residue_in c.rows) (handed_on blocks (c.value).parents v.rows) m
  parts = parts_of _ _ _ m ((λ i. changeset_marks (sym value_is i) (description_of (sym value_is i).message) (residue_in c.rows) (sym handed_same i)) ∙ read)

  needed : AreHeadsNeeded v.fields m
  needed =
      let line = given_line (v.fields).user (v.fields).date m date (user_of_line (author_named v.fields m)) back.user back.date in
      record {
        author = ap (part_unless (author_named v.fields m)) (sym line) ∙ parts.author;
        committer = parts.committer;
        headers = parts.headers;
        message = ap (λ (x : Bytes). part_unless (unwrap_or m.message (message_of (v.fields).description)) (message_of x)) (sym back.description) ∙ parts.message;
      }

  pub count_is : count_of (c.value).parents ≡ m.parents
  count_is = parts.parents

  residue_is : residue_in c.rows ≡ items_named (handed_on blocks (c.value).parents v.rows) m.tree
  residue_is = residue_read blocks Known v c m date u

  items_fitting : (o : Option (List ResidueItem)) → m.tree ≡ o → AreItemsFit (files_in v.rows) o
  items_fitting None e = tt
  items_fitting (Some items) e =
      let fit = items_fit blocks Known v c m items date e u in (
        all_each (fits (files_in v.rows)) items (residue_fits blocks Known v c m items date e u),
        all_each (λ (i : ResidueItem). is_fit_path i.path) items fit.paths,
      )

  all_fit : (o : Option (List ResidueItem)) → m.tree ≡ o → Each (λ i. IsTrue (fits (files_of v.rows) i)) (items_named (handed_on blocks (c.value).parents v.rows) o)
  all_fit None e = carried_fits (first_residue blocks (c.value).parents) (files_of v.rows)
  all_fit (Some items) e = residue_fits blocks Known v c m items date e u

  apart : first_clash (rows_with (items_named (handed_on blocks (c.value).parents v.rows) m.tree) (files_in v.rows)) ≡ None
  apart =
      let rows : map file_row_of c.rows ≡ rows_with (items_named (handed_on blocks (c.value).parents v.rows) m.tree) (files_in v.rows) =
      ap (map file_row_of) rows_are_named ∙ rows_joined (items_named (handed_on blocks (c.value).parents v.rows) m.tree) (map tree_row_of v.rows) in
      ap first_clash (sym rows) ∙ unclashed 0 [] (map file_row_of c.rows) (λ t b i j. apart-rows c.rows (u.view).no_clash t b i j)

  pub comes_back : (ps : Parents) → parents_of_commit blocks c ≡ ps → IsNamed blocks (c.value).parents ps v m
  comes_back ps over =
      let is : IsCommit (head_named (root_of_rows (commit_named blocks (c.value).parents v m).rows) (c.value).parents v.fields m) = subst IsCommit value_is (u.view).value in
      let rows : SameRows (ruled_rows ps c.rows) v.rows = subst (λ (x : List Row). SameRows x v.rows) (rows_are blocks c ∙ ap (λ (x : Parents). ruled_rows x c.rows) over) (u.marked).rows in
      let again : ruled_rows ps c.rows ≡ ruled_rows ps (map tree_row_of v.rows) =
      ap (ruled_rows ps) rows_are_named ∙ rows_again v view ps (items_named (handed_on blocks (c.value).parents v.rows) m.tree) (all_fit m.tree refl) in
      record {
        head = record {
          needed = needed;
          back = record { user = back.user; date = back.date; description = back.description };
          commit = record { tree_id = IsId-null; parents = is.parents; author = is.author; committer = is.committer; headers = is.headers; message = is.message };
        };
        residue = record {
          fit = items_fitting m.tree refl;
          needed = (λ i. residue_unless (sym residue_is i) (handed_on blocks (c.value).parents v.rows)) ∙ parts.tree;
          apart = apart;
        };
        lists = record {
          rows = subst (λ (x : List Row). SameRows x v.rows) again rows;
          manifest = sym (u.marked).manifest ∙ manifest_is blocks c ∙ ap (λ (x : Parents). ruled_manifest x (ruled_rows x c.rows)) over ∙ manifest_same ps (ruled_rows ps c.rows) v.rows rows;
          files = sym (ap (λ (x : Changeset). x.files) (u.marked).fields) ∙ files_are blocks c ∙ ap (λ (x : Parents). ruled_files x (ruled_rows x c.rows)) over ∙ files_same ps (ruled_rows ps c.rows) v.rows rows;
        };
      }
