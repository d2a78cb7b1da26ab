-- The changeset that marks name, part by part.
use Rattle.std.proofs.Common.{◌≡◌, ◌≤◌, ◌++◌, Bool, true, false, not, List, [], ◌∷◌, length, map, Option, Some, None, refl, sym, ap, subst, ◌∙◌}
use Rattle.std.specs.Prelude.{IfSome, IsTrue}
use Rattle.text_model.specs.Lists.{Each, rises}
use Rattle.text_model.specs.Text.{Bytes, IsBytes, is_below}
use Rattle.text_model.specs.Id.{Id, is_null}
use Rattle.text_model.specs.Path.{is_fit_path}
use Rattle.text_model.proofs.Options.{some_is}
use Rattle.git_model.specs.Tree.{is_blob_mode}
use Rattle.hg_model.specs.Changeset.{IsChangeset, changeset_text}
use Rattle.hg_store.specs.Known.{AreAdded, knows_same}
use Rattle.hg_changeset.specs.Values.{changeset_value}
use Rattle.hg_changeset.specs.declared.changeset.Changeset.{Changeset}
use Rattle.view_model.specs.View.{IsRevision, Row, TreeRow, AreManifestParents, manifest_node, rows_text, files_among, paths_of, tree_paths, ChangesetView, IsChangesetView, CommitView}
use Rattle.pair_model.specs.Block.{Block, Parents, hg_partner}
use Rattle.pair_model.specs.Octopus.{parents_of_commit, first_of, second_of}
use Rattle.pair_model.specs.MarkList.{Mark, IsMarkList}
use Rattle.pair_model.specs.Rule.{ruled_row}
use Rattle.partner_model.specs.Filled.{filled_rows, changeset_by_marks, filled_changeset}
use Rattle.unmark_law.proofs.ChangesetOne.{file_rows}
use Rattle.filled_law.proofs.Walk.{walked}
use Rattle.filled_law.proofs.Filled.{paths-are}
use Rattle.filled_law.proofs.Right.{files-rise, rows-files, named-parts, filled-by}
use Rattle.pair_known.specs.Partners.{ArePartners}
use Rattle.pair_known.specs.Over.{IsCommitOver}
use Rattle.pair_known.specs.declared.known.Known.{Known}
use Rattle.pair_known.specs.declared.git_draft.GitDraft.{GitDraft}
use Rattle.pair_known.specs.declared.draft_texts.DraftTexts.{DraftTexts}
use Rattle.pair_known.specs.Rows.{RowValue, row_value}
use Rattle.file_rule.specs.Parents.{IsParent}
use Rattle.file_rule.specs.declared.parents.Parent.{Parent}
use Rattle.file_rule.specs.declared.rows.RuledRows.{RuledRows}
use Rattle.manifest_rule.specs.Listed.{AreListedOver}
use Rattle.manifest_rule.specs.declared.manifest.RuledManifest.{RuledManifest}
use Rattle.changeset_rule.proofs.ParentLemmas.{parents-are, ids}
use Rattle.changeset_rule.proofs.RowViews.{row-revision}
use Rattle.changeset_rule.proofs.RuledLemmas.{are-rows, right-first, right-second, null-first, one-parent}
use Rattle.commit_unmark.specs.Named.{AreFilesOver, AreRight, AreBroughtRows, NamesNoRows}
use Rattle.commit_unmark.specs.Parts.{manifest_by, files_by, fields_by, IsManifestWith}
use Rattle.commit_unmark.specs.Changesets.{NamesNoChangeset, NamesChangeset}

right-rows : (rows : List Row) → Each (λ row. IsTrue (is_fit_path row.path) × IsBytes row.path × IsRevision row.revision) rows → AreRight rows
right-rows [] h = tt
right-rows (r ∷ rs) h = (h.0.2, right-rows rs h.1)

each-of : {X : Type 0} (P Q : X → Type 0) (xs : List X) → ((x : X) → P x → Q x) → Each P xs → Each Q xs
each-of P Q [] f h = tt
each-of P Q (x ∷ xs) f h = (f x h.0, each-of P Q xs f h.1)

module _ (k : Known) (blocks : List Block) (d : GitDraft) (v : CommitView) (over : IsCommitOver k blocks d v) (few : length (v.value).parents ≤ 2) (marks : List Mark) where
  abbrev pub ps : Parents
  ps = parents_of_commit blocks v

  added : AreAdded k.hg
  added = over.history.added

  pub files-over : (first second : Parent) → IsParent k.hg first ps.first → IsParent k.hg second ps.second → AreFilesOver k.hg (d.fresh ++ k.git) d.files first second ps v.rows
  files-over first second a b = record {
    rows = are-rows k blocks d v over first second a b;
    ruled = each-of _ (λ (t : TreeRow). is_blob_mode t.mode ≡ true → IsRevision (ruled_row ps t).revision) v.rows
        (λ t h file. row-revision k.hg added ps (right-first k blocks d v over) (right-second k blocks d v over) t h.2) (over.view).rows;
  }

  pub no-rows : NamesNoRows ps marks v.rows → NamesNoChangeset blocks v marks
  no-rows none = λ h filled view. none h.rows (named-parts blocks v h marks filled).rows (right-rows h.rows view.rows)

  module _ (rows : List Row) (filled : filled_rows ps marks (files_among v.rows) ≡ Some rows) where
    abbrev pub whole : ChangesetView
    whole = changeset_by_marks ps v marks rows

    -- a named changeset is this one
    one : (h : ChangesetView) → filled_changeset blocks v marks ≡ Some h → whole ≡ h
    one h is = some_is (sym (filled-by blocks v marks rows filled) ∙ is)

    pub no-manifest : (AreManifestParents (manifest_by ps marks rows) rows → ⊥) → NamesNoChangeset blocks v marks
    no-manifest none = λ h is view. none (subst (λ (x : ChangesetView). AreManifestParents x.manifest x.rows) (sym (one h is)) view.manifest)

    pub no-fields : (IsChangeset (fields_by v.value marks (manifest_node (manifest_by ps marks rows) rows) (files_by ps marks rows)) → ⊥) → NamesNoChangeset blocks v marks
    no-fields none = λ h is view. none (subst (λ (x : ChangesetView). IsChangeset x.fields) (sym (one h is)) view.fields)

    pub paths-rise : IsMarkList marks → IsTrue (rises is_below (paths_of rows))
    paths-rise list =
        let up = files-rise v.rows (over.view).in_order in
        let zip = rows-files ps (files_among v.rows) marks rows (file_rows v.rows (over.view).rows) (walked ps (files_among v.rows) marks list.1 up ∙ filled) in
        subst (λ (x : List Bytes). IsTrue (rises is_below x)) (sym (paths-are rows (files_among v.rows) zip)) up

    flipped : (null there : Bool) → there ≡ not null → null ≡ not there
    flipped true there e = ap not (sym e)
    flipped false there e = ap not (sym e)

    pub are-listed : IsMarkList marks → (values : List RowValue) → values ≡ map row_value rows → (first second : Parent) → IsParent k.hg first ps.first → IsParent k.hg second ps.second
        → first.is_there ≡ not (is_null ps.p) → second.is_there ≡ not (is_null ps.q) → AreListedOver values first second ps rows
    are-listed list values of_rows first second a b there1 there2 = record {
      of_rows = of_rows;
      rising = paths-rise list;
      there = (flipped (is_null ps.p) first.is_there there1, flipped (is_null ps.q) second.is_there there2);
      in_first = sym a.entries;
      in_second = sym b.entries;
    }

    module _ (list : IsMarkList marks) (right : AreRight rows) (manifest : AreManifestParents (manifest_by ps marks rows) rows)
        (fields : IsChangeset (fields_by v.value marks (manifest_node (manifest_by ps marks rows) rows) (files_by ps marks rows))) where
      row-views : (ts : List TreeRow) (rs : List Row) → Each (λ row. IsTrue (is_fit_path row.path) × IsBytes row.path × IsBytes row.content) ts → paths_of rs ≡ tree_paths ts → AreRight rs → Each (λ row. IsTrue (is_fit_path row.path) × IsBytes row.path × IsRevision row.revision) rs
      row-views [] [] h e r = tt
      row-views [] (x ∷ rs) h e r = absurd cc
      row-views (t ∷ ts) [] h e r = tt
      row-views (t ∷ ts) (x ∷ rs) h e r =
          let path : x.path ≡ t.path = cc in
          let rest : paths_of rs ≡ tree_paths ts = cc in
          ((subst (λ (p : Bytes). IsTrue (is_fit_path p)) (sym path) h.0.0, subst IsBytes (sym path) h.0.1, r.0), row-views ts rs h.1 rest r.1)

      among : (ts : List TreeRow) → Each (λ row. IsTrue (is_fit_path row.path) × IsBytes row.path × IsBytes row.content) ts → Each (λ row. IsTrue (is_fit_path row.path) × IsBytes row.path × IsBytes row.content) (files_among ts)
      among [] h = tt
      among (t ∷ ts) h = by (is_blob_mode t.mode) refl (among ts h.1)
        where
          by : (b : Bool) → is_blob_mode t.mode ≡ b → Each (λ (row : TreeRow). IsTrue (is_fit_path row.path) × IsBytes row.path × IsBytes row.content) (files_among ts) → Each (λ (row : TreeRow). IsTrue (is_fit_path row.path) × IsBytes row.path × IsBytes row.content) (files_among (t ∷ ts))
          by true e go = rw e (h.0, go)
          by false e go = rw e go

      pub view : IsChangesetView whole
      view =
          let p-is : ps.p ≡ first_of (map (hg_partner blocks) (v.value).parents) = ap (λ (x : Parents). x.p) (parents-are blocks v few) in
          let q-is : ps.q ≡ second_of (map (hg_partner blocks) (v.value).parents) = ap (λ (x : Parents). x.q) (parents-are blocks v few) in
          let are = subst ArePartners (over.history.held).partners over.history.partners in
          let zip = rows-files ps (files_among v.rows) marks rows (file_rows v.rows (over.view).rows) (walked ps (files_among v.rows) marks list.1 (files-rise v.rows (over.view).in_order) ∙ filled) in
          record {
            parents = ids k blocks d v over;
            first = λ e. q-is ∙ null-first k blocks v over.history (v.value).parents few over.parents (sym p-is ∙ e);
            distinct = λ e. p-is ∙ one-parent k blocks v over.history are (v.value).parents few over.parents (over.view).distinct (sym p-is ∙ e ∙ q-is);
            fields = fields;
            manifest = manifest;
            rows = row-views (files_among v.rows) rows (among v.rows (each-of _ _ v.rows (λ t h. (h.0, h.1, h.2)) (over.view).rows)) (paths-are rows (files_among v.rows) zip) right;
            in_order = paths-rise list;
            agrees = refl;
          }

      pub draft-of : (p1 p2 : Id) → p1 ≡ ps.p → p2 ≡ ps.q → (made : RuledRows) → AreBroughtRows k.hg made rows → Each (λ r. knows_same k.hg r ≡ false) made.fresh
          → (m : RuledManifest) → IsManifestWith m (manifest_by ps marks rows) rows → (x : Changeset) → changeset_value x ≡ whole.fields
          → (t : DraftTexts) → t.changeset ≡ None → t.manifest ≡ m.text
          → NamesChangeset k.hg blocks v marks (record { p1 = p1; p2 = p2; changeset = x; manifest = m.manifest; rows = made.rows; fresh = made.fresh; texts = t })
      draft-of p1 p2 p-is q-is made brought new m m-is x x-is t none t-is = (
        whole,
        filled-by blocks v marks rows filled,
        view,
        record {
          draft = record {
            parents = (sym p-is, sym q-is);
            fields = sym x-is;
            manifest = sym m-is.is;
            rows = brought.values;
            files = brought.held;
            texts = record {
              changeset = subst (λ (o : Option Bytes). IfSome o (λ s. s ≡ changeset_text whole.fields)) (sym none) tt;
              manifest = subst (λ (o : Option Bytes). IfSome o (λ s. s ≡ rows_text rows)) (sym t-is) m-is.text;
            };
          };
          of_rows = brought.of_rows;
          are_new = new;
          view = record { parents = view.parents; fields = view.fields; manifest = view.manifest; rows = view.rows; in_order = view.in_order; agrees = view.agrees };
        },
      )
