-- A changeset over the parents that the commit of its marks has: what the functions are asked over, and the draft of the commit.
use Rattle.std.proofs.Common.{◌≡◌, ◌≤◌, List, ◌++◌, length, map, Option, Some, None, sym, ap, subst, ◌∙◌}
use Rattle.std.specs.Prelude.{IsTrue, not, MatchOption}
use Rattle.text_model.specs.Lists.{Each, In, SomeOf}
use Rattle.text_model.specs.Path.{is_fit_path}
use Rattle.text_model.specs.Id.{Id, is_null, null}
use Rattle.text_model.proofs.EachLemmas.{Each-weaker}
use Rattle.git_model.specs.Commit.{Commit}
use Rattle.git_model.specs.Object.{Object, knows_object}
use Rattle.git_model.specs.Unfold.{FileRow}
use Rattle.git_model.specs.Shape.{root_of, trees_of}
use Rattle.git_model.specs.Residue.{ResidueItem, fits, carried, residue_of, rows_with}
use Rattle.hg_model.specs.Changeset.{Changeset}
use Rattle.hg_model.specs.Revision.{Revision}
use Rattle.hg_store.specs.Known.{AreAdded}
use Rattle.hg_changeset.specs.Values.{changeset_value}
use Rattle.tree_shape.specs.Sets.{IsFiles}
use Rattle.view_model.specs.View.{Row, TreeRow, ManifestParents, entry_of_row, ChangesetView, CommitView, IsCommitView, files_among, root_of_rows, text_limit}
use Rattle.view_model.specs.Held.{file_row_of, IsFileHeld, IsManifestHeld}
use Rattle.pair_model.specs.Block.{Block, Parents}
use Rattle.pair_model.specs.MarkList.{ChangesetMarks, IsTreePart}
use Rattle.pair_model.specs.Rule.{tree_row_of, tree_row_with, old_residue}
use Rattle.partner_model.specs.Mark.{first_residue, handed_on}
use Rattle.partner_model.specs.Filled.{files_in}
use Rattle.pair_known.specs.declared.known.Known.{Known}
use Rattle.pair_known.specs.declared.hg_draft.HgDraft.{HgDraft}
use Rattle.pair_known.specs.declared.git_draft.GitDraft.{GitDraft}
use Rattle.pair_known.specs.Ruled.{IsMadeCommit, blob_of_row}
use Rattle.file_rule.specs.Parents.{IsParent, IsParentView}
use Rattle.file_rule.specs.declared.parents.Parent.{Parent}
use Rattle.unmark_law.proofs.TreeRows.{files_of, files_with, old_first}
use Rattle.commit_rule.specs.Parts.{file_of_row, residue_below, AreRowsOf, AreBrought}
use Rattle.commit_rule.proofs.FileLemmas.{view-files, same-files}
use Rattle.commit_rule.proofs.RuledLemmas.{IsOld, AreAsked, rows_below, old-rows, residue-rows, below-rows, some-mapped, all-mapped, same-root}
use Rattle.changeset_unmark.specs.Drafts.{IsBuiltCommit}
use Rattle.changeset_unmark.specs.Heads.{IsHead, head_named}
use Rattle.changeset_unmark.specs.Residues.{items_named, AreItemsFit, IsResidueNamed}
use Rattle.changeset_unmark.specs.Over.{IsDraftOver, IsLike, IsNamedOver}
use Rattle.changeset_unmark.specs.Named.{commit_named}
use Rattle.changeset_unmark.proofs.RightRows.{AreFit, handed_fit, are_files, joined, each_all}
use Rattle.commit_rule.proofs.Tables.{table}

-- the second has the manifest and the files of the first
like-parent : (known : List Revision) (parent : Parent) (base other : ChangesetView) → IsLike base other → IsParent known parent base → IsParent known parent other
like-parent known parent base other like is =
    let held : IsManifestHeld known (other.fields).manifest other.manifest other.rows =
    subst (λ (rows : List Row). IsManifestHeld known (other.fields).manifest other.manifest rows) (sym like.rows)
    (subst (λ (m : ManifestParents). IsManifestHeld known (other.fields).manifest m base.rows) (sym like.manifest) (subst (λ (node : Id). IsManifestHeld known node base.manifest base.rows) (sym like.node) is.held)) in
    record {
      node = like.node ∙ is.node;
      entries = ap (map entry_of_row) like.rows ∙ is.entries;
      held = held;
      files = subst (Each (IsFileHeld known)) (sym like.rows) is.files;
    }

module _ (k : Known) (added : AreAdded k.hg) (blocks : List Block) (d : HgDraft) (v : ChangesetView) (ids : List Id) (node : Id) (ps : Parents) (over : IsNamedOver k blocks d v ids node ps) where
  pub second-view : IsParentView k.hg d.p2 ps.second
  second-view = subst (λ (x : Id). IsParentView k.hg x ps.second) over.inside.draft.parents.1 over.at_second

  pub draft-over : (first second : Parent) → IsParent k.hg first over.base → IsParent k.hg second ps.second → first.is_there ≡ not (is_null node) → second.is_there ≡ not (is_null d.p2)
      → IsDraftOver k.hg d first second ps v
  draft-over first second f s is-first is-second = record {
    draft = over.inside.draft;
    view = over.inside.view;
    in_first = like-parent k.hg first over.base ps.first over.like f;
    in_second = s;
    there = (
      is-first ∙ ap not over.null_first,
      is-second ∙ ap (λ (q : Id). not (is_null q)) (sym over.inside.draft.parents.1 ∙ sym over.parents.1),
    );
    no_first = λ null. (over.like).rows ∙ ap (λ (x : ChangesetView). x.rows) ((over.at_first).of_null (over.null_first ∙ null));
    no_second = λ null. ap (λ (x : ChangesetView). x.rows) ((over.at_second).of_null (ap is_null (sym over.parents.1) ∙ null));
  }

  pub rows-of : AreRowsOf (d.fresh ++ k.hg) d.rows v.rows
  rows-of = (over.inside.draft.rows, over.inside.draft.files)

  pub files-of : map file_of_row d.rows ≡ files_in v.rows
  files-of = ap (map file_of_row) over.inside.draft.rows ∙ same-files v.rows

  pub are-rows : IsFiles (map file_of_row d.rows)
  are-rows = subst IsFiles (sym files-of) (view-files v over.inside.view)

  -- ---- what is handed on

  module _ (old : Option Id) (is-old : IsOld blocks node old) (asked : AreAsked k old) where
    residue-is : old_residue blocks node ≡ residue_of (rows_below k.git old)
    residue-is = residue-rows k blocks over.inside.history.held node old is-old asked

    handed : carried (residue_below k.git old) (map file_of_row d.rows) ≡ handed_on blocks ids v.rows
    handed =
        (λ i. carried ((below-rows k.git old ∙ sym residue-is) i) (files-of i))
        ∙ ap (λ (items : List ResidueItem). carried items (files_in v.rows)) (ap (old_residue blocks) over.node_is ∙ old_first blocks (table k blocks over.inside.history) ids over.paired)

    handed-right : AreFit (files_of v.rows) (handed_on blocks ids v.rows)
    handed-right =
        let below : residue_of (rows_below k.git old) ≡ first_residue blocks ids =
        sym residue-is ∙ ap (old_residue blocks) over.node_is ∙ old_first blocks (table k blocks over.inside.history) ids over.paired in
        subst (λ (items : List ResidueItem). AreFit (files_of v.rows) (carried items (files_of v.rows))) below
        (handed_fit (rows_below k.git old) (files_of v.rows) (old-rows k blocks over.inside.history.held node old is-old asked).files)

    -- the items are fit
    pub items-right : (tree : Option (List ResidueItem)) → IsTreePart tree → AreItemsFit (files_in v.rows) tree → AreFit (files_of v.rows) (items_named (handed_on blocks ids v.rows) tree)
    items-right None is fit = handed-right
    items-right (Some items) is fit = record { is = is; paths = each_all (λ (i : ResidueItem). is_fit_path i.path) items fit.1; all = each_all (fits (files_in v.rows)) items fit.0 }

    pub rows-right : (tree : Option (List ResidueItem)) → IsTreePart tree → AreItemsFit (map file_of_row d.rows) tree
        → IsFiles (rows_with (items_named (carried (residue_below k.git old) (map file_of_row d.rows)) tree) (map file_of_row d.rows))
    rows-right tree is fit =
        subst IsFiles (λ i. rows_with (items_named (sym handed i) tree) (sym files-of i))
        (are_files v over.inside.view (items_named (handed_on blocks ids v.rows) tree) (items-right tree is (subst (λ (fs : List FileRow). AreItemsFit fs tree) files-of fit)))

    -- by the draft's rows or by those of the view
    pub residue-named : (tree : Option (List ResidueItem)) → IsResidueNamed (map file_of_row d.rows) (carried (residue_below k.git old) (map file_of_row d.rows)) tree → IsResidueNamed (files_in v.rows) (handed_on blocks ids v.rows) tree
    residue-named tree is = subst (λ (x : List FileRow × List ResidueItem). IsResidueNamed x.0 x.1 tree) (λ i. (files-of i, handed i)) is

    pub named-residue : (tree : Option (List ResidueItem)) → IsResidueNamed (files_in v.rows) (handed_on blocks ids v.rows) tree → IsResidueNamed (map file_of_row d.rows) (carried (residue_below k.git old) (map file_of_row d.rows)) tree
    named-residue tree is = subst (λ (x : List FileRow × List ResidueItem). IsResidueNamed x.0 x.1 tree) (λ i. (sym files-of i, sym handed i)) is

    -- ---- the draft of the commit

    module _ (m : ChangesetMarks) (fit : AreFit (files_of v.rows) (items_named (handed_on blocks ids v.rows) m.tree)) (files : List FileRow)
        (files-are : files ≡ rows_with (items_named (carried (residue_below k.git old) (map file_of_row d.rows)) m.tree) (map file_of_row d.rows)) (made : GitDraft) (files-is : made.files ≡ files) where
      made-files : made.files ≡ map file_row_of (commit_named blocks ids v m).rows
      made-files =
          files-is ∙ files-are ∙ (λ i. rows_with (items_named (handed i) m.tree) (files-of i))
          ∙ sym (joined v over.inside.view (items_named (handed_on blocks ids v.rows) m.tree) fit)

      made-value : made.commit ≡ record (head_named null ids (changeset_value d.changeset) m) { tree_id = root_of files } → (commit_named blocks ids v m).value ≡ made.commit
      made-value commit =
          let root : root_of_rows (commit_named blocks ids v m).rows ≡ root_of files = same-root (commit_named blocks ids v m).rows ∙ ap root_of (sym made-files ∙ files-is) in
          (λ i. head_named (root i) ids (over.inside.draft.fields i) m) ∙ sym commit

      among : map (tree_row_with (items_named (handed_on blocks ids v.rows) m.tree)) (map tree_row_of v.rows) ≡ files_among (commit_named blocks ids v m).rows
      among = sym (files_with (items_named (handed_on blocks ids v.rows) m.tree) v.rows over.inside.view.in_order)

      -- the draft, whatever the lengths of the bodies
      pub built-commit : made.commit ≡ record (head_named null ids (changeset_value d.changeset) m) { tree_id = root_of files } → AreBrought k.git made.fresh (map tree_row_of v.rows)
          → Each (λ o. In o (trees_of files)) made.trees → Each (λ o. In o (made.trees ++ k.git)) (trees_of files) → IsCommitView (commit_named blocks ids v m)
          → IsBuiltCommit k.git made (commit_named blocks ids v m)
      built-commit commit brought trees-are trees-held view =
          let items = items_named (handed_on blocks ids v.rows) m.tree in
          record {
            value = made-value commit;
            files = made-files;
            trees_are = subst (λ (fs : List FileRow). Each (λ o. In o (trees_of fs)) made.trees) (sym files-is) trees-are;
            trees_held = subst (λ (fs : List FileRow). Each (λ o. In o (made.trees ++ k.git)) (trees_of fs)) (sym files-is) trees-held;
            blobs = Each-weaker (λ o. SomeOf (map tree_row_of v.rows) (λ row. o ≡ blob_of_row row)) (λ o. SomeOf (files_among (commit_named blocks ids v m).rows) (λ row. o ≡ blob_of_row row))
                (λ o h. subst (λ (rs : List TreeRow). SomeOf rs (λ row. o ≡ blob_of_row row)) among (some-mapped o items (map tree_row_of v.rows) h)) made.fresh brought.blobs;
            are_new = brought.are_new;
            all = subst (Each (λ row. IsTrue (knows_object (made.fresh ++ k.git) row.id))) among (all-mapped (made.fresh ++ k.git) items (map tree_row_of v.rows) brought.all);
            view = view;
          }

-- with short bodies it is all of a made commit
pub made-commit : (known : List Object) (d : GitDraft) (c : CommitView) → IsBuiltCommit known d c → Each (λ row. length row.content ≤ text_limit) c.rows → IsMadeCommit known d c
made-commit known d c built short = record {
  value = built.value;
  files = built.files;
  trees_are = built.trees_are;
  trees_held = built.trees_held;
  blobs = built.blobs;
  are_new = built.are_new;
  all = built.all;
  short = short;
  view = built.view;
}

-- ---- what is found, or not

pub rows_none : (files : List FileRow) (given : List ResidueItem) (tree : Option (List ResidueItem)) (o : Option (List FileRow)) → o ≡ None
    → MatchOption o (¬ (IsResidueNamed files given tree)) (λ (fs : List FileRow). IsResidueNamed files given tree × (fs ≡ rows_with (items_named given tree) files)) → ¬ (IsResidueNamed files given tree)
rows_none files given tree o e h =
    subst (λ (x : Option (List FileRow)). MatchOption x (¬ (IsResidueNamed files given tree)) (λ (fs : List FileRow). IsResidueNamed files given tree × (fs ≡ rows_with (items_named given tree) files))) e h

pub rows_some : (files : List FileRow) (given : List ResidueItem) (tree : Option (List ResidueItem)) (o : Option (List FileRow)) (rows : List FileRow) → o ≡ Some rows
    → MatchOption o (¬ (IsResidueNamed files given tree)) (λ (fs : List FileRow). IsResidueNamed files given tree × (fs ≡ rows_with (items_named given tree) files))
    → IsResidueNamed files given tree × (rows ≡ rows_with (items_named given tree) files)
rows_some files given tree o rows e h =
    subst (λ (x : Option (List FileRow)). MatchOption x (¬ (IsResidueNamed files given tree)) (λ (fs : List FileRow). IsResidueNamed files given tree × (fs ≡ rows_with (items_named given tree) files))) e h

pub head_none : (ids : List Id) (x : Changeset) (m : ChangesetMarks) (o : Option Commit) → o ≡ None → MatchOption o (¬ (IsHead null ids x m)) (λ (c : Commit). IsHead null ids x m × (c ≡ head_named null ids x m)) → ¬ (IsHead null ids x m)
head_none ids x m o e h = subst (λ (y : Option Commit). MatchOption y (¬ (IsHead null ids x m)) (λ (c : Commit). IsHead null ids x m × (c ≡ head_named null ids x m))) e h

pub head_some : (ids : List Id) (x : Changeset) (m : ChangesetMarks) (o : Option Commit) (head : Commit) → o ≡ Some head → MatchOption o (¬ (IsHead null ids x m)) (λ (c : Commit). IsHead null ids x m × (c ≡ head_named null ids x m))
    → IsHead null ids x m × (head ≡ head_named null ids x m)
head_some ids x m o head e h = subst (λ (y : Option Commit). MatchOption y (¬ (IsHead null ids x m)) (λ (c : Commit). IsHead null ids x m × (c ≡ head_named null ids x m))) e h
