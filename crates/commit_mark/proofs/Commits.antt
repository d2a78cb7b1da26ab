-- The commit that the rule gives, with the marks as its headers.
use Rattle.std.proofs.Common.{◌≡◌, ◌≤◌, ◌++◌, false, List, length, map, sym, ap, subst, ◌∙◌}
use Rattle.std.specs.Prelude.{IsTrue}
use Rattle.text_model.specs.Lists.{Each, In, SomeOf}
use Rattle.text_model.specs.Text.{Bytes}
use Rattle.git_model.specs.Object.{Object, knows_object}
use Rattle.git_model.specs.Shape.{trees_of}
use Rattle.git_model.specs.Unfold.{FileRow}
use Rattle.view_model.specs.View.{ChangesetView, IsChangesetView, IsCommitView, TreeRow, files_among, text_limit}
use Rattle.view_model.specs.Held.{file_row_of}
use Rattle.pair_model.specs.Block.{Block}
use Rattle.pair_model.specs.MarkList.{marks_text}
use Rattle.pair_model.specs.Rule.{rule_commit}
use Rattle.pair_known.specs.Ruled.{IsMadeCommit, blob_of_row}
use Rattle.pair_known.specs.declared.git_draft.GitDraft.{GitDraft}
use Rattle.partner_model.specs.Mark.{commit_marks, parents_of_changeset, mark_commit}
use Rattle.mark_law.proofs.Views.{marked_is_view}

-- the draft with these headers
pub record HasHeaders (d e : GitDraft) (headers : Bytes) : Type 0 where
  pub commit : e.commit ≡ record (d.commit) { headers = headers }
  pub files : e.files ≡ d.files
  pub fresh : e.fresh ≡ d.fresh
  pub trees : e.trees ≡ d.trees

module _ (known : List Object) (blocks : List Block) (h : ChangesetView) (view : IsChangesetView h) (d e : GitDraft) (made : IsMadeCommit known d (rule_commit blocks h))
    (headers : Bytes) (are : headers ≡ marks_text (commit_marks (parents_of_changeset blocks h) h)) (has : HasHeaders d e headers) where
  value-is : (mark_commit blocks h).value ≡ e.commit
  unfolding mark_commit
  value-is = (λ i. record (made.value i) { headers = sym are i }) ∙ sym has.commit

  rows-are : (mark_commit blocks h).rows ≡ (rule_commit blocks h).rows
  unfolding mark_commit
  rows-are = λ i. (rule_commit blocks h).rows

  marked-view : IsCommitView (mark_commit blocks h)
  marked-view = marked_is_view blocks h view made.view

  pub marked-made : IsMadeCommit known e (mark_commit blocks h)
  marked-made = record {
    value = value-is;
    files = has.files ∙ made.files ∙ ap (map file_row_of) (sym rows-are);
    trees_are = subst (λ (fs : List FileRow). Each (λ o. In o (trees_of fs)) e.trees) (sym has.files) (subst (Each (λ o. In o (trees_of d.files))) (sym has.trees) made.trees_are);
    trees_held = subst (λ (fs : List FileRow). Each (λ o. In o (e.trees ++ known)) (trees_of fs)) (sym has.files) (subst (λ (ts : List Object). Each (λ o. In o (ts ++ known)) (trees_of d.files)) (sym has.trees) made.trees_held);
    blobs = subst (λ (rows : List TreeRow). Each (λ o. SomeOf (files_among rows) (λ row. o ≡ blob_of_row row)) e.fresh) (sym rows-are) (subst (Each (λ o. SomeOf (files_among (rule_commit blocks h).rows) (λ row. o ≡ blob_of_row row))) (sym has.fresh) made.blobs);
    are_new = subst (Each (λ o. knows_object known o.id ≡ false)) (sym has.fresh) made.are_new;
    all = subst (λ (rows : List TreeRow). Each (λ row. IsTrue (knows_object (e.fresh ++ known) row.id)) (files_among rows)) (sym rows-are) (subst (λ (os : List Object). Each (λ row. IsTrue (knows_object (os ++ known) row.id)) (files_among (rule_commit blocks h).rows)) (sym has.fresh) made.all);
    short = subst (Each (λ row. length row.content ≤ text_limit)) (sym rows-are) made.short;
    view = marked-view;
  }
