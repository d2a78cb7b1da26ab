-- The tests of a named changeset are those that the laws ask for.
use Rattle.std.proofs.Common.{◌≡◌, ◌≤◌, Bool, true, false, true≢false, List, [], ◌∷◌, length, map, Option, Some, None, refl, sym, ap, subst, ◌∙◌}
use Rattle.std.specs.Prelude.{◌↔◌, IsTrue, MatchOption}
use Rattle.text_model.specs.Text.{Bytes}
use Rattle.text_model.proofs.Options.{some_is}
use Rattle.git_model.specs.Commit.{Commit}
use Rattle.git_model.specs.Residue.{carried, plain_file, plain_files}
use Rattle.git_model.specs.Unfold.{FileRow}
use Rattle.view_model.specs.Held.{file_row_of}
use Rattle.view_model.specs.View.{TreeRow, files_among, ChangesetView, IsChangesetView, CommitView}
use Rattle.pair_model.specs.Block.{Block}
use Rattle.pair_model.specs.User.{message_of, description_of}
use Rattle.pair_model.specs.MarkList.{Mark, marks_text, AreHeadersOf}
use Rattle.pair_model.specs.Rule.{old_residue, carried_to}
use Rattle.pair_model.proofs.MessageLemmas.{message_of-description_of, ends_with-message_of}
use Rattle.partner_model.specs.Mark.{commit_marks, parents_of_changeset}
use Rattle.partner_model.specs.Partner.{UnmarksCommit}
use Rattle.partner_model.specs.Table.{IsTable}
use Rattle.partner_model.specs.Filled.{filled_changeset}
use Rattle.mark_law.proofs.Marks.{marks_one}
use Rattle.mark_law.proofs.MarkTypes.{marks_are}
use Rattle.mark_law.proofs.Listed.{marks_are_list}
use Rattle.unmark_law.proofs.CommitOne.{headers_are}
use Rattle.unmark_law.proofs.ChangesetOne.{file_rows}
use Rattle.unmark_law.proofs.TreeRows.{files_of, plain_row, among_joined}
use Rattle.filled_law.specs.Fillings.{IsNarrow, IsFilledRight}
use Rattle.filled_law.proofs.Filled.{filled-is, unmarking-is_right}
use Rattle.filled_law.proofs.Right.{IsNamed, over-two, files-are, files-plain, named-parts, own-paired, right-is_unmarking}
use Rattle.pair_known.specs.Over.{IsCommitOver, IsChangesetOver}
use Rattle.pair_known.specs.Ruled.{IsMadeChangeset}
use Rattle.pair_known.specs.declared.known.Known.{Known}
use Rattle.pair_known.specs.declared.git_draft.GitDraft.{GitDraft}
use Rattle.pair_known.specs.declared.hg_draft.HgDraft.{HgDraft}
use Rattle.commit_rule.proofs.Tables.{table}
use Rattle.plain_rule.specs.CommitHead.{first_partner, handed_to}
use Rattle.commit_unmark.specs.Changesets.{NamesNoChangeset, NamesChangeset, IsRight}

-- the marks of an unmarking are those of the commit
pub own-list : (blocks : List Block) (c : CommitView) (h : ChangesetView) → UnmarksCommit blocks c h → AreHeadersOf (c.value).headers (commit_marks (parents_of_changeset blocks h) h)
own-list blocks c h u = (marks_are_list (parents_of_changeset blocks h) h u.view, ap (λ x. x.headers) (sym (u.marked).value) ∙ headers_are blocks h)

pub narrow-of : (k : Known) (blocks : List Block) (d : GitDraft) (c : CommitView) → IsCommitOver k blocks d c → length (d.commit).parents ≤ 2 → IsNarrow blocks c
narrow-of k blocks d c over few = record { view = over.view; paired = over.parents; few = subst (λ (x : Commit). length x.parents ≤ 2) (sym over.draft.value) few }

plain-joined : (rows : List TreeRow) → map file_row_of (map plain_row rows) ≡ map plain_file (map file_row_of rows)
plain-joined [] = refl
plain-joined (r ∷ rs) = ap (λ (zs : List FileRow). plain_file (file_row_of r) ∷ zs) (plain-joined rs)

module _ (blocks : List Block) (t : IsTable blocks) (c : CommitView) (h : ChangesetView) (marks : List Mark) (narrow : IsNarrow blocks c) (list : AreHeadersOf (c.value).headers marks) (named : IsNamed blocks c h marks) where
  -- what is handed on to the changeset is what is handed on to the commit's files
  handed-same : carried_to blocks h ≡ handed_to blocks c
  handed-same =
      let p : h.p ≡ first_partner blocks c = named.parents.0 ∙ ap (λ x. x.p) (over-two blocks c narrow.few) in
      let files : files_of h.rows ≡ plain_files (map file_row_of c.rows) =
      files-plain h.rows (files_among c.rows) (file_rows c.rows (narrow.view).rows) (files-are blocks t c h marks narrow list named)
      ∙ plain-joined (files_among c.rows) ∙ ap (map plain_file) (among_joined c.rows) in
      λ i. carried (old_residue blocks (p i)) (files i)

  description : (h.fields).description ≡ description_of (c.value).message
  description = ap (λ x. (x.fields).description) (sym named.whole)

  pub right-of : IsFilledRight blocks c h marks → IsRight blocks c h
  right-of r = record {
    no_link = r.no_link;
    head = record { committer = r.committer; author = sym r.author; message = ends_with-message_of (c.value).message (sym (r.message ∙ ap message_of description)) };
    residue = r.residue ∙ handed-same;
    headers = ap marks_text (sym r.marks_are) ∙ sym list.1;
  }

  pub asked-of : filled_changeset blocks c marks ≡ Some h → IsChangesetView h → IsRight blocks c h → IsFilledRight blocks c h marks
  asked-of filled view r = record {
    filled = filled;
    residue = r.residue ∙ sym handed-same;
    view = view;
    no_link = r.no_link;
    marks_are = marks_one marks (commit_marks (parents_of_changeset blocks h) h) (list.0).0 (marks_are (parents_of_changeset blocks h) h view) (sym list.1 ∙ sym r.headers);
    author = sym (r.head).author;
    committer = (r.head).committer;
    message = sym (message_of-description_of (c.value).message (r.head).message) ∙ ap message_of (sym description);
  }

-- ---- what the marks that are read name

module _ (k : Known) (blocks : List Block) (d : GitDraft) (c : CommitView) (over : IsCommitOver k blocks d c) (few : length (d.commit).parents ≤ 2) (headers : Bytes) (same : headers ≡ (d.commit).headers)
    (read : Option (List Mark)) (marks : List Mark) (read-is : read ≡ Some marks) (lists : MatchOption read ((ms : List Mark) → AreHeadersOf headers ms → ⊥) (λ ms. AreHeadersOf headers ms))
    (found : Option HgDraft) (names : MatchOption found (NamesNoChangeset blocks c marks) (NamesChangeset k.hg blocks c marks)) where
  t : IsTable blocks
  t = table k blocks over.history

  listed : AreHeadersOf (c.value).headers marks
  listed =
      subst (λ (x : Bytes). AreHeadersOf x marks) (same ∙ ap (λ (x : Commit). x.headers) (sym over.draft.value))
      (subst (λ (o : Option (List Mark)). MatchOption o ((ms : List Mark) → AreHeadersOf headers ms → ⊥) (λ ms. AreHeadersOf headers ms)) read-is lists)

  narrow : IsNarrow blocks c
  narrow = narrow-of k blocks d c over few

  names-are : (o : Option HgDraft) → found ≡ o → MatchOption o (NamesNoChangeset blocks c marks) (NamesChangeset k.hg blocks c marks)
  names-are o is = subst (λ (x : Option HgDraft). MatchOption x (NamesNoChangeset blocks c marks) (NamesChangeset k.hg blocks c marks)) is names

  pub no-answer : found ≡ None → (h : ChangesetView) → ¬ (UnmarksCommit blocks c h)
  no-answer is h u = names-are None is h (filled-is blocks t c h marks listed u) u.view

  module _ (made : HgDraft) (is : found ≡ Some made) where
    some : NamesChangeset k.hg blocks c marks made
    some = names-are (Some made) is

    its : IsNamed blocks c some.0 marks
    its = named-parts blocks c some.0 marks some.1

    some-over : IsChangesetOver k blocks made some.0
    some-over = record { inside = record { history = over.history; draft = (some.3).draft; view = some.2 }; parents = own-paired blocks t c some.0 marks narrow listed its }

    pub named-over : (h : ChangesetView) × IsChangesetOver k blocks made h
    named-over = (some.0, some-over)

    -- where the test tells whether it is right
    module _ (test : Bool) (tests : (h : ChangesetView) → IsCommitOver k blocks d c → IsChangesetOver k blocks made h → IsTrue test ↔ IsRight blocks c h) where
      pub wrong-answer : test ≡ false → (h : ChangesetView) → ¬ (UnmarksCommit blocks c h)
      wrong-answer off h u =
          let same-view : h ≡ some.0 = some_is (sym (filled-is blocks t c h marks listed u) ∙ some.1) in
          let asked = unmarking-is_right blocks t c some.0 marks listed (subst (λ (x : ChangesetView). UnmarksCommit blocks c x) same-view u) narrow in
          true≢false (sym ((tests some.0 over some-over).1 (right-of blocks t c some.0 marks narrow listed its asked)) ∙ off)

      pub right-answer : test ≡ true → (h : ChangesetView) × UnmarksCommit blocks c h × IsMadeChangeset k.hg made h
      right-answer on =
          let right = (tests some.0 over some-over).0 on in
          (some.0, right-is_unmarking blocks t c some.0 marks narrow listed (asked-of blocks t c some.0 marks narrow listed its some.1 some.2 right), some.3)
