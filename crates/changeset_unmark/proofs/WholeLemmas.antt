-- What an unmarking over given parents says of all unmarkings.
use Rattle.std.proofs.Common.{◌≡◌, List, Option, Some, None, refl, sym, ap, subst, ◌∙◌}
use Rattle.std.specs.Prelude.{MatchOption}
use Rattle.text_model.specs.Lists.{Each}
use Rattle.text_model.specs.Id.{Id}
use Rattle.git_store.specs.Known.{AreKnown}
use Rattle.hg_store.specs.Known.{AreAdded}
use Rattle.hg_model.specs.Changeset.{Changeset, DateLine}
use Rattle.mark_code.specs.Values.{changeset_marks}
use Rattle.mark_code.specs.declared.changeset_marks.ChangesetMarks as code
use Rattle.pair_model.specs.User.{user_of_line}
use Rattle.unmark_law.proofs.ChangesetOne.{marks_in, marks_are, date_is}
use Rattle.view_model.specs.View.{ChangesetView, CommitView}
use Rattle.pair_model.specs.Block.{Block, Parents, block_of_node}
use Rattle.pair_model.specs.MarkList.{ChangesetMarks}
use Rattle.pair_model.specs.Octopus.{links_of, parents_of_commit}
use Rattle.partner_model.specs.Partner.{UnmarksChangeset, IsHeldView, IsKnownAs}
use Rattle.pair_known.specs.declared.known.Known.{Known}
use Rattle.pair_known.specs.declared.hg_draft.HgDraft.{HgDraft}
use Rattle.pair_known.specs.declared.git_draft.GitDraft.{GitDraft}
use Rattle.pair_known.specs.Ruled.{IsMadeCommit}
use Rattle.commit_rule.specs.Parts.{AreShortBodies}
use Rattle.commit_rule.proofs.RuledLemmas.{some-old, asked-with}
use Rattle.changeset_unmark.specs.Drafts.{IsBuiltCommit}
use Rattle.changeset_unmark.specs.Heads.{IsDateOf}
use Rattle.changeset_unmark.specs.Over.{IsNamedOver}
use Rattle.changeset_unmark.specs.Named.{count_of, commit_named, IsNamed}
use Rattle.changeset_unmark.proofs.Built.{unmarks}
use Rattle.changeset_unmark.proofs.Found.{comes_back}
use Rattle.changeset_unmark.proofs.OverLemmas.{items-right}

-- what is answered over given parents
abbrev pub OverAnswer : Known → List Block → ChangesetView → List Id → Parents → ChangesetMarks → Option GitDraft → Type 0
OverAnswer k blocks v ids ps m found =
    MatchOption found (¬ (IsNamed blocks ids ps v m)) (λ d. IsNamed blocks ids ps v m × IsBuiltCommit k.git d (commit_named blocks ids v m) × (AreShortBodies v.rows → IsMadeCommit k.git d (commit_named blocks ids v m)))

-- what is answered of the changeset
abbrev pub Answer : Known → List Block → ChangesetView → Option GitDraft → Type 0
Answer k blocks v found =
    MatchOption found ((c : CommitView) → ¬ (UnmarksChangeset blocks (IsHeldView k.hg) v c)) (λ d. (c : CommitView) × UnmarksChangeset blocks (IsHeldView k.hg) v c × IsBuiltCommit k.git d c × (AreShortBodies v.rows → IsMadeCommit k.git d c))

module _ (k : Known) (added : AreAdded k.hg) (blocks : List Block) (d : HgDraft) (v : ChangesetView) (ids : List Id) (node : Id) (ps : Parents) (over : IsNamedOver k blocks d v ids node ps)
    (m : ChangesetMarks) (date : IsDateOf (v.fields).date m) (count : count_of ids ≡ m.parents) (known : (b : Block) → block_of_node blocks node ≡ Some b → AreKnown k.git) where
  -- over the parents that the commit has
  pub answer-over : ((c : CommitView) → (c.value).parents ≡ ids → parents_of_commit blocks c ≡ ps) → (IsNamed blocks ids ps v m → Each (IsKnownAs (IsHeldView k.hg)) (links_of blocks (commit_named blocks ids v m)))
      → ((c : CommitView) → UnmarksChangeset blocks (IsHeldView k.hg) v c → (c.value).parents ≡ ids) → (found : Option GitDraft) → OverAnswer k blocks v ids ps m found → Answer k blocks v found
  answer-over parents walked only None none = λ c u. none
      (subst (λ (xs : List Id). IsNamed blocks xs ps v m) (only c u) (comes_back blocks (IsHeldView k.hg) v over.inside.view m date c u ps (parents c (only c u))))
  answer-over parents walked only (Some made) some =
      let old = some-old blocks node in
      let fit = items-right k added blocks d v ids node ps over old.0 old.1 (asked-with k blocks node known old.0 old.1) m.tree date.3.tree some.0.residue.fit in
      let c = commit_named blocks ids v m in (
        commit_named blocks ids v m,
        unmarks blocks (IsHeldView k.hg) v over.inside.view m date ids ps fit (parents (commit_named blocks ids v m) refl) over.parents.0 over.parents.1 over.paired over.few over.distinct count (walked some.0) some.0,
        some.1,
        some.2,
      )

-- ---- the date line of a changeset that has an unmarking

pub unmarked-date : (blocks : List Block) (KnownView : ChangesetView → Type 0) (v : ChangesetView) (c : CommitView) → UnmarksChangeset blocks KnownView v c → IsDateOf (v.fields).date (marks_in blocks c)
unmarked-date blocks KnownView v c u = (
  (user_of_line (c.value).author).time,
  (user_of_line (c.value).author).tz,
  sym (ap (λ (x : Changeset). x.date) (u.marked).fields) ∙ date_is blocks c,
  marks_are blocks c u.view,
)

pub marks-none : (date : DateLine) (o : Option code.ChangesetMarks) → o ≡ None → MatchOption o ((m : ChangesetMarks) → ¬ (IsDateOf date m)) (λ (marks : code.ChangesetMarks). IsDateOf date (changeset_marks marks)) → (m : ChangesetMarks) → ¬ (IsDateOf date m)
marks-none date o e h = subst (λ (x : Option code.ChangesetMarks). MatchOption x ((m : ChangesetMarks) → ¬ (IsDateOf date m)) (λ (marks : code.ChangesetMarks). IsDateOf date (changeset_marks marks))) e h
