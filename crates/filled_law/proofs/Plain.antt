-- A commit without headers has an unmarking exactly where it is plain, and that is the changeset of the rule.
use Rattle.std.proofs.Common.{◌≡◌, ◌≤◌, Bool, true, false, List, [], ◌∷◌, ◌++◌, length, map, Option, Some, None, refl, sym, ap, subst, ◌∙◌}
use Rattle.std.specs.Prelude.{◌&&◌, ◌==◌, not, bytes_eq, if◌then◌else◌, option_map}
use Rattle.std.specs.List.{flat_map, AllZip}
use Rattle.text_model.specs.Lists.{Each}
use Rattle.text_model.specs.Text.{Bytes}
use Rattle.text_model.specs.Id.{is_null}
use Rattle.text_model.proofs.Options.{some_is}
use Rattle.hg_model.specs.Changeset.{Plain}
use Rattle.view_model.specs.View.{Row, TreeRow, files_among, ChangesetView, CommitView, SameCommit}
use Rattle.pair_model.specs.Block.{Block, Parents, not_null}
use Rattle.pair_model.specs.User.{UserDate, user_of_line}
use Rattle.pair_model.specs.Octopus.{link_user, link_description, is_link, is_link_view, parents_of_commit}
use Rattle.pair_model.specs.Plain.{changeset_by_rule}
use Rattle.pair_model.specs.Rule.{author_by, ruled_row, rule_commit, rule_changeset}
use Rattle.pair_model.specs.MarkList.{Mark, marks_text, AreHeadersOf}
use Rattle.partner_model.specs.Mark.{commit_marks, parents_of_changeset, mark_commit, with_headers}
use Rattle.partner_model.specs.Partner.{IsUnmarkedRow, UnmarksCommit}
use Rattle.partner_model.specs.Table.{IsTable}
use Rattle.partner_model.specs.Filled.{filled_row, all_some, filled_changeset}
use Rattle.unmark_law.proofs.ChangesetOne.{IsFileRow, file_rows}
use Rattle.depth_law.proofs.PlainCommit.{commit_few}
use Rattle.depth_law.proofs.PlainChangeset.{no_marks, no_marks_text}
use Rattle.partner_law.proofs.Given.{row_ruled, no_marks_again}
use Rattle.filled_law.specs.Fillings.{PlainIsUnmarked, UnmarkedIsPlain}
use Rattle.unmark_law.proofs.Tables.{HasNode}
use Rattle.filled_law.proofs.Filled.{filled-is, marks-same}
use Rattle.filled_law.proofs.Right.{over-named, parents-paired}

-- ---- a changeset without marks

no-headers : (blocks : List Block) (h : ChangesetView) → commit_marks (parents_of_changeset blocks h) h ≡ [] → mark_commit blocks h ≡ rule_commit blocks h
unfolding mark_commit rule_commit
no-headers blocks h none = ap (with_headers (rule_commit blocks h)) (ap marks_text none ∙ no_marks_text)

-- ---- what no marks name

all-ruled : (ps : Parents) (ts : List TreeRow) → all_some (map (filled_row ps []) ts) ≡ Some (map (ruled_row ps) ts)
all-ruled ps [] = refl
all-ruled ps (t ∷ ts) = ap (option_map (λ more. ruled_row ps t ∷ more)) (all-ruled ps ts)

ruled-filled : (blocks : List Block) (c : CommitView) → filled_changeset blocks c [] ≡ Some (changeset_by_rule blocks c)
unfolding filled_changeset rule_changeset
ruled-filled blocks c = rw (all-ruled (parents_of_commit blocks c) (files_among c.rows)) refl

no-list : AreHeadersOf [] []
no-list = ((tt, refl), sym no_marks_text)

pub unmarked-is_plain : (blocks : List Block) → IsTable blocks → UnmarkedIsPlain blocks
unmarked-is_plain blocks t c h none u =
    let list : AreHeadersOf (c.value).headers [] = subst (λ (x : Bytes). AreHeadersOf x []) (sym none) no-list in
    let same : changeset_by_rule blocks c ≡ h = some_is (sym (ruled-filled blocks c) ∙ filled-is blocks t c h [] list u) in
    let marks : commit_marks (parents_of_changeset blocks h) h ≡ [] = sym (marks-same blocks c h [] list u) in
    record {
      few = commit_few blocks c h u.marked;
      back = subst (λ (x : ChangesetView). SameCommit (rule_commit blocks x) c) (sym same) (subst (λ (x : CommitView). SameCommit x c) (no-headers blocks h marks) u.marked);
    }

-- ---- the changeset of the rule

rule-link : (blocks : List Block) (c : CommitView) → is_link_view (changeset_by_rule blocks c) ≡ false
unfolding rule_changeset is_link
rule-link blocks c =
    let h = changeset_by_rule blocks c in
    by (is_null h.p) (is_null h.q) (bytes_eq (h.fields).user link_user) (length (h.fields).files == 0) (bytes_eq (h.fields).description link_description)
  where
    by : (a b c d e : Bool) → (not a && not b && c && false && d && e) ≡ false
    by true b c d e = refl
    by false true c d e = refl
    by false false true d e = refl
    by false false false d e = refl

rule-marks : (ps : Parents) (c : CommitView) → Each IsFileRow (files_among c.rows) → author_by ((rule_changeset ps c).fields).user ((rule_changeset ps c).fields).date ≡ (c.value).author → commit_marks ps (rule_changeset ps c) ≡ []
unfolding rule_changeset
rule-marks ps c files line =
    let back = ap user_of_line line in
    no_marks ps (rule_changeset ps c) (no_marks_again ps (files_among c.rows) files) refl refl (ap (λ (x : UserDate). x.user) (sym back)) (ap (λ (x : UserDate). Plain x.time x.tz []) (sym back))

record IsRuleOf (blocks : List Block) (c : CommitView) (h : ChangesetView) : Type 0 where
  pub p : h.p ≡ (parents_of_commit blocks c).p
  pub q : h.q ≡ (parents_of_commit blocks c).q
  pub rows : h.rows ≡ map (ruled_row (parents_of_commit blocks c)) (files_among c.rows)

rule-of : (blocks : List Block) (c : CommitView) → IsRuleOf blocks c (changeset_by_rule blocks c)
unfolding rule_changeset
rule-of blocks c = record { p = refl; q = refl; rows = refl }

rule-line : (blocks : List Block) (h : ChangesetView) → ((rule_commit blocks h).value).author ≡ author_by (h.fields).user (h.fields).date
unfolding rule_commit
rule-line blocks h = refl

ruled-bodies : (ps : Parents) (ts : List TreeRow) → Each IsFileRow ts → AllZip (IsUnmarkedRow ps) (map (ruled_row ps) ts) ts
ruled-bodies ps [] f = tt
ruled-bodies ps (t ∷ ts) f = (rw (row_ruled ps t f.0) refl, ruled-bodies ps ts f.1)

pub plain-is_unmarked : (blocks : List Block) → IsTable blocks → PlainIsUnmarked blocks
plain-is_unmarked blocks t c narrow plain view =
    let files = file_rows c.rows (narrow.view).rows in
    let ps : Parents = parents_of_commit blocks c in
    let is : IsRuleOf blocks c (changeset_by_rule blocks c) = rule-of blocks c in
    let over : parents_of_commit blocks c ≡ parents_of_changeset blocks (changeset_by_rule blocks c) = over-named blocks c narrow.few (changeset_by_rule blocks c) is.p is.q in
    let line = sym (rule-line blocks (changeset_by_rule blocks c)) ∙ ap (λ x. x.author) (plain.back).value in
    let none : commit_marks (parents_of_changeset blocks (changeset_by_rule blocks c)) (changeset_by_rule blocks c) ≡ [] = ap (λ ps. commit_marks ps (changeset_by_rule blocks c)) (sym over) ∙ rule-marks (parents_of_commit blocks c) c files line in
    record {
      view = view;
      no_link = rule-link blocks c;
      paired = subst (λ (x : Parents). Each (HasNode blocks) (not_null (x.p ∷ x.q ∷ []))) over (parents-paired blocks c narrow.few t narrow.paired);
      marked = subst (λ (x : CommitView). SameCommit x c) (sym (no-headers blocks (changeset_by_rule blocks c) none)) plain.back;
      bodies = subst (λ (rows : List Row). AllZip (IsUnmarkedRow (parents_of_changeset blocks (changeset_by_rule blocks c))) rows (files_among c.rows)) (sym is.rows) (subst (λ (x : Parents). AllZip (IsUnmarkedRow x) (map (ruled_row ps) (files_among c.rows)) (files_among c.rows)) over (ruled-bodies ps (files_among c.rows) files));
    }
