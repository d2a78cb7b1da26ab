-- The marked changeset of a commit, put together of the one that the rule gives and of extras.
use Rattle.std.proofs.Common.{◌≡◌, ◌≤◌, ◌++◌, List, [], ◌∷◌, length, length-append, refl, sym, ap, subst, ◌∙◌, arith}
use Rattle.std.specs.List.{flat_map}
use Rattle.text_model.specs.Lists.{Each}
use Rattle.text_model.specs.Text.{Bytes, line, lf, sp, signed_decimal}
use Rattle.text_model.specs.Id.{hex}
use Rattle.hg_model.specs.Changeset.{Extra, IsChangeset, AreExtras, date_text, plain_date_text, extras_text, changeset_text}
use Rattle.hg_model.specs.Revision.{Revision}
use Rattle.git_model.specs.Commit.{Commit}
use Rattle.view_model.specs.View.{ChangesetView, CommitView, ChangesetFits}
use Rattle.pair_model.specs.Block.{Block}
use Rattle.pair_model.specs.MarkList.{ChangesetMarks, extras_of, AreExtrasOf}
use Rattle.pair_model.specs.Plain.{changeset_by_rule}
use Rattle.pair_model.specs.Rule.{rule_changeset}
use Rattle.pair_model.specs.User.{UserDate, user_of_line}
use Rattle.pair_known.specs.Ruled.{IsMadeChangeset, IsRuledChangeset, HasFileParents, HasManifestParents}
use Rattle.pair_known.specs.declared.known.Known.{Known}
use Rattle.pair_known.specs.declared.git_draft.GitDraft.{GitDraft}
use Rattle.pair_known.specs.declared.hg_draft.HgDraft.{HgDraft}
use Rattle.pair_known.specs.Over.{IsCommitOver}
use Rattle.changeset_rule.proofs.RuledLemmas.{has-parents, ruled}
use Rattle.changeset_rule.proofs.ViewLemmas.{date-plain}
use Rattle.partner_model.specs.Mark.{with_extras, mark_changeset}
use Rattle.mark_law.proofs.MarkExtras.{marks-extras}
use Rattle.changeset_mark.specs.Marks.{marks_over, HasDateOf}

-- ---- the changeset with extras

marked-is : (blocks : List Block) (v : CommitView) → mark_changeset blocks v ≡ with_extras (changeset_by_rule blocks v) (user_of_line (v.value).author) (extras_of (marks_over blocks v))
unfolding mark_changeset rule_changeset
marked-is blocks v = refl

pub marked-by : (blocks : List Block) (v : CommitView) (given : UserDate) (extras : List Extra) → given ≡ user_of_line (v.value).author → extras ≡ extras_of (marks_over blocks v)
    → with_extras (changeset_by_rule blocks v) given extras ≡ mark_changeset blocks v
marked-by blocks v given extras g e = (λ i. with_extras (changeset_by_rule blocks v) (g i) (e i)) ∙ sym (marked-is blocks v)

ruled-date : (blocks : List Block) (v : CommitView) → HasDateOf (user_of_line (v.value).author) (changeset_by_rule blocks v)
unfolding rule_changeset
ruled-date blocks v = record { date = refl; plain = date-plain (v.value).author }

pub date-of : (blocks : List Block) (v : CommitView) (given : UserDate) → given ≡ user_of_line (v.value).author → HasDateOf given (changeset_by_rule blocks v)
date-of blocks v given g = subst (λ (x : UserDate). HasDateOf x (changeset_by_rule blocks v)) (sym g) (ruled-date blocks v)

-- ---- with extras

-- the extras of marks have the form of extras
pub are-extras : (extras : List Extra) (m : ChangesetMarks) → AreExtrasOf extras m → AreExtras extras
are-extras extras m are = subst AreExtras (sym are.1) (marks-extras m are.0)

module _ (h : ChangesetView) (given : UserDate) (has : HasDateOf given h) (extras : List Extra) (are : AreExtras extras) where
  fields-with : IsChangeset h.fields → IsChangeset (with_extras h given extras).fields
  fields-with is = record {
    manifest = is.manifest;
    user = is.user;
    date = record { time_low = has.plain.time_low; time_high = has.plain.time_high; tz_low = has.plain.tz_low; tz_high = has.plain.tz_high; items = are };
    files = is.files;
    description = is.description;
  }

  -- ---- limits

  longer : (front date more files rest : Bytes) → length date ≤ length more → length (front ++ line date ++ files ++ rest) ≤ length (front ++ line more ++ files ++ rest)
  longer front date more files rest le =
      omega (
        arith,
        le,
        length-append (front ++ line date ++ files) rest,
        length-append (front ++ line date) files,
        length-append front (line date),
        length-append date (lf ∷ []),
        length-append (front ++ line more ++ files) rest,
        length-append (front ++ line more) files,
        length-append front (line more),
        length-append more (lf ∷ []),
      )

  longer-date : (es : List Extra) → length (plain_date_text given.time given.tz []) ≤ length (plain_date_text given.time given.tz es)
  longer-date [] = omega arith
  longer-date (e ∷ es) = omega (arith, length-append (signed_decimal given.time ++ sp ∷ signed_decimal given.tz) (sp ∷ extras_text (e ∷ es)))

  -- what is within its limits with extras is so without them
  pub fits-without : ChangesetFits (with_extras h given extras) → ChangesetFits h
  unfolding changeset_text
  fits-without fits =
      let date : length (date_text (h.fields).date) ≤ length (plain_date_text given.time given.tz extras) =
      subst (λ (d : Bytes). length d ≤ length (plain_date_text given.time given.tz extras)) (ap date_text (sym has.date)) (longer-date extras) in
      let text = longer (line (hex (h.fields).manifest) ++ line (h.fields).user) (date_text (h.fields).date) (plain_date_text given.time given.tz extras) (flat_map line (h.fields).files) (lf ∷ (h.fields).description) date in
      record { text = omega (arith, text, fits.text); manifest = fits.manifest; files = fits.files }

  pub ruled-with : (known : List Revision) (plain d : HgDraft) → IsRuledChangeset known plain h → IsMadeChangeset known d (with_extras h given extras) → ChangesetFits (with_extras h given extras)
      → IsRuledChangeset known d (with_extras h given extras)
  ruled-with known plain d ruled made fits = record {
    made = made;
    file_parents = ruled.file_parents;
    manifest_parents = ruled.manifest_parents;
    fits = fits;
    view = record {
      parents = ruled.view.parents;
      first = ruled.view.first;
      distinct = ruled.view.distinct;
      fields = fields-with ruled.view.fields;
      manifest = ruled.view.manifest;
      rows = ruled.view.rows;
      in_order = ruled.view.in_order;
      agrees = ruled.view.agrees;
    };
  }

-- ---- the whole

module _ (k : Known) (blocks : List Block) (d : GitDraft) (v : CommitView) (over : IsCommitOver k blocks d v) (given : UserDate) (given-is : given ≡ user_of_line (d.commit).author)
    (extras : List Extra) (marks : ChangesetMarks) (are : AreExtrasOf extras marks) (marks-are : marks ≡ marks_over blocks v)
    (plain marked : HgDraft) (made : IsMadeChangeset k.hg plain (changeset_by_rule blocks v))
    (with : (known : List Revision) (h : ChangesetView) → IsMadeChangeset known plain h → HasDateOf given h → IsMadeChangeset known marked (with_extras h given extras)) where
  line-is : given ≡ user_of_line (v.value).author
  line-is = given-is ∙ ap (λ (x : Commit). user_of_line x.author) (sym over.draft.value)

  same : with_extras (changeset_by_rule blocks v) given extras ≡ mark_changeset blocks v
  same = marked-by blocks v given extras line-is (are.1 ∙ ap extras_of marks-are)

  dated-made : IsMadeChangeset k.hg marked (with_extras (changeset_by_rule blocks v) given extras)
  dated-made = with k.hg (changeset_by_rule blocks v) made (date-of blocks v given line-is)

  -- the draft is that of the marked changeset
  pub marked-made : IsMadeChangeset k.hg marked (mark_changeset blocks v)
  marked-made = subst (IsMadeChangeset k.hg marked) same dated-made

  -- the parents of its revisions are known
  pub marked-parents : Each (HasFileParents k.hg) (mark_changeset blocks v).rows × HasManifestParents k.hg (mark_changeset blocks v).manifest
  marked-parents = subst (λ (h : ChangesetView). Each (HasFileParents k.hg) h.rows × HasManifestParents k.hg h.manifest) same (has-parents k blocks d v over)

  -- within its limits it is right in all, where the commit has two parents at most
  pub marked-ruled : length (v.value).parents ≤ 2 → AreExtras extras → ChangesetFits (mark_changeset blocks v) → IsRuledChangeset k.hg marked (mark_changeset blocks v)
  marked-ruled few items fits =
      let h = changeset_by_rule blocks v in
      let has = date-of blocks v given line-is in
      let within = subst ChangesetFits (sym same) fits in
      let right = ruled k blocks d v over few plain made (fits-without h given has extras items within) in
      subst (IsRuledChangeset k.hg marked) same (ruled-with h given has extras items k.hg plain marked right dated-made within)
