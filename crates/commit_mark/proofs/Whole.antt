-- The marks of a changeset, part behind part.
use Rattle.std.proofs.Common.{◌≡◌, List, ◌++◌, refl, sym, subst, ◌∙◌}
use Rattle.std.specs.List.{flat_map}
use Rattle.hg_model.specs.Changeset.{Changeset}
use Rattle.view_model.specs.View.{ChangesetView, IsChangesetView}
use Rattle.pair_model.specs.Block.{Parents}
use Rattle.pair_model.specs.Rule.{author_by}
use Rattle.pair_model.specs.User.{UserDate, user_of_line}
use Rattle.pair_model.specs.MarkList.{Mark}
use Rattle.partner_model.specs.Mark.{entry_marks, manifest_marks, files_marks, user_marks, date_marks, commit_marks}
use Rattle.mark_law.proofs.Listed.{marks_are_list}
use Rattle.commit_mark.specs.Parts.{BeginList}
use Rattle.commit_mark.proofs.Begun.{begin-front, begin-whole}

module _ (ps : Parents) (v : ChangesetView) where
  abbrev pub given : UserDate
  given = user_of_line (author_by (v.fields).user (v.fields).date)

  abbrev pub to_manifest : List Mark
  to_manifest = flat_map (entry_marks ps) v.rows ++ manifest_marks ps v

  abbrev pub to_files : List Mark
  to_files = to_manifest ++ files_marks ps v

  abbrev pub to_user : List Mark
  to_user = to_files ++ user_marks (v.fields).user given

  pub all-are : commit_marks ps v ≡ to_user ++ date_marks (v.fields).date given
  unfolding commit_marks
  all-are = refl

  module _ (view : IsChangesetView v) where
    pub begin-date : BeginList (to_user ++ date_marks (v.fields).date given)
    begin-date = subst BeginList all-are (begin-whole (commit_marks ps v) (marks_are_list ps v view))

    pub begin-user : BeginList to_user
    begin-user = begin-front to_user (date_marks (v.fields).date given) begin-date

    pub begin-files : BeginList to_files
    begin-files = begin-front to_files (user_marks (v.fields).user given) begin-user

    pub begin-manifest : BeginList to_manifest
    begin-manifest = begin-front to_manifest (files_marks ps v) begin-files

    pub begin-entries : BeginList (flat_map (entry_marks ps) v.rows)
    begin-entries = begin-front (flat_map (entry_marks ps) v.rows) (manifest_marks ps v) begin-manifest

-- what the line of the author gives back, by the fields of a draft
module _ (ps : Parents) (v : ChangesetView) (x : Changeset) (fields : v.fields ≡ x) (back : UserDate) (is : back ≡ user_of_line (author_by x.user x.date)) where
  back-is : back ≡ given ps v
  back-is = is ∙ (λ i. user_of_line (author_by (sym fields i).user (sym fields i).date))

  pub user-same : user_marks x.user back ≡ user_marks (v.fields).user (given ps v)
  user-same = λ i. user_marks (sym fields i).user (back-is i)

  pub date-same : date_marks x.date back ≡ date_marks (v.fields).date (given ps v)
  date-same = λ i. date_marks (sym fields i).date (back-is i)

-- one part more
pub next-part : (ms before front next more : List Mark) → ms ≡ before ++ next → before ≡ front → next ≡ more → ms ≡ front ++ more
next-part ms before front next more put a b = put ∙ (λ i. a i ++ b i)
