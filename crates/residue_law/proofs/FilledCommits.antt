-- An unmarking of a changeset is the commit that its marks name.
use Rattle.std.proofs.Common.{◌≡◌, Bool, true, false, List, [], ◌∷◌, map, Option, Some, None, refl, sym, ap, ◌∙◌}
use Rattle.std.specs.Prelude.{unwrap_or, option_map, IsTrue, if◌then◌else◌, bytes_eq}
use Rattle.std.specs.List.{list_all}
use Rattle.text_model.specs.Lists.{Each}
use Rattle.text_model.specs.Text.{Bytes}
use Rattle.text_model.specs.Path.{is_fit_path}
use Rattle.git_model.specs.Residue.{ResidueItem, fits}
use Rattle.view_model.specs.View.{ChangesetView, CommitView, root_of_rows}
use Rattle.pair_model.specs.Block.{Block}
use Rattle.pair_model.specs.User.{user_of_line, line_of_user, message_of, description_of}
use Rattle.pair_model.specs.MarkList.{ChangesetMarks}
use Rattle.pair_model.specs.Rule.{author_by, tree_row_of, tree_rows_with}
use Rattle.partner_model.specs.Mark.{part_unless, residue_in, handed_on, changeset_marks, mark_changeset}
use Rattle.partner_model.specs.Partner.{UnmarksChangeset}
use Rattle.partner_model.specs.Filled.{HasMarks, files_in, are_items_right, residue_of_marks, commit_by_marks, filled_commit}
use Rattle.residue_law.specs.Residues.{CommitIsFilled}
use Rattle.unmark_law.proofs.Tables.{eq_true}
use Rattle.unmark_law.proofs.ChangesetOne.{marks_in, user_is, date_is, description_is}
use Rattle.residue_law.proofs.Fits.{marks_read, residue_read, residue_fits, rows_read, items_fit}

all_true : {X : Type 0} (f : X → Bool) (xs : List X) → Each (λ x. IsTrue (f x)) xs → list_all f xs ≡ true
all_true f [] h = refl
all_true f (x ∷ xs) h = rw (h.0, all_true f xs h.1) refl

-- a part is the marked one, or else the given one
part_back : (a g : Bytes) → unwrap_or (part_unless a g) g ≡ a
part_back a g = by (bytes_eq a g) refl
  where
    by : (t : Bool) → bytes_eq a g ≡ t → unwrap_or (if t then None else Some a) g ≡ a
    by true e = sym (eq_true a g e)
    by false e = refl

author_is : (blocks : List Block) (c : CommitView) → (marks_in blocks c).author ≡ part_unless (c.value).author (line_of_user (user_of_line (c.value).author).user (user_of_line (c.value).author).time (user_of_line (c.value).author).tz)
unfolding changeset_marks
author_is blocks c = refl

committer_is : (blocks : List Block) (c : CommitView) → (marks_in blocks c).committer ≡ part_unless (c.value).committer (c.value).author
unfolding changeset_marks
committer_is blocks c = refl

headers_are : (blocks : List Block) (c : CommitView) → (marks_in blocks c).headers ≡ part_unless (c.value).headers []
unfolding changeset_marks
headers_are blocks c = refl

message_is : (blocks : List Block) (c : CommitView) → (marks_in blocks c).message ≡ part_unless (c.value).message (message_of (description_of (c.value).message))
unfolding changeset_marks
message_is blocks c = refl

-- the items that are named are right, and they are the commit's
residue_right : (blocks : List Block) (Known : ChangesetView → Type 0) (h : ChangesetView) (c : CommitView) (m : ChangesetMarks) → HasMarks h m → UnmarksChangeset blocks Known h c
    → residue_of_marks blocks (c.value).parents h.rows m.tree ≡ Some (residue_in c.rows)
residue_right blocks Known h c m k u = by m.tree refl
  where
    by : (o : Option (List ResidueItem)) → m.tree ≡ o → residue_of_marks blocks (c.value).parents h.rows o ≡ Some (residue_in c.rows)
    by None e = ap Some (sym (residue_read blocks Known h c m k u ∙ ap (λ x. unwrap_or x (handed_on blocks (c.value).parents h.rows)) e))
    by (Some items) e =
        let fit = items_fit blocks Known h c m items k e u in
        let a : list_all (fits (files_in h.rows)) items ≡ true = all_true (fits (files_in h.rows)) items (residue_fits blocks Known h c m items k e u) in
        let b : list_all (λ i. is_fit_path i.path) items ≡ true = all_true (λ (i : ResidueItem). is_fit_path i.path) items fit.paths in
        let right : are_items_right (files_in h.rows) items ≡ true = rw (a, b, fit.no_clash) refl in
        ap (λ t. if t then Some items else None) right ∙ ap Some (sym (residue_read blocks Known h c m k u ∙ ap (λ x. unwrap_or x (handed_on blocks (c.value).parents h.rows)) e))

pub commit_filled : (blocks : List Block) (Known : ChangesetView → Type 0) → CommitIsFilled blocks Known
unfolding filled_commit
commit_filled blocks Known h c m k u =
    let read : marks_in blocks c ≡ m = marks_read blocks Known h c m k u in
    let fields : h.fields ≡ (mark_changeset blocks c).fields = sym (u.marked).fields in
    let user = ap (λ x. x.user) fields ∙ user_is blocks c in
    let date = ap (λ x. x.date) fields ∙ date_is blocks c in
    let description : (h.fields).description ≡ description_of (c.value).message = ap (λ x. x.description) fields ∙ description_is blocks c in
    let line : Bytes = line_of_user (user_of_line (c.value).author).user (user_of_line (c.value).author).time (user_of_line (c.value).author).tz in
    let given : author_by (h.fields).user (h.fields).date ≡ line = λ i. author_by (user i) (date i) in
    let marked : m.author ≡ part_unless (c.value).author line = ap (λ (x : ChangesetMarks). x.author) (sym read) ∙ author_is blocks c in
    let author : unwrap_or m.author (author_by (h.fields).user (h.fields).date) ≡ (c.value).author = (λ i. unwrap_or (marked i) (given i)) ∙ part_back (c.value).author line in
    let second : m.committer ≡ part_unless (c.value).committer (c.value).author = ap (λ (x : ChangesetMarks). x.committer) (sym read) ∙ committer_is blocks c in
    let committer : unwrap_or m.committer (unwrap_or m.author (author_by (h.fields).user (h.fields).date)) ≡ (c.value).committer =
    (λ i. unwrap_or (second i) (author i)) ∙ part_back (c.value).committer (c.value).author in
    let headers : unwrap_or m.headers [] ≡ (c.value).headers = ap (λ (x : ChangesetMarks). unwrap_or x.headers []) (sym read) ∙ ap (λ x. unwrap_or x []) (headers_are blocks c) ∙ part_back (c.value).headers [] in
    let fourth : m.message ≡ part_unless (c.value).message (message_of (description_of (c.value).message)) = ap (λ (x : ChangesetMarks). x.message) (sym read) ∙ message_is blocks c in
    let message : unwrap_or m.message (message_of (h.fields).description) ≡ (c.value).message =
    (λ i. unwrap_or (fourth i) (message_of (description i))) ∙ part_back (c.value).message (message_of (description_of (c.value).message)) in
    let rows : tree_rows_with (residue_in c.rows) (map tree_row_of h.rows) ≡ c.rows =
    ap (λ x. tree_rows_with x (map tree_row_of h.rows)) (residue_read blocks Known h c m k u) ∙ sym (rows_read blocks Known h c m k u) in
    let tree : root_of_rows (tree_rows_with (residue_in c.rows) (map tree_row_of h.rows)) ≡ (c.value).tree_id = ap root_of_rows rows ∙ sym (u.view).agrees in
    let whole : commit_by_marks (c.value).parents h m (residue_in c.rows) ≡ c = λ i. record {
      value = record { tree_id = tree i; parents = (c.value).parents; author = author i; committer = committer i; headers = headers i; message = message i };
      rows = rows i;
    } in
    ap (option_map (commit_by_marks (c.value).parents h m)) (residue_right blocks Known h c m k u) ∙ ap Some whole
