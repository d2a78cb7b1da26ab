-- An unmarking of a commit is the changeset that the commit's marks name.
use Rattle.std.proofs.Common.{◌≡◌, true, List, [], ◌∷◌, ◌++◌, map, Option, Some, refl, sym, ap, subst, ◌∙◌}
use Rattle.std.specs.Prelude.{option_map, unwrap_or}
use Rattle.std.specs.List.{flat_map, AllZip, filter_map}
use Rattle.text_model.specs.Lists.{rises}
use Rattle.text_model.specs.Text.{Bytes, is_below}
use Rattle.hg_model.specs.Changeset.{Plain}
use Rattle.view_model.specs.View.{Row, TreeRow, files_among, tree_paths, paths_of, manifest_node, ChangesetView, IsChangesetView, CommitView}
use Rattle.pair_model.specs.Block.{Block, Parents}
use Rattle.pair_model.specs.User.{UserDate, user_of_line, message_of, description_of}
use Rattle.pair_model.specs.Rule.{author_by}
use Rattle.pair_model.specs.MarkList.{Mark, AreHeadersOf}
use Rattle.partner_model.specs.Mark.{commit_marks, parents_of_changeset}
use Rattle.partner_model.specs.Partner.{UnmarksCommit, IsUnmarkedRow}
use Rattle.partner_model.specs.Table.{IsTable}
use Rattle.partner_model.specs.Filled.{user_mark, extra_mark, date_mark, first_mark, filled_rows, changeset_by_marks, filled_changeset}
use Rattle.mark_law.proofs.Marks.{marks_one}
use Rattle.mark_law.proofs.MarkTypes.{marks_are}
use Rattle.mark_law.proofs.Listed.{marks_are_list}
use Rattle.mark_law.proofs.Sections.{given_of, from_manifest, from_manifest_within}
use Rattle.unmark_law.proofs.CommitOne.{author_is, headers_are, message_is}
use Rattle.unmark_law.proofs.TreeRows.{IsFileOf, files_marked, residue_marked}
use Rattle.depth_law.proofs.Back.{description_back}
use Rattle.depth_law.proofs.PlainCommit.{committer_is, parents_same}
use Rattle.filled_law.specs.Fillings.{FilledIsUnmarking, UnmarkingIsRight}
use Rattle.filled_law.proofs.Walk.{walk, walked}
use Rattle.filled_law.proofs.MarkedRows.{rows-named}
use Rattle.filled_law.proofs.Parts.{starts-none, marks-are, manifest-filled, files-filled, user-filled, date-filled}

-- the paths of the commit's files are those of the changeset's
pub paths-are : (hs : List Row) (ts : List TreeRow) → AllZip IsFileOf hs ts → paths_of hs ≡ tree_paths ts
paths-are [] [] z = refl
paths-are [] (t ∷ ts) z = absurd z
paths-are (h ∷ hs) [] z = absurd z
paths-are (h ∷ hs) (t ∷ ts) z =
    let p = (z.0).path in
    let rest = paths-are hs ts z.1 in
    λ i. p i ∷ rest i

-- the marks of the commit are those of its unmarking
pub marks-same : (blocks : List Block) (c : CommitView) (h : ChangesetView) (ms : List Mark) → AreHeadersOf (c.value).headers ms → UnmarksCommit blocks c h → ms ≡ commit_marks (parents_of_changeset blocks h) h
marks-same blocks c h ms a u =
    let ps : Parents = parents_of_changeset blocks h in
    marks_one ms (commit_marks ps h) (a.0).0 (marks_are ps h u.view) (sym a.1 ∙ ap (λ x. x.headers) (sym (u.marked).value) ∙ headers_are blocks h)

-- the files that the marks name are those of the changeset
rows-filled : (ps : Parents) (h : ChangesetView) (ts : List TreeRow) → IsChangesetView h → AllZip IsFileOf h.rows ts → AllZip (IsUnmarkedRow ps) h.rows ts → filled_rows ps (commit_marks ps h) ts ≡ Some h.rows
rows-filled ps h ts view files bodies =
    let up : rises is_below (tree_paths ts) ≡ true = subst (λ (x : List Bytes). rises is_below x ≡ true) (paths-are h.rows ts files) view.in_order in
    sym (walked ps ts (commit_marks ps h) (marks_are_list ps h view).1 up)
    ∙ ap (λ ms. walk ps ms ts) (marks-are ps h)
    ∙ rows-named ps (from_manifest ps (given_of h) h) (starts-none (from_manifest ps (given_of h) h) 6 (from_manifest_within ps (given_of h) h)) h.rows ts view.in_order files bodies

pub line-is : (blocks : List Block) (c : CommitView) (h : ChangesetView) → UnmarksCommit blocks c h → (c.value).author ≡ author_by (h.fields).user (h.fields).date
line-is blocks c h u = ap (λ x. x.author) (sym (u.marked).value) ∙ author_is blocks h

pub message-of : (blocks : List Block) (c : CommitView) (h : ChangesetView) → UnmarksCommit blocks c h → (c.value).message ≡ message_of (h.fields).description
message-of blocks c h u = ap (λ x. x.message) (sym (u.marked).value) ∙ message_is blocks h

-- the parts that the marks name are the changeset's
by-marks : (ps : Parents) (c : CommitView) (h : ChangesetView) → ps.p ≡ h.p → ps.q ≡ h.q → IsChangesetView h → user_of_line (c.value).author ≡ given_of h → description_of (c.value).message ≡ (h.fields).description
    → changeset_by_marks ps c (commit_marks ps h) h.rows ≡ h
by-marks ps c h p q view line description =
    let manifest = manifest-filled ps h in
    let id = (λ i. manifest_node (manifest i) h.rows) ∙ sym view.agrees in
    let user = ap (λ (x : UserDate). unwrap_or (first_mark user_mark (commit_marks ps h)) x.user) line ∙ user-filled ps h in
    let extras = filter_map extra_mark (commit_marks ps h) in
    let date = ap (λ (x : UserDate). unwrap_or (first_mark (date_mark extras) (commit_marks ps h)) (Plain x.time x.tz extras)) line ∙ date-filled ps h in
    let files = files-filled ps h in
    λ i. record {
      p = p i;
      q = q i;
      fields = record { manifest = id i; user = user i; date = date i; files = files i; description = description i };
      manifest = manifest i;
      rows = h.rows;
    }

pub filled-is : (blocks : List Block) → IsTable blocks → FilledIsUnmarking blocks
unfolding filled_changeset
filled-is blocks t c h ms a u =
    let ps : Parents = parents_of_changeset blocks h in
    let same = marks-same blocks c h ms a u in
    let over = parents_same blocks t c h u.view u.paired u.marked in
    let files = files_marked blocks h c (u.view).in_order u.marked in
    let rows = rows-filled ps h (files_among c.rows) u.view files u.bodies in
    let given : user_of_line (c.value).author ≡ given_of h = ap user_of_line (line-is blocks c h u) in
    let description : description_of (c.value).message ≡ (h.fields).description = ap description_of (message-of blocks c h u) ∙ description_back (h.fields).description in
    (λ i. option_map (changeset_by_marks (over i) c (same i)) (filled_rows (over i) (same i) (files_among c.rows)))
    ∙ ap (option_map (changeset_by_marks ps c (commit_marks ps h))) rows
    ∙ ap Some (by-marks ps c h refl refl u.view given description)

pub unmarking-is_right : (blocks : List Block) → IsTable blocks → UnmarkingIsRight blocks
unmarking-is_right blocks t c h ms a u narrow = record {
  filled = filled-is blocks t c h ms a u;
  residue = residue_marked blocks t h c (u.view).in_order u.marked;
  view = u.view;
  no_link = u.no_link;
  marks_are = marks-same blocks c h ms a u;
  author = line-is blocks c h u;
  committer = ap (λ x. x.committer) (sym (u.marked).value) ∙ committer_is blocks h ∙ ap (λ x. x.author) (u.marked).value;
  message = message-of blocks c h u;
}
