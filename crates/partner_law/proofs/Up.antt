-- The marked member of one that isn't plain isn't plain.
use Rattle.std.proofs.Common.{◌≡◌, true, List, [], ◌∷◌, map, Option, Some, None, refl, sym, ap, subst, ◌∙◌}
use Rattle.std.specs.Prelude.{◌&&◌, bytes_eq}
use Rattle.std.specs.List.{flat_map}
use Rattle.std.proofs.lemmas.Bool.{and_parts}
use Rattle.text_model.specs.Text.{Bytes}
use Rattle.text_model.specs.Id.{blob_id}
use Rattle.hg_model.specs.Changeset.{Plain}
use Rattle.pair_model.specs.Block.{Block, Parents}
use Rattle.pair_model.specs.User.{UserDate, user_of_line, line_of_user, message_of, description_of}
use Rattle.view_model.specs.View.{FileRevision, file_node, Row, files_among, compared_revision, ManifestParents, NoManifest, Over, manifest_node, ChangesetView, IsChangesetView, CommitView, SameChangeset, SameRows}
use Rattle.git_model.specs.Residue.{ResidueItem, carried}
use Rattle.pair_model.specs.Rule.{old_residue, carried_to, tree_row_with, author_by, ruled_rows, ruled_row, ruled_manifest, ruled_files, rule_changeset, tree_row_of}
use Rattle.pair_model.specs.MarkList.{marks_text, extras_of}
use Rattle.partner_model.specs.Mark.{same_meta, same_file_revision, entry_marks, commit_marks, parents_of_changeset, mark_commit, residue_in, first_residue, handed_on, changeset_marks}
use Rattle.partner_model.specs.Partner.{OfHg, OfGit, UnmarksCommit, AreChangesetParentsPaired, IsPlain}
use Rattle.partner_model.specs.Table.{IsTable}
use Rattle.unmark_law.proofs.Tables.{eq_true}
use Rattle.depth_law.proofs.Sizes.{no_text}
use Rattle.mark_law.proofs.Sections.{given_of}
use Rattle.unmark_law.proofs.CommitOne.{headers_are, author_is, message_is, parents_are}
use Rattle.unmark_law.proofs.TreeRows.{files_alike, files_with, ruled_with, marked_rows, marked_fit, residue_marked, first_old}
use Rattle.depth_law.proofs.PlainCommit.{IsRuled, ruled_from_none, parents_same, commit_few, committer_is, no_extras, marked_is, marked_over}
use Rattle.depth_law.proofs.Back.{description_back, flag_back, nil_front, nil_back, ruled_from}
use Rattle.depth_law.proofs.SameRows.{entries_same, manifest_same, files_same}
use Rattle.unmark_law.proofs.Same.{same_commit}
use Rattle.depth_law.proofs.Falls.{plain_is_bare}

-- ---- revisions that compare as one

meta_is : (a b : Option Bytes) → same_meta a b ≡ true → a ≡ b
meta_is None None e = refl
meta_is None (Some b) e = absurd cc
meta_is (Some a) None e = absurd cc
meta_is (Some a) (Some b) e = ap Some (eq_true a b e)

pub compared_is : (a b : FileRevision) → same_file_revision a b ≡ true → compared_revision a ≡ compared_revision b
compared_is a b e =
    let x = and_parts (bytes_eq (file_node a) (file_node b) && bytes_eq a.p b.p && bytes_eq a.q b.q && same_meta a.meta b.meta) (bytes_eq (blob_id a.body) (blob_id b.body)) e in
    let y = and_parts (bytes_eq (file_node a) (file_node b) && bytes_eq a.p b.p && bytes_eq a.q b.q) (same_meta a.meta b.meta) x.0 in
    let z = and_parts (bytes_eq (file_node a) (file_node b) && bytes_eq a.p b.p) (bytes_eq a.q b.q) y.0 in
    let w = and_parts (bytes_eq (file_node a) (file_node b)) (bytes_eq a.p b.p) z.0 in
    let n = eq_true (file_node a) (file_node b) w.0 in
    let p = eq_true a.p b.p w.1 in
    let q = eq_true a.q b.q z.1 in
    let m = meta_is a.meta b.meta y.1 in
    let o = eq_true (blob_id a.body) (blob_id b.body) x.1 in
    λ i. record { node = n i; p = p i; q = q i; meta = m i; body = o i }

-- rows without marks are, up to blob ids, those of the rule over their own bodies
rows_return : (ps : Parents) (hs : List Row) → flat_map (entry_marks ps) hs ≡ [] → SameRows (map (ruled_row ps) (map tree_row_of hs)) hs
rows_return ps [] e = tt
rows_return ps (h ∷ hs) e =
    let r = ruled_from ps h (nil_front (entry_marks ps h) (flat_map (entry_marks ps) hs) e) in
    let c = compared_is h.revision (ruled_row ps (tree_row_of h)).revision r in
    ((refl, flag_back h.flag, sym c), rows_return ps hs (nil_back (entry_marks ps h) (flat_map (entry_marks ps) hs) e))

-- ---- a changeset without marks is plain

changeset_over : (blocks : List Block) (ps : Parents) (d : CommitView) (h : ChangesetView) → ps.p ≡ h.p → ps.q ≡ h.q → SameRows (ruled_rows ps d.rows) h.rows → ruled_manifest ps (ruled_rows ps d.rows) ≡ h.manifest
    → manifest_node (ruled_manifest ps (ruled_rows ps d.rows)) (ruled_rows ps d.rows) ≡ (h.fields).manifest → (user_of_line (d.value).author).user ≡ (h.fields).user
    → Plain (user_of_line (d.value).author).time (user_of_line (d.value).author).tz (extras_of (changeset_marks d.value (description_of (d.value).message) (residue_in d.rows) (handed_on blocks (d.value).parents (ruled_rows ps d.rows)))) ≡ (h.fields).date
    → ruled_files ps (ruled_rows ps d.rows) ≡ (h.fields).files → description_of (d.value).message ≡ (h.fields).description → SameChangeset (marked_over blocks ps d) h
unfolding rule_changeset
changeset_over blocks ps d h p q rows manifest id user date files description = record {
  p = p;
  q = q;
  fields = λ i. record { manifest = id i; user = user i; date = date i; files = files i; description = description i };
  manifest = manifest;
  rows = rows;
}

manifest_node_same : (m : ManifestParents) (xs ys : List Row) → SameRows xs ys → manifest_node m xs ≡ manifest_node m ys
unfolding manifest_node
manifest_node_same NoManifest xs ys s = refl
manifest_node_same (Over p q) xs ys s = rw (entries_same xs ys s) refl

pub ruled_is_plain : (blocks : List Block) → IsTable blocks → (h : ChangesetView) → IsChangesetView h → AreChangesetParentsPaired blocks h → IsRuled (parents_of_changeset blocks h) h → marks_text (commit_marks (parents_of_changeset blocks h) h) ≡ [] → IsPlain blocks (OfHg h)
ruled_is_plain blocks t h v paired r texts =
    let ps : Parents = parents_of_changeset blocks h in
    let d = mark_commit blocks h in
    let over = parents_same blocks t d h v paired (same_commit d) in
    let given = given_of h in
    let line : (d.value).author ≡ author_by (h.fields).user (h.fields).date = author_is blocks h in
    let same : user_of_line (d.value).author ≡ given = ap user_of_line line in
    let message : (d.value).message ≡ message_of (h.fields).description = message_is blocks h in
    let description : description_of (d.value).message ≡ (h.fields).description = ap description_of message ∙ description_back (h.fields).description in
    let author : (d.value).author ≡ line_of_user (user_of_line (d.value).author).user (user_of_line (d.value).author).time (user_of_line (d.value).author).tz =
    line ∙ (λ i. author_by (r.user i) (r.date i)) ∙ ap (λ (x : UserDate). line_of_user x.user x.time x.tz) (sym same) in
    let items : List ResidueItem = carried_to blocks h in
    let files : files_among d.rows ≡ map (tree_row_with items) (map tree_row_of h.rows) = ap files_among (marked_rows blocks h) ∙ files_with items h.rows v.in_order in
    let rows : SameRows (ruled_rows (parents_of_changeset blocks h) d.rows) h.rows = subst (λ x. SameRows (map (ruled_row (parents_of_changeset blocks h)) x) h.rows) (sym files) (ruled_with ps items h.rows (marked_fit blocks h v.in_order) (rows_return ps h.rows r.entries)) in
    let old : first_residue blocks (d.value).parents ≡ old_residue blocks h.p = ap (first_residue blocks) (parents_are blocks h) ∙ first_old blocks t h.p h.q v.first paired in
    let residue : residue_in d.rows ≡ handed_on blocks (d.value).parents (ruled_rows (parents_of_changeset blocks h) d.rows) =
    residue_marked blocks t h d v.in_order (same_commit d) ∙ (λ i. carried (sym old i) (sym (files_alike (ruled_rows ps d.rows) h.rows rows) i)) in
    let extras = no_extras d.value (residue_in d.rows) (handed_on blocks (d.value).parents (ruled_rows (parents_of_changeset blocks h) d.rows)) (record {
      author = author;
      committer = committer_is blocks h;
      headers = headers_are blocks h ∙ texts;
      message = message ∙ ap message_of (sym description);
      parents = commit_few blocks d h (same_commit d);
    }) residue in
    let manifest : ruled_manifest (parents_of_changeset blocks h) (ruled_rows (parents_of_changeset blocks h) d.rows) ≡ h.manifest = manifest_same ps (ruled_rows ps d.rows) h.rows rows ∙ sym r.manifest in
    let id : manifest_node (ruled_manifest (parents_of_changeset blocks h) (ruled_rows (parents_of_changeset blocks h) d.rows)) (ruled_rows (parents_of_changeset blocks h) d.rows) ≡ (h.fields).manifest =
    ap (λ x. manifest_node x (ruled_rows (parents_of_changeset blocks h) d.rows)) manifest ∙ manifest_node_same h.manifest (ruled_rows ps d.rows) h.rows rows ∙ sym v.agrees in
    let named : ruled_files (parents_of_changeset blocks h) (ruled_rows (parents_of_changeset blocks h) d.rows) ≡ (h.fields).files = files_same ps (ruled_rows ps d.rows) h.rows rows ∙ sym r.files in
    let user : (user_of_line (d.value).author).user ≡ (h.fields).user = ap (λ (x : UserDate). x.user) same ∙ sym r.user in
    let date : Plain (user_of_line (d.value).author).time (user_of_line (d.value).author).tz (extras_of (changeset_marks d.value (description_of (d.value).message) (residue_in d.rows) (handed_on blocks (d.value).parents (ruled_rows (parents_of_changeset blocks h) d.rows)))) ≡ (h.fields).date =
    (λ i. Plain (same i).time (same i).tz (extras i)) ∙ sym r.date in
    let all = changeset_over blocks ps d h refl refl rows manifest id user date named description in
    (paired, subst (λ x. SameChangeset x h) (sym (marked_is blocks d ∙ ap (λ x. marked_over blocks x d) over)) all)

-- the unmarking of a plain commit is plain
pub plain_up_commit : (blocks : List Block) → IsTable blocks → (c : CommitView) (h : ChangesetView) → UnmarksCommit blocks c h → IsPlain blocks (OfGit c) → IsPlain blocks (OfHg h)
plain_up_commit blocks t c h u p =
    let none = plain_is_bare blocks (OfGit c) p in
    let texts = sym (headers_are blocks h) ∙ ap (λ x. x.headers) (u.marked).value ∙ none in
    ruled_is_plain blocks t h u.view u.paired (ruled_from_none (parents_of_changeset blocks h) h (no_text (commit_marks (parents_of_changeset blocks h) h) texts)) texts
