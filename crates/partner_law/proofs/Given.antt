-- A commit all of whose parts are the given ones is plain.
use Rattle.std.proofs.Common.{◌≡◌, ◌≤◌, Bool, true, false, List, [], ◌∷◌, ◌++◌, length, map, Option, Some, None, refl, sym, ap, ◌∙◌}
use Rattle.std.specs.Prelude.{if◌then◌else◌, bytes_eq, unwrap_or}
use Rattle.std.specs.List.{flat_map}
use Rattle.std.specs.Option.{option_or}
use Rattle.std.proofs.lemmas.List.{length-map}
use Rattle.text_model.specs.Lists.{Each}
use Rattle.text_model.specs.Text.{Bytes}
use Rattle.text_model.specs.Id.{Id, blob_id}
use Rattle.hg_model.specs.Changeset.{Plain}
use Rattle.pair_model.specs.Block.{Block, git_partner, hg_partner, not_null, changesets_in, Parents, parents_among}
use Rattle.pair_model.specs.User.{UserDate, user_of_line, message_of}
use Rattle.view_model.specs.View.{FileRevision, compared_revision, TreeRow, files_among, ChangesetView, CommitView, IsCommitView, SameCommit, SameTreeRows, root_of_rows}
use Rattle.git_model.specs.Residue.{carried, rows_with}
use Rattle.view_model.specs.Held.{file_row_of}
use Rattle.pair_model.specs.Rule.{old_residue, carried_to, tree_rows_with, author_by, with_body, new_revision, ruled_revision, revision_at, ruled_row, ruled_manifest, ruled_files, rule_commit, tree_row_of}
use Rattle.pair_model.specs.MarkList.{marks_text}
use Rattle.partner_model.specs.Mark.{is_ruled, entry_marks, commit_marks, parents_of_changeset, mark_commit, residue_in, first_residue, handed_on, mark_changeset}
use Rattle.partner_model.specs.Partner.{OfGit, AreCommitParentsPaired, IsPlain}
use Rattle.partner_model.specs.Table.{IsTable}
use Rattle.pair_model.specs.Octopus.{first_of, second_of, partners_of_parents, parents_of_commit}
use Rattle.unmark_law.proofs.Tables.{eq_true, HasId, git_hg, map_back}
use Rattle.mark_law.proofs.Sections.{given_of}
use Rattle.unmark_law.proofs.ChangesetOne.{IsFileRow, file_rows, tree_rows, plain_is, q_is, user_is, description_is, date_is, rows_are, there}
use Rattle.depth_law.proofs.PlainCommit.{no_extras}
use Rattle.depth_law.proofs.PlainChangeset.{IsUnmarkedIn, nodes_back, first_is, over_is, manifest_is, files_are, no_marks, no_marks_text}
use Rattle.mark_law.proofs.Decided.{same_revision-decides}
use Rattle.depth_law.proofs.SameRows.{no_mark}
use Rattle.unmark_law.proofs.TreeRows.{plain_row, plain_rows, files_of, rows_joined, joined_from, joined_to, rows_split, old_first}
use Rattle.partner_law.proofs.Roots.{root_same}

-- ---- a row of the rule, and the rule again

with_body_is : (id : Id) (e : Option FileRevision) (r : FileRevision) → with_body id e ≡ Some r → blob_id r.body ≡ id
with_body_is id None r h = absurd cc
with_body_is id (Some s) r h = by (bytes_eq (blob_id s.body) id) refl h
  where
    by : (t : Bool) → bytes_eq (blob_id s.body) id ≡ t → (if t then Some s else None) ≡ Some r → blob_id r.body ≡ id
    by true e k =
        let same : s ≡ r = cc in
        ap (λ x. blob_id x.body) (sym same) ∙ eq_true (blob_id s.body) id e
    by false e k = absurd cc

abbrev pub ruled_by : Option FileRevision → Option FileRevision → Id → Bytes → FileRevision
ruled_by e1 e2 id content = unwrap_or (option_or (with_body id e1) (with_body id e2)) (new_revision e1 e2 content)

abbrev pub at : Parents → TreeRow → Id → Bytes → FileRevision
at ps row id content = ruled_by (revision_at (ps.first).rows row.path) (revision_at (ps.second).rows row.path) id content

pub revision_is : (ps : Parents) (row : TreeRow) → (ruled_row ps row).revision ≡ at ps row row.id row.content
unfolding ruled_revision
revision_is ps row = refl

blob_by : (e1 e2 : Option FileRevision) (id : Id) (content : Bytes) → id ≡ blob_id content → blob_id (ruled_by e1 e2 id content).body ≡ id
blob_by e1 e2 id content h = by (with_body id e1) (with_body id e2) refl refl
  where
    by : (o u : Option FileRevision) → with_body id e1 ≡ o → with_body id e2 ≡ u → blob_id (unwrap_or (option_or o u) (new_revision e1 e2 content)).body ≡ id
    by (Some r) u f g = with_body_is id e1 r f
    by None (Some r) f g = with_body_is id e2 r g
    by None None f g = sym h

again_by : (e1 e2 : Option FileRevision) (id : Id) (content : Bytes) → ruled_by e1 e2 id (ruled_by e1 e2 id content).body ≡ ruled_by e1 e2 id content
again_by e1 e2 id content = by (with_body id e1) (with_body id e2)
  where
    by : (o u : Option FileRevision) → unwrap_or (option_or o u) (new_revision e1 e2 (unwrap_or (option_or o u) (new_revision e1 e2 content)).body) ≡ unwrap_or (option_or o u) (new_revision e1 e2 content)
    by (Some r) u = refl
    by None (Some r) = refl
    by None None = refl

pub row_blob : (ps : Parents) (row : TreeRow) → IsFileRow row → blob_id ((ruled_row ps row).revision).body ≡ row.id
row_blob ps row f = ap (λ x. blob_id x.body) (revision_is ps row) ∙ blob_by (revision_at (ps.first).rows row.path) (revision_at (ps.second).rows row.path) row.id row.content f.1

row_again : (ps : Parents) (row : TreeRow) → IsFileRow row → (ruled_row ps (tree_row_of (ruled_row ps row))).revision ≡ (ruled_row ps row).revision
row_again ps row f =
    revision_is ps (tree_row_of (ruled_row ps row)) ∙ ap (λ x. at ps row x ((ruled_row ps row).revision).body) (row_blob ps row f) ∙ ap (λ x. at ps row row.id x.body) (revision_is ps row)
    ∙ again_by (revision_at (ps.first).rows row.path) (revision_at (ps.second).rows row.path) row.id row.content ∙ sym (revision_is ps row)

pub row_ruled : (ps : Parents) (row : TreeRow) → IsFileRow row → is_ruled ps (ruled_row ps row) ≡ true
row_ruled ps row f = (same_revision-decides (ruled_row ps row).revision (ruled_row ps (tree_row_of (ruled_row ps row))).revision).1 (ap (λ x. compared_revision x) (sym (row_again ps row f)))

pub no_marks_again : (ps : Parents) (rows : List TreeRow) → Each IsFileRow rows → flat_map (entry_marks ps) (map (ruled_row ps) rows) ≡ []
no_marks_again ps [] f = refl
no_marks_again ps (r ∷ rs) f =
    let e = no_mark ps (ruled_row ps r) (row_ruled ps r f.0) in
    let t = no_marks_again ps rs f.1 in
    λ i. e i ++ t i

rows_again : (ps : Parents) (rows : List TreeRow) → Each IsFileRow rows → SameTreeRows (map tree_row_of (map (ruled_row ps) rows)) (map plain_row rows)
rows_again ps [] f = tt
rows_again ps (r ∷ rs) f = (refl, plain_is r.mode f.0.0, row_blob ps r f.0, rows_again ps rs f.1)

-- ---- the law

pub commit_over : (blocks : List Block) (k : ChangesetView) (c : CommitView) → SameTreeRows (tree_rows_with (carried_to blocks k) (map tree_row_of k.rows)) c.rows → root_of_rows (tree_rows_with (carried_to blocks k) (map tree_row_of k.rows)) ≡ (c.value).tree_id → map (git_partner blocks) (not_null (k.p ∷ k.q ∷ [])) ≡ (c.value).parents
    → author_by (k.fields).user (k.fields).date ≡ (c.value).author → (c.value).author ≡ (c.value).committer → marks_text (commit_marks (parents_of_changeset blocks k) k) ≡ (c.value).headers
    → message_of (k.fields).description ≡ (c.value).message → SameCommit (mark_commit blocks k) c
unfolding mark_commit rule_commit
commit_over blocks k c rows tree parents author committer headers message =
    let both = author ∙ committer in
    record {
      value = λ i. record { tree_id = tree i; parents = parents i; author = author i; committer = both i; headers = headers i; message = message i };
      rows = rows;
    }

pub given_is_plain : (blocks : List Block) → IsTable blocks → (c : CommitView) → IsCommitView c → AreCommitParentsPaired blocks c → IsUnmarkedIn blocks c → IsPlain blocks (OfGit c)
given_is_plain blocks t c v paired r0 =
    let r = r0.parts in
    let k = mark_changeset blocks c in
    let given = user_of_line (c.value).author in
    let few : length (partners_of_parents blocks c) ≤ 2 = simp length-map r.parents in
    let p : (mark_changeset blocks c).p ≡ first_of (partners_of_parents blocks c) = first_is blocks c few in
    let q : (mark_changeset blocks c).q ≡ second_of (partners_of_parents blocks c) = q_is blocks c in
    let those : not_null ((mark_changeset blocks c).p ∷ (mark_changeset blocks c).q ∷ []) ≡ partners_of_parents blocks c = (λ i. not_null (p i ∷ q i ∷ [])) ∙ nodes_back (partners_of_parents blocks c) (there blocks t (c.value).parents paired) few in
    let parents = ap (map (git_partner blocks)) those ∙ map_back (hg_partner blocks) (git_partner blocks) (HasId blocks) (git_hg blocks t) (c.value).parents paired in
    let over : parents_of_commit blocks c ≡ parents_of_changeset blocks (mark_changeset blocks c) = over_is blocks c few ∙ (λ i. parents_among (changesets_in blocks) (sym p i) (sym q i)) in
    let files = file_rows c.rows v.rows in
    let ps : Parents = parents_of_changeset blocks (mark_changeset blocks c) in
    let rows : (mark_changeset blocks c).rows ≡ map (ruled_row (parents_of_changeset blocks (mark_changeset blocks c))) (files_among c.rows) = rows_are blocks c ∙ (λ i. map (ruled_row (over i)) (files_among c.rows)) in
    let entries : flat_map (entry_marks (parents_of_changeset blocks (mark_changeset blocks c))) (mark_changeset blocks c).rows ≡ [] = ap (flat_map (entry_marks (parents_of_changeset blocks (mark_changeset blocks c)))) rows ∙ no_marks_again ps (files_among c.rows) files in
    let manifest : (mark_changeset blocks c).manifest ≡ ruled_manifest (parents_of_changeset blocks (mark_changeset blocks c)) (mark_changeset blocks c).rows =
    manifest_is blocks c ∙ (λ i. ruled_manifest (over i) (sym (rows_are blocks c) i)) in
    let named : ((mark_changeset blocks c).fields).files ≡ ruled_files (parents_of_changeset blocks (mark_changeset blocks c)) (mark_changeset blocks c).rows =
    files_are blocks c ∙ (λ i. ruled_files (over i) (sym (rows_are blocks c) i)) in
    let extras = no_extras c.value (residue_in c.rows) (handed_on blocks (c.value).parents (mark_changeset blocks c).rows) (record { author = r.author; committer = r.committer; headers = r.headers; message = r.message; parents = r.parents }) r0.residue in
    let user : ((mark_changeset blocks c).fields).user ≡ given.user = user_is blocks c in
    let date : ((mark_changeset blocks c).fields).date ≡ Plain given.time given.tz [] = date_is blocks c ∙ ap (λ x. Plain (user_of_line (c.value).author).time (user_of_line (c.value).author).tz x) extras in
    let author : author_by ((mark_changeset blocks c).fields).user ((mark_changeset blocks c).fields).date ≡ (c.value).author = (λ i. author_by (user i) (date i)) ∙ sym r.author in
    let back : given_of (mark_changeset blocks c) ≡ given = ap user_of_line author in
    let marks = no_marks ps k entries manifest named (user ∙ ap (λ (x : UserDate). x.user) (sym back)) (date ∙ ap (λ (x : UserDate). Plain x.time x.tz []) (sym back)) in
    let those_files : files_of (mark_changeset blocks c).rows ≡ map file_row_of (plain_rows c.rows) = ap files_of rows ∙ joined_from (map tree_row_of (map (ruled_row ps) (files_among c.rows))) (plain_rows c.rows) (rows_again ps (files_among c.rows) files) in
    let old : old_residue blocks (mark_changeset blocks c).p ≡ first_residue blocks (c.value).parents = ap (old_residue blocks) p ∙ old_first blocks t (c.value).parents paired in
    let residue : carried_to blocks (mark_changeset blocks c) ≡ residue_in c.rows = (λ i. carried (old i) (files_of (mark_changeset blocks c).rows)) ∙ sym r0.residue in
    let again : tree_rows_with (residue_in c.rows) (plain_rows c.rows) ≡ c.rows = rows_split c.rows v.in_order (tree_rows c.rows v.rows) in
    let joined : map file_row_of (tree_rows_with (carried_to blocks (mark_changeset blocks c)) (map tree_row_of (mark_changeset blocks c).rows)) ≡ map file_row_of c.rows =
    rows_joined (carried_to blocks k) (map tree_row_of k.rows) ∙ (λ i. rows_with (residue i) (those_files i)) ∙ sym (rows_joined (residue_in c.rows) (plain_rows c.rows)) ∙ ap (map file_row_of) again in
    let trees : SameTreeRows (tree_rows_with (carried_to blocks (mark_changeset blocks c)) (map tree_row_of (mark_changeset blocks c).rows)) c.rows =
    joined_to (tree_rows_with (carried_to blocks k) (map tree_row_of k.rows)) c.rows joined in (
      paired,
      commit_over blocks k c trees (root_same (tree_rows_with (carried_to blocks k) (map tree_row_of k.rows)) c.rows trees ∙ sym v.agrees) parents author (sym r.committer) (ap marks_text marks ∙ no_marks_text ∙ sym r.headers)
          (ap message_of (description_is blocks c) ∙ sym r.message),
    )
