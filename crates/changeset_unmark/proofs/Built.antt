-- The commit that the marks of a changeset name is its unmarking where each part comes back.
use Rattle.std.proofs.Common.{◌≡◌, ◌≤◌, List, [], map, length, refl, sym, ap, subst, ◌∙◌}
use Rattle.std.specs.Prelude.{IsTrue}
use Rattle.text_model.specs.Limits.{parent_limit}
use Rattle.text_model.specs.Lists.{Each, rises}
use Rattle.text_model.specs.Text.{Bytes, is_below}
use Rattle.text_model.specs.Id.{Id, null}
use Rattle.hg_model.specs.Changeset.{DateLine, Plain}
use Rattle.git_model.specs.Commit.{Commit}
use Rattle.git_model.specs.Tree.{has_distinct}
use Rattle.git_model.specs.Shape.{first_clash}
use Rattle.git_model.specs.Residue.{ResidueItem, fits, carried}
use Rattle.git_model.proofs.ResidueLemmas.{groups_fit}
use Rattle.tree_shape.specs.Sets.{IsFiles}
use Rattle.view_model.specs.View.{Row, TreeRow, ManifestParents, NoManifest, Over, ChangesetView, IsChangesetView, CommitView, IsCommitView, SameRows, manifest_node}
use Rattle.view_model.specs.Held.{file_row_of}
use Rattle.pair_model.specs.Block.{Block, Parents}
use Rattle.pair_model.specs.MarkList.{ChangesetMarks, extras_of}
use Rattle.pair_model.specs.Octopus.{links_of, parents_of_commit}
use Rattle.pair_model.specs.User.{UserDate, user_of_line, line_of_user, message_of, description_of}
use Rattle.pair_model.specs.Rule.{author_by, tree_row_of, tree_rows_with, ruled_rows, ruled_manifest, ruled_files, rule_changeset}
use Rattle.partner_model.specs.Mark.{part_unless, residue_unless, residue_in, first_residue, handed_on, changeset_marks, mark_changeset}
use Rattle.partner_model.specs.Partner.{AreCommitParentsPaired, UnmarksChangeset, IsKnownAs}
use Rattle.unmark_law.proofs.ChangesetOne.{marks_in, user_is, date_is, description_is, rows_are}
use Rattle.unmark_law.proofs.TreeRows.{files_of, files_alike, files_up}
use Rattle.depth_law.proofs.SameRows.{entries_same, manifest_same, files_same}
use Rattle.depth_law.proofs.PlainChangeset.{manifest_is, files_are}
use Rattle.commit_rule.proofs.FileLemmas.{all-blobs, no-has_clash, same-paths}
use Rattle.commit_rule.proofs.RuledLemmas.{IsId-root}
use Rattle.plain_rule.proofs.HandedRows.{ruled-with}
use Rattle.changeset_unmark.specs.Heads.{IsDateOf, author_named, head_named, HasDate}
use Rattle.changeset_unmark.specs.Residues.{items_named}
use Rattle.changeset_unmark.specs.Named.{count_of, commit_named, IsNamed}
use Rattle.changeset_unmark.proofs.RightRows.{AreFit, joined, each_row, are_files, rows_rise, residue_back, same_bodies}

-- ---- what a marked changeset has

pub p_over : (blocks : List Block) (c : CommitView) → (mark_changeset blocks c).p ≡ (parents_of_commit blocks c).p
unfolding mark_changeset rule_changeset
p_over blocks c = refl

pub q_over : (blocks : List Block) (c : CommitView) → (mark_changeset blocks c).q ≡ (parents_of_commit blocks c).q
unfolding mark_changeset rule_changeset
q_over blocks c = refl

node_is : (blocks : List Block) (c : CommitView) → ((mark_changeset blocks c).fields).manifest ≡ manifest_node (mark_changeset blocks c).manifest (mark_changeset blocks c).rows
unfolding mark_changeset rule_changeset
node_is blocks c = refl

node_same : (m : ManifestParents) (xs ys : List Row) → SameRows xs ys → manifest_node m xs ≡ manifest_node m ys
unfolding manifest_node
node_same NoManifest xs ys s = refl
node_same (Over p q) xs ys s = rw (entries_same xs ys s) refl

-- ---- the date

given_date : (date : DateLine) (m : ChangesetMarks) → IsDateOf date m → (given : UserDate) → HasDate given date → Plain given.time given.tz (extras_of m) ≡ date
given_date date m d given h =
    let k = subst (HasDate given) d.2 h in
    (λ i. Plain (k.0 i) (k.1 i) (extras_of m)) ∙ sym d.2

pub given_line : (user : Bytes) (date : DateLine) (m : ChangesetMarks) → IsDateOf date m → (given : UserDate) → given.user ≡ user → HasDate given date → line_of_user given.user given.time given.tz ≡ author_by user date
given_line user date m d given u h =
    let k = subst (HasDate given) d.2 h in
    (λ i. line_of_user (u i) (k.0 i) (k.1 i)) ∙ ap (author_by user) (sym d.2)

-- ---- the marks

marks_by : (c : Commit) (line description : Bytes) (items given : List ResidueItem) (m : ChangesetMarks) → line_of_user (user_of_line c.author).user (user_of_line c.author).time (user_of_line c.author).tz ≡ line
    → part_unless c.author line ≡ m.author → part_unless c.committer c.author ≡ m.committer → part_unless c.headers [] ≡ m.headers → part_unless c.message (message_of description) ≡ m.message
    → count_of c.parents ≡ m.parents → residue_unless items given ≡ m.tree → changeset_marks c description items given ≡ m
unfolding changeset_marks
marks_by c line description items given m l author committer headers message parents tree = λ i. record {
  author = (ap (part_unless c.author) l ∙ author) i;
  committer = committer i;
  headers = headers i;
  message = message i;
  parents = parents i;
  tree = tree i;
}

-- what the tree has beside the files is nothing to the changeset's rows
pub rows_again : (v : ChangesetView) → IsChangesetView v → (ps : Parents) (items : List ResidueItem) → Each (λ i. IsTrue (fits (files_of v.rows) i)) items → ruled_rows ps (tree_rows_with items (map tree_row_of v.rows)) ≡ ruled_rows ps (map tree_row_of v.rows)
rows_again v view ps items all =
    let rise : IsTrue (rises is_below (map (λ (r : TreeRow). r.path) (map tree_row_of v.rows))) = subst (λ (paths : List Bytes). IsTrue (rises is_below paths)) (sym (same-paths v.rows)) view.in_order in
    ruled-with ps items (map tree_row_of v.rows) rise (all-blobs v.rows) (groups_fit (files_of v.rows) (files_up v.rows view.in_order) items all)

-- ---- the whole

module _ (blocks : List Block) (Known : ChangesetView → Type 0) (v : ChangesetView) (view : IsChangesetView v) (m : ChangesetMarks) (date : IsDateOf (v.fields).date m)
    (ids : List Id) (ps : Parents) (fit : AreFit (files_of v.rows) (items_named (handed_on blocks ids v.rows) m.tree)) where
  files : IsFiles (map file_row_of (commit_named blocks ids v m).rows)
  files = subst IsFiles (sym (joined v view (items_named (handed_on blocks ids v.rows) m.tree) fit)) (are_files v view (items_named (handed_on blocks ids v.rows) m.tree) fit)

  pub is_view : length ids ≤ parent_limit → IsTrue (has_distinct ids) → IsNamed blocks ids ps v m → IsCommitView (commit_named blocks ids v m)
  is_view few distinct named =
      let is = (named.head).commit in
      record {
        value = record {
          tree_id = IsId-root (commit_named blocks ids v m).rows;
          parents = is.parents;
          author = is.author;
          committer = is.committer;
          headers = is.headers;
          message = is.message;
        };
        few = few;
        distinct = distinct;
        rows = each_row v view (items_named (handed_on blocks ids v.rows) m.tree) fit;
        in_order = rows_rise v view (items_named (handed_on blocks ids v.rows) m.tree) fit;
        no_clash = no-has_clash (commit_named blocks ids v m).rows files (ap first_clash (joined v view (items_named (handed_on blocks ids v.rows) m.tree) fit) ∙ (named.residue).apart);
        agrees = refl;
      }

  module _ (over : parents_of_commit blocks (commit_named blocks ids v m) ≡ ps) (p_of : ps.p ≡ v.p) (q_of : ps.q ≡ v.q)
      (paired : AreCommitParentsPaired blocks (commit_named blocks ids v m)) (few : length ids ≤ parent_limit) (distinct : IsTrue (has_distinct ids)) (count : count_of ids ≡ m.parents)
      (walked : Each (IsKnownAs Known) (links_of blocks (commit_named blocks ids v m))) (named : IsNamed blocks ids ps v m) where
    rows : SameRows (ruled_rows ps (commit_named blocks ids v m).rows) v.rows
    rows = subst (λ (x : List Row). SameRows x v.rows) (sym (rows_again v view ps (items_named (handed_on blocks ids v.rows) m.tree) fit.all)) (named.lists).rows

    marked_rows : SameRows (mark_changeset blocks (commit_named blocks ids v m)).rows v.rows
    marked_rows = subst (λ (x : List Row). SameRows x v.rows) (sym (rows_are blocks (commit_named blocks ids v m) ∙ ap (λ (x : Parents). ruled_rows x (commit_named blocks ids v m).rows) over)) rows

    manifest : (mark_changeset blocks (commit_named blocks ids v m)).manifest ≡ v.manifest
    manifest =
        manifest_is blocks (commit_named blocks ids v m) ∙ ap (λ (x : Parents). ruled_manifest x (ruled_rows x (commit_named blocks ids v m).rows)) over
        ∙ manifest_same ps (ruled_rows ps (commit_named blocks ids v m).rows) v.rows rows ∙ sym (named.lists).manifest

    node : ((mark_changeset blocks (commit_named blocks ids v m)).fields).manifest ≡ (v.fields).manifest
    node =
        node_is blocks (commit_named blocks ids v m) ∙ ap (λ (x : ManifestParents). manifest_node x (mark_changeset blocks (commit_named blocks ids v m)).rows) manifest
        ∙ node_same v.manifest (mark_changeset blocks (commit_named blocks ids v m)).rows v.rows marked_rows ∙ sym view.agrees

    listed : ((mark_changeset blocks (commit_named blocks ids v m)).fields).files ≡ (v.fields).files
    listed =
        files_are blocks (commit_named blocks ids v m) ∙ ap (λ (x : Parents). ruled_files x (ruled_rows x (commit_named blocks ids v m).rows)) over
        ∙ files_same ps (ruled_rows ps (commit_named blocks ids v m).rows) v.rows rows ∙ sym (named.lists).files

    back : (description_of (head_named null ids v.fields m).message ≡ (v.fields).description) × (Plain (user_of_line (author_named v.fields m)).time (user_of_line (author_named v.fields m)).tz (extras_of m) ≡ (v.fields).date)
    back = ((named.head).back.description, given_date (v.fields).date m date (user_of_line (author_named v.fields m)) (named.head).back.date)

    marks : marks_in blocks (commit_named blocks ids v m) ≡ m
    marks =
        marks_by (commit_named blocks ids v m).value (author_by (v.fields).user (v.fields).date) (description_of (head_named null ids v.fields m).message)
        (residue_in (commit_named blocks ids v m).rows) (handed_on blocks ids (mark_changeset blocks (commit_named blocks ids v m)).rows) m
        (given_line (v.fields).user (v.fields).date m date (user_of_line (author_named v.fields m)) (named.head).back.user (named.head).back.date)
        (named.head).needed.author (named.head).needed.committer (named.head).needed.headers
        (ap (λ (x : Bytes). part_unless (head_named null ids v.fields m).message (message_of x)) back.0 ∙ (named.head).needed.message)
        count
        ((λ i. residue_unless (residue_back v view (items_named (handed_on blocks ids v.rows) m.tree) fit i) (carried (first_residue blocks ids) (files_alike (mark_changeset blocks (commit_named blocks ids v m)).rows v.rows marked_rows i)))
        ∙ (named.residue).needed)

    fields : (mark_changeset blocks (commit_named blocks ids v m)).fields ≡ v.fields
    fields =
        let user = user_is blocks (commit_named blocks ids v m) ∙ (named.head).back.user in
        let line = date_is blocks (commit_named blocks ids v m) ∙ ap (λ (x : ChangesetMarks). Plain (user_of_line (author_named v.fields m)).time (user_of_line (author_named v.fields m)).tz (extras_of x)) marks ∙ back.1 in
        let text = description_is blocks (commit_named blocks ids v m) ∙ back.0 in
        λ i. record { manifest = node i; user = user i; date = line i; files = listed i; description = text i }

    pub unmarks : UnmarksChangeset blocks Known v (commit_named blocks ids v m)
    unmarks = record {
      view = is_view few distinct named;
      paired = paired;
      marked = record {
        p = p_over blocks (commit_named blocks ids v m) ∙ ap (λ (x : Parents). x.p) over ∙ p_of;
        q = q_over blocks (commit_named blocks ids v m) ∙ ap (λ (x : Parents). x.q) over ∙ q_of;
        fields = fields;
        manifest = manifest;
        rows = marked_rows;
      };
      walked = walked;
      bodies = same_bodies v view (items_named (handed_on blocks ids v.rows) m.tree) fit;
    }
