-- A commit without headers that has an unmarking is plain: its unmarking is its marked changeset.
use Rattle.std.proofs.Common.{◌≡◌, ◌≤◌, Bool, true, false, List, [], ◌∷◌, length, map, None, refl, sym, ap, subst, ◌∙◌}
use Rattle.std.specs.Prelude.{if◌then◌else◌, bytes_eq}
use Rattle.std.specs.List.{flat_map}
use Rattle.std.proofs.lemmas.Bool.{le-leb}
use Rattle.std.proofs.lemmas.List.{length-map}
use Rattle.std.proofs.lemmas.Slice.Eq.{bytes_eq-Decides}
use Rattle.text_model.specs.Lists.{Each}
use Rattle.text_model.specs.Text.{Bytes}
use Rattle.text_model.specs.Id.{Id}
use Rattle.hg_model.specs.Changeset.{DateLine, Plain, Raw}
use Rattle.git_model.specs.Commit.{Commit}
use Rattle.git_model.specs.Residue.{ResidueKind, Group, Link, Empty, ResidueItem, carried}
use Rattle.pair_model.specs.Block.{Block, git_partner, hg_partner, not_null, Parents}
use Rattle.pair_model.specs.User.{UserDate, user_of_line, line_of_user, message_of, description_of}
use Rattle.view_model.specs.View.{files_among, manifest_node, ChangesetView, IsChangesetView, CommitView, SameCommit}
use Rattle.pair_model.specs.Rule.{old_residue, author_by, ruled_rows, ruled_manifest, ruled_files, rule_commit, rule_changeset}
use Rattle.pair_model.specs.Octopus.{partners_of_parents, parents_of_commit}
use Rattle.pair_model.specs.MarkList.{Manifest, Files, User, Date, OneExtra, marks_text, extras_of}
use Rattle.partner_model.specs.Mark.{same_manifest, same_paths, same_numbers, manifest_marks, files_marks, user_marks, date_marks, entry_marks, commit_marks, parents_of_changeset, mark_commit, part_unless, same_item_kind, same_items, residue_unless, residue_in, first_residue, handed_on, changeset_marks, mark_changeset, with_extras}
use Rattle.partner_model.specs.Partner.{UnmarksCommit, AreChangesetParentsPaired, AreCommitParentsPaired, IsPlain, OfGit}
use Rattle.partner_model.specs.Table.{IsTable}
use Rattle.unmark_law.proofs.Tables.{eq_true, HasNode, HasId, hg_git, git_has, map_back, each_map}
use Rattle.depth_law.proofs.Sizes.{no_text}
use Rattle.mark_law.proofs.Sections.{turned, given_of, from_user, from_files, from_manifest}
use Rattle.unmark_law.proofs.CommitOne.{same_manifest_is, same_paths_is, numbers_same, parents_are, author_is, headers_are, message_is}
use Rattle.unmark_law.proofs.TreeRows.{files_of, files_marked, residue_marked, first_old}
use Rattle.depth_law.proofs.Back.{description_back, nil_front, nil_back, ruled_rows_are, parents_back, few_parents}

from_nil : {X : Type 0} (t : Bool) (x : X) → (if t then [] else x ∷ []) ≡ [] → t ≡ true
from_nil true x e = refl
from_nil false x e = absurd cc

-- a date without marks is the given one, without extras
date_from : (d : DateLine) (given : UserDate) → date_marks d given ≡ [] → d ≡ Plain given.time given.tz []
date_from (Plain t z []) given e =
    let s = numbers_same t z given (from_nil (same_numbers t z given) (Date t z) (nil_front (if same_numbers t z given then [] else Date t z ∷ []) [] e)) in
    λ i. Plain (s.0 i) (s.1 i) []
date_from (Plain t z (x ∷ xs)) given e =
    let s = nil_back (if same_numbers t z given then [] else Date t z ∷ []) (map OneExtra (x ∷ xs)) e in absurd cc
date_from (Raw text) given e = absurd cc

-- what a changeset without marks is
pub record IsRuled (ps : Parents) (h : ChangesetView) : Type 0 where
  pub entries : flat_map (entry_marks ps) h.rows ≡ []
  pub manifest : h.manifest ≡ ruled_manifest ps h.rows
  pub files : (h.fields).files ≡ ruled_files ps h.rows
  pub user : (h.fields).user ≡ (given_of h).user
  pub date : (h.fields).date ≡ Plain (given_of h).time (given_of h).tz []

pub ruled_from_none : (ps : Parents) (h : ChangesetView) → commit_marks ps h ≡ [] → IsRuled ps h
ruled_from_none ps h e =
    let given = given_of h in
    let a = sym (turned ps given h refl) ∙ e in
    let m = nil_back (flat_map (entry_marks ps) h.rows) (from_manifest ps given h) a in
    let f = nil_back (manifest_marks ps h) (from_files ps given h) m in
    let u = nil_back (files_marks ps h) (from_user given h) f in
    record {
      entries = nil_front (flat_map (entry_marks ps) h.rows) (from_manifest ps given h) a;
      manifest = same_manifest_is h.manifest (ruled_manifest ps h.rows) (from_nil (same_manifest h.manifest (ruled_manifest ps h.rows)) (Manifest h.manifest) (nil_front (manifest_marks ps h) (from_files ps given h) m));
      files = same_paths_is (h.fields).files (ruled_files ps h.rows) (from_nil (same_paths (h.fields).files (ruled_files ps h.rows)) (Files (h.fields).files) (nil_front (files_marks ps h) (from_user given h) f));
      user = eq_true (h.fields).user given.user (from_nil (bytes_eq (h.fields).user given.user) (User (h.fields).user) (nil_front (user_marks (h.fields).user given) (date_marks (h.fields).date given) u));
      date = date_from (h.fields).date given (nil_back (user_marks (h.fields).user given) (date_marks (h.fields).date given) u);
    }

part_none : (a g : Bytes) → a ≡ g → part_unless a g ≡ None
part_none a g e = rw ((bytes_eq-Decides a g).1 e) refl

same_item_kind_own : (k : ResidueKind) → same_item_kind k k ≡ true
same_item_kind_own Group = refl
same_item_kind_own (Link id) = (bytes_eq-Decides id id).1 refl
same_item_kind_own Empty = refl

same_items_own : (items : List ResidueItem) → same_items items items ≡ true
same_items_own [] = refl
same_items_own (i ∷ is) = rw ((bytes_eq-Decides i.path i.path).1 refl, same_item_kind_own i.kind, same_items_own is) refl

pub residue_none : (a g : List ResidueItem) → a ≡ g → residue_unless a g ≡ None
residue_none a g e = rw (ap (same_items a) (sym e) ∙ same_items_own a) refl

-- a commit all of whose parts are the given ones has no extras
pub record IsGiven (c : Commit) : Type 0 where
  pub author : c.author ≡ line_of_user (user_of_line c.author).user (user_of_line c.author).time (user_of_line c.author).tz
  pub committer : c.committer ≡ c.author
  pub headers : c.headers ≡ []
  pub message : c.message ≡ message_of (description_of c.message)
  pub parents : length c.parents ≤ 2

pub no_extras : (c : Commit) (items given_items : List ResidueItem) → IsGiven c → items ≡ given_items → extras_of (changeset_marks c (description_of c.message) items given_items) ≡ []
unfolding extras_of changeset_marks
no_extras c items given_items g t =
    let given = user_of_line c.author in
    rw (
      part_none c.author (line_of_user given.user given.time given.tz) g.author,
      part_none c.committer c.author g.committer,
      part_none c.headers [] g.headers,
      part_none c.message (message_of (description_of c.message)) g.message,
      le-leb (length c.parents) 2 g.parents,
      residue_none items given_items t,
    ) refl

pub committer_is : (blocks : List Block) (h : ChangesetView) → ((mark_commit blocks h).value).committer ≡ ((mark_commit blocks h).value).author
unfolding mark_commit rule_commit
committer_is blocks h = refl

-- the marked changeset of a commit over these parents
abbrev pub marked_over : List Block → Parents → CommitView → ChangesetView
marked_over blocks ps c =
    with_extras (rule_changeset ps c) (user_of_line (c.value).author)
    (extras_of (changeset_marks c.value ((rule_changeset ps c).fields).description (residue_in c.rows) (handed_on blocks (c.value).parents (rule_changeset ps c).rows)))

pub marked_is : (blocks : List Block) (c : CommitView) → mark_changeset blocks c ≡ marked_over blocks (parents_of_commit blocks c) c
unfolding mark_changeset
marked_is blocks c = refl

-- the parents of the commit lead back to those of the changeset
pub parents_same : (blocks : List Block) → IsTable blocks → (c : CommitView) (h : ChangesetView) → IsChangesetView h → AreChangesetParentsPaired blocks h → SameCommit (mark_commit blocks h) c → parents_of_commit blocks c ≡ parents_of_changeset blocks h
parents_same blocks t c h view paired marked =
    let ids : (c.value).parents ≡ map (git_partner blocks) (not_null (h.p ∷ h.q ∷ [])) = ap (λ x. x.parents) (sym marked.value) ∙ parents_are blocks h in
    let nodes : partners_of_parents blocks c ≡ not_null (h.p ∷ h.q ∷ []) = ap (map (hg_partner blocks)) ids ∙ map_back (git_partner blocks) (hg_partner blocks) (HasNode blocks) (hg_git blocks t) (not_null (h.p ∷ h.q ∷ [])) paired in
    parents_back blocks c h.p h.q view.first nodes

pub commit_paired : (blocks : List Block) (c : CommitView) (h : ChangesetView) → AreChangesetParentsPaired blocks h → SameCommit (mark_commit blocks h) c → AreCommitParentsPaired blocks c
commit_paired blocks c h paired marked =
    let ids : (c.value).parents ≡ map (git_partner blocks) (not_null (h.p ∷ h.q ∷ [])) = ap (λ x. x.parents) (sym marked.value) ∙ parents_are blocks h in
    subst (λ x. Each (HasId blocks) x) (sym ids) (each_map (git_partner blocks) (HasNode blocks) (HasId blocks) (git_has blocks) (not_null (h.p ∷ h.q ∷ [])) paired)

pub commit_few : (blocks : List Block) (c : CommitView) (h : ChangesetView) → SameCommit (mark_commit blocks h) c → length (c.value).parents ≤ 2
commit_few blocks c h marked =
    let ids : (c.value).parents ≡ map (git_partner blocks) (not_null (h.p ∷ h.q ∷ [])) = ap (λ x. x.parents) (sym marked.value) ∙ parents_are blocks h in
    subst (λ (x : List Id). length x ≤ 2) (sym ids) (simp length-map (few_parents h.p h.q))

pub over_is : (blocks : List Block) (ps : Parents) (c : CommitView) (h : ChangesetView) → ps.p ≡ h.p → ps.q ≡ h.q → ruled_rows ps c.rows ≡ h.rows → ruled_manifest ps (ruled_rows ps c.rows) ≡ h.manifest
    → manifest_node (ruled_manifest ps (ruled_rows ps c.rows)) (ruled_rows ps c.rows) ≡ (h.fields).manifest → (user_of_line (c.value).author).user ≡ (h.fields).user
    → Plain (user_of_line (c.value).author).time (user_of_line (c.value).author).tz (extras_of (changeset_marks c.value (description_of (c.value).message) (residue_in c.rows) (handed_on blocks (c.value).parents (ruled_rows ps c.rows)))) ≡ (h.fields).date
    → ruled_files ps (ruled_rows ps c.rows) ≡ (h.fields).files → description_of (c.value).message ≡ (h.fields).description → marked_over blocks ps c ≡ h
unfolding rule_changeset
over_is blocks ps c h p q rows manifest id user date files description = λ i. record {
  p = p i;
  q = q i;
  fields = record { manifest = id i; user = user i; date = date i; files = files i; description = description i };
  manifest = manifest i;
  rows = rows i;
}

pub plain_commit : (blocks : List Block) → IsTable blocks → (c : CommitView) (h : ChangesetView) → UnmarksCommit blocks c h → (c.value).headers ≡ [] → mark_changeset blocks c ≡ h
plain_commit blocks t c h u none =
    let ps : Parents = parents_of_changeset blocks h in
    let value = (u.marked).value in
    let over = parents_same blocks t c h u.view u.paired u.marked in
    let texts : marks_text (commit_marks ps h) ≡ [] = sym (headers_are blocks h) ∙ ap (λ x. x.headers) value ∙ none in
    let r = ruled_from_none ps h (no_text (commit_marks ps h) texts) in
    let rows : ruled_rows ps c.rows ≡ h.rows = ruled_rows_are ps h.rows (files_among c.rows) (files_marked blocks h c (u.view).in_order u.marked) u.bodies r.entries in
    let ids : (c.value).parents ≡ map (git_partner blocks) (not_null (h.p ∷ h.q ∷ [])) = ap (λ x. x.parents) (sym value) ∙ parents_are blocks h in
    let old : first_residue blocks (c.value).parents ≡ old_residue blocks h.p = ap (first_residue blocks) ids ∙ first_old blocks t h.p h.q (u.view).first u.paired in
    let residue : residue_in c.rows ≡ handed_on blocks (c.value).parents (ruled_rows ps c.rows) = residue_marked blocks t h c (u.view).in_order u.marked ∙ (λ i. carried (sym old i) (files_of (sym rows i))) in
    let given = given_of h in
    let line : (c.value).author ≡ author_by (h.fields).user (h.fields).date = ap (λ x. x.author) (sym value) ∙ author_is blocks h in
    let same : user_of_line (c.value).author ≡ given = ap user_of_line line in
    let message : (c.value).message ≡ message_of (h.fields).description = ap (λ x. x.message) (sym value) ∙ message_is blocks h in
    let description : description_of (c.value).message ≡ (h.fields).description = ap description_of message ∙ description_back (h.fields).description in
    let author : (c.value).author ≡ line_of_user (user_of_line (c.value).author).user (user_of_line (c.value).author).time (user_of_line (c.value).author).tz =
    line ∙ (λ i. author_by (r.user i) (r.date i)) ∙ ap (λ (x : UserDate). line_of_user x.user x.time x.tz) (sym same) in
    let extras = no_extras c.value (residue_in c.rows) (handed_on blocks (c.value).parents (ruled_rows ps c.rows)) (record {
      author = author;
      committer = ap (λ x. x.committer) (sym value) ∙ committer_is blocks h ∙ ap (λ x. x.author) value;
      headers = none;
      message = message ∙ ap message_of (sym description);
      parents = commit_few blocks c h u.marked;
    }) residue in
    let manifest : ruled_manifest ps (ruled_rows ps c.rows) ≡ h.manifest = ap (ruled_manifest ps) rows ∙ sym r.manifest in
    let date : Plain (user_of_line (c.value).author).time (user_of_line (c.value).author).tz (extras_of (changeset_marks c.value (description_of (c.value).message) (residue_in c.rows) (handed_on blocks (c.value).parents (ruled_rows ps c.rows)))) ≡ (h.fields).date =
    (λ i. Plain (same i).time (same i).tz (extras i)) ∙ sym r.date in
    let files : ruled_files ps (ruled_rows ps c.rows) ≡ (h.fields).files = ap (ruled_files ps) rows ∙ sym r.files in
    let id : manifest_node (ruled_manifest ps (ruled_rows ps c.rows)) (ruled_rows ps c.rows) ≡ (h.fields).manifest = (λ i. manifest_node (manifest i) (rows i)) ∙ sym (u.view).agrees in
    let user : (user_of_line (c.value).author).user ≡ (h.fields).user = ap (λ (x : UserDate). x.user) same ∙ sym r.user in
    marked_is blocks c ∙ ap (λ x. marked_over blocks x c) over ∙ over_is blocks ps c h refl refl rows manifest id user date files description

pub commit_is_plain : (blocks : List Block) → IsTable blocks → (c : CommitView) (h : ChangesetView) → UnmarksCommit blocks c h → (c.value).headers ≡ [] → IsPlain blocks (OfGit c)
commit_is_plain blocks t c h u none =
    (commit_paired blocks c h u.paired u.marked, subst (λ x. SameCommit (mark_commit blocks x) c) (sym (plain_commit blocks t c h u none)) u.marked)
