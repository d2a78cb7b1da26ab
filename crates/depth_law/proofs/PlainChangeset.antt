-- A changeset without extras that has an unmarking is plain: its unmarking is its marked commit.
use Rattle.std.proofs.Common.{◌≡◌, ◌≢◌, ℕ, ◌≤◌, Bool, true, false, List, [], ◌∷◌, ◌++◌, length, map, Some, None, refl, sym, ap, subst, ◌∙◌, arith}
use Rattle.std.specs.Prelude.{if◌then◌else◌, bytes_eq, ℤ, nat_le}
use Rattle.std.specs.List.{flat_map}
use Rattle.std.proofs.lemmas.Bool.{leb-true, false_from_ne_true}
use Rattle.std.proofs.lemmas.Bool.Decides.{Decides-int_eq}
use Rattle.std.proofs.lemmas.List.{length-map}
use Rattle.text_model.specs.Lists.{Each}
use Rattle.text_model.specs.Text.{Bytes}
use Rattle.text_model.specs.Id.{Id, null, is_null}
use Rattle.hg_model.specs.Changeset.{Plain}
use Rattle.git_model.specs.Commit.{Commit}
use Rattle.git_model.specs.Residue.{ResidueItem, carried}
use Rattle.pair_model.specs.Block.{Block, git_partner, hg_partner, not_null, changesets_in, Parents, parents_among}
use Rattle.pair_model.specs.User.{UserDate, user_of_line, line_of_user, message_of, description_of}
use Rattle.view_model.specs.View.{ManifestParents, NoManifest, Over, ChangesetView, CommitView, IsCommitView, changeset_node, commit_id, root_of_rows, SameChangeset, SameRows, files_among}
use Rattle.pair_model.specs.Rule.{old_residue, carried_to, tree_rows_with, author_by, ruled_rows, ruled_row, ruled_manifest, ruled_files, rule_commit, rule_changeset, tree_row_of}
use Rattle.pair_model.specs.Octopus.{last_id, first_of, second_of, partners_of_parents, parents_of_commit}
use Rattle.pair_model.specs.MarkList.{marks_text, ChangesetMarks, extras_of}
use Rattle.partner_model.specs.Mark.{same_manifest, same_paths, same_numbers, manifest_marks, files_marks, user_marks, date_marks, entry_marks, commit_marks, parents_of_changeset, mark_commit, part_unless, same_items, residue_unless, residue_in, first_residue, handed_on, changeset_marks, mark_changeset}
use Rattle.partner_model.specs.Partner.{UnmarksChangeset, AreChangesetParentsPaired, IsPlain, OfHg}
use Rattle.partner_model.specs.Table.{IsTable}
use Rattle.unmark_law.proofs.Tables.{eq_true, HasNode, HasId, git_hg, hg_has, map_back, each_map}
use Rattle.mark_law.proofs.Extras.{extras_one}
use Rattle.mark_law.proofs.Sections.{given_of}
use Rattle.unmark_law.proofs.ChangesetOne.{same_items_is, marks_in, file_rows, tree_rows, tree_rows_are, marks_are, p_is, q_is, user_is, description_is, date_is, rows_are, plain_parts, there}
use Rattle.depth_law.proofs.Back.{no_links, links_none}
use Rattle.depth_law.proofs.SameRows.{own, manifest_same, files_same, no_entries}
use Rattle.unmark_law.proofs.TreeRows.{plain_rows, files_of, files_alike, rows_split, old_first}

-- ---- no extras

none_marked : ChangesetMarks
none_marked = record { author = None; committer = None; headers = None; message = None; parents = None; tree = None }

nothing_given : (a g : Bytes) → part_unless a g ≡ None → a ≡ g
nothing_given a g e = by (bytes_eq a g) refl e
  where
    by : (t : Bool) → bytes_eq a g ≡ t → (if t then None else Some a) ≡ None → a ≡ g
    by true f k = eq_true a g f
    by false f k = absurd cc

few_from : (n : ℕ) → (if nat_le n 2 then None else Some n) ≡ None → n ≤ 2
few_from n e = by (nat_le n 2) refl e
  where
    by : (t : Bool) → nat_le n 2 ≡ t → (if t then None else Some n) ≡ None → n ≤ 2
    by true f k = leb-true n 2 f
    by false f k = absurd cc

-- the parts of a commit without marks
pub record IsUnmarked (c : Commit) : Type 0 where
  pub author : c.author ≡ line_of_user (user_of_line c.author).user (user_of_line c.author).time (user_of_line c.author).tz
  pub committer : c.committer ≡ c.author
  pub headers : c.headers ≡ []
  pub message : c.message ≡ message_of (description_of c.message)
  pub parents : length c.parents ≤ 2

no_residue : (a g : List ResidueItem) → residue_unless a g ≡ None → a ≡ g
no_residue a g e = by (same_items a g) refl e
  where
    by : (t : Bool) → same_items a g ≡ t → (if t then None else Some a) ≡ None → a ≡ g
    by true f k = same_items_is a g f
    by false f k = absurd cc

-- its residue is what its first parent hands on
pub record IsUnmarkedIn (blocks : List Block) (c : CommitView) : Type 0 where
  pub parts : IsUnmarked c.value
  pub residue : residue_in c.rows ≡ handed_on blocks (c.value).parents (mark_changeset blocks c).rows

unmarked_from : (c : Commit) (items given_items : List ResidueItem) → changeset_marks c (description_of c.message) items given_items ≡ none_marked → IsUnmarked c × (items ≡ given_items)
unfolding changeset_marks none_marked
unmarked_from c items given_items e =
    let given = user_of_line c.author in (
      record {
        author = nothing_given c.author (line_of_user given.user given.time given.tz) (ap (λ x. x.author) e);
        committer = nothing_given c.committer c.author (ap (λ x. x.committer) e);
        headers = nothing_given c.headers [] (ap (λ x. x.headers) e);
        message = nothing_given c.message (message_of (description_of c.message)) (ap (λ x. x.message) e);
        parents = few_from (length c.parents) (ap (λ x. x.parents) e);
      },
      no_residue items given_items (ap (λ x. x.tree) e),
    )

pub unmarked : (blocks : List Block) (c : CommitView) → IsCommitView c → extras_of (marks_in blocks c) ≡ [] → IsUnmarkedIn blocks c
unfolding none_marked extras_of
unmarked blocks c v e =
    let u = unmarked_from c.value (residue_in c.rows) (handed_on blocks (c.value).parents (mark_changeset blocks c).rows)
    (extras_one (marks_in blocks c) none_marked (marks_are blocks c v) (record { author = tt; committer = tt; headers = tt; message = tt; parents = tt; tree = tt }) e) in
    record { parts = u.0; residue = u.1 }

-- ---- parents

null_is : (x : Id) → x ≢ null → is_null x ≡ false
null_is x n = false_from_ne_true (is_null x) (λ e. n (eq_true x null e))

-- partners of at most two parents come back from the first and the second
pub nodes_back : (xs : List Id) → Each (λ x. x ≢ null) xs → length xs ≤ 2 → not_null (first_of xs ∷ second_of xs ∷ []) ≡ xs
nodes_back [] h l = refl
nodes_back (x ∷ []) h l = rw (null_is x h.0) refl
nodes_back (x ∷ y ∷ []) h l = rw (null_is x h.0, null_is y h.1.0) refl
nodes_back (x ∷ y ∷ z ∷ xs) h l = absurd (omega arith)

-- the first parent of the marked changeset
pub first_is : (blocks : List Block) (c : CommitView) → length (partners_of_parents blocks c) ≤ 2 → (mark_changeset blocks c).p ≡ first_of (partners_of_parents blocks c)
first_is blocks c l = p_is blocks c ∙ ap (λ x. last_id (first_of (partners_of_parents blocks c) ∷ map changeset_node x)) (no_links blocks (commit_id c) (length (c.value).parents) (partners_of_parents blocks c) l)

pub over_is : (blocks : List Block) (c : CommitView) → length (partners_of_parents blocks c) ≤ 2 → parents_of_commit blocks c ≡ parents_among (changesets_in blocks) (first_of (partners_of_parents blocks c)) (second_of (partners_of_parents blocks c))
unfolding parents_of_commit
over_is blocks c l =
    let none = links_none blocks c l in
    λ i. parents_among (none i ++ changesets_in blocks) (last_id (first_of (partners_of_parents blocks c) ∷ map changeset_node (none i))) (second_of (partners_of_parents blocks c))

-- ---- no marks

manifest_own : (m : ManifestParents) → same_manifest m m ≡ true
manifest_own NoManifest = refl
manifest_own (Over p q) = rw (own p, own q) refl

paths_own : (ps : List Bytes) → same_paths ps ps ≡ true
paths_own [] = refl
paths_own (p ∷ ps) = rw (own p, paths_own ps) refl

numbers_own : (t z : ℤ) (given : UserDate) → t ≡ given.time → z ≡ given.tz → same_numbers t z given ≡ true
numbers_own t z given e f = rw ((Decides-int_eq t given.time).1 e, (Decides-int_eq z given.tz).1 f) refl

pub no_marks : (ps : Parents) (h : ChangesetView) → flat_map (entry_marks ps) h.rows ≡ [] → h.manifest ≡ ruled_manifest ps h.rows → (h.fields).files ≡ ruled_files ps h.rows
    → (h.fields).user ≡ (given_of h).user → (h.fields).date ≡ Plain (given_of h).time (given_of h).tz [] → commit_marks ps h ≡ []
unfolding commit_marks
no_marks ps h e m f u d =
    let given = given_of h in
    let a : manifest_marks ps h ≡ [] = rw (ap (λ x. same_manifest h.manifest x) (sym m) ∙ manifest_own h.manifest) refl in
    let b : files_marks ps h ≡ [] = rw (ap (λ x. same_paths (h.fields).files x) (sym f) ∙ paths_own (h.fields).files) refl in
    let g : user_marks (h.fields).user given ≡ [] = rw (ap (λ x. bytes_eq (h.fields).user x) (sym u) ∙ own (h.fields).user) refl in
    let k : date_marks (h.fields).date given ≡ [] = ap (λ x. date_marks x given) d ∙ plain_none given in
    λ i. e i ++ a i ++ b i ++ g i ++ k i
  where
    plain_none : (given : UserDate) → date_marks (Plain given.time given.tz []) given ≡ []
    plain_none given = rw (numbers_own given.time given.tz given refl refl) refl

pub manifest_is : (blocks : List Block) (c : CommitView) → (mark_changeset blocks c).manifest ≡ ruled_manifest (parents_of_commit blocks c) (ruled_rows (parents_of_commit blocks c) c.rows)
unfolding mark_changeset rule_changeset
manifest_is blocks c = refl

pub files_are : (blocks : List Block) (c : CommitView) → ((mark_changeset blocks c).fields).files ≡ ruled_files (parents_of_commit blocks c) (ruled_rows (parents_of_commit blocks c) c.rows)
unfolding mark_changeset rule_changeset
files_are blocks c = refl

commit_is : (blocks : List Block) (h : ChangesetView) (c : CommitView) → tree_rows_with (carried_to blocks h) (map tree_row_of h.rows) ≡ c.rows → root_of_rows (tree_rows_with (carried_to blocks h) (map tree_row_of h.rows)) ≡ (c.value).tree_id → map (git_partner blocks) (not_null (h.p ∷ h.q ∷ [])) ≡ (c.value).parents
    → author_by (h.fields).user (h.fields).date ≡ (c.value).author → (c.value).author ≡ (c.value).committer → marks_text (commit_marks (parents_of_changeset blocks h) h) ≡ (c.value).headers
    → message_of (h.fields).description ≡ (c.value).message → mark_commit blocks h ≡ c
unfolding mark_commit rule_commit
commit_is blocks h c rows tree parents author committer headers message =
    let both = author ∙ committer in
    λ i. record {
      value = record { tree_id = tree i; parents = parents i; author = author i; committer = both i; headers = headers i; message = message i };
      rows = rows i;
    }

pub no_marks_text : marks_text [] ≡ []
unfolding marks_text
no_marks_text = refl

-- what an unmarking without extras gives
pub record Returns (blocks : List Block) (h : ChangesetView) (c : CommitView) : Type 0 where
  pub paired : AreChangesetParentsPaired blocks h
  pub marked : mark_commit blocks h ≡ c

pub plain_changeset : (blocks : List Block) (Known : ChangesetView → Type 0) → IsTable blocks → (h : ChangesetView) (c : CommitView) (time tz : ℤ) → UnmarksChangeset blocks Known h c → (h.fields).date ≡ Plain time tz [] → Returns blocks h c
plain_changeset blocks Known t h c time tz u none =
    let nodes = partners_of_parents blocks c in
    let given = user_of_line (c.value).author in
    let fields = (u.marked).fields in
    let dates = plain_parts given.time given.tz time tz (extras_of (marks_in blocks c)) [] (sym (date_is blocks c) ∙ ap (λ x. x.date) fields ∙ none) in
    let r0 = unmarked blocks c u.view dates.2 in
    let r = r0.parts in
    let few : length (partners_of_parents blocks c) ≤ 2 = simp length-map r.parents in
    let p : h.p ≡ first_of (partners_of_parents blocks c) = sym (u.marked).p ∙ first_is blocks c few in
    let q : h.q ≡ second_of (partners_of_parents blocks c) = sym (u.marked).q ∙ q_is blocks c in
    let those : not_null (h.p ∷ h.q ∷ []) ≡ partners_of_parents blocks c = (λ i. not_null (p i ∷ q i ∷ [])) ∙ nodes_back (partners_of_parents blocks c) (there blocks t (c.value).parents u.paired) few in
    let parents = ap (map (git_partner blocks)) those ∙ map_back (hg_partner blocks) (git_partner blocks) (HasId blocks) (git_hg blocks t) (c.value).parents u.paired in
    let paired : AreChangesetParentsPaired blocks h = subst (λ x. Each (HasNode blocks) x) (sym those) (each_map (hg_partner blocks) (HasId blocks) (HasNode blocks) (hg_has blocks) (c.value).parents u.paired) in
    let ps : Parents = parents_of_changeset blocks h in
    let over : parents_of_commit blocks c ≡ parents_of_changeset blocks h = over_is blocks c few ∙ (λ i. parents_among (changesets_in blocks) (sym p i) (sym q i)) in
    let files = file_rows c.rows (u.view).rows in
    let same : SameRows (map (ruled_row (parents_of_changeset blocks h)) (files_among c.rows)) h.rows =
    subst (λ x. SameRows (map (ruled_row x) (files_among c.rows)) h.rows) over (subst (λ x. SameRows x h.rows) (rows_are blocks c) (u.marked).rows) in
    let plain : map tree_row_of h.rows ≡ plain_rows c.rows = tree_rows_are ps (files_among c.rows) h.rows files same u.bodies in
    let old : old_residue blocks h.p ≡ first_residue blocks (c.value).parents = ap (old_residue blocks) p ∙ old_first blocks t (c.value).parents u.paired in
    let held : files_of (mark_changeset blocks c).rows ≡ files_of h.rows = files_alike (mark_changeset blocks c).rows h.rows (u.marked).rows in
    let residue : residue_in c.rows ≡ carried_to blocks h = r0.residue ∙ (λ i. carried (sym old i) (held i)) in
    let rows : tree_rows_with (carried_to blocks h) (map tree_row_of h.rows) ≡ c.rows = (λ i. tree_rows_with (sym residue i) (plain i)) ∙ rows_split c.rows (u.view).in_order (tree_rows c.rows (u.view).rows) in
    let user : (h.fields).user ≡ given.user = sym (ap (λ x. x.user) fields) ∙ user_is blocks c in
    let date : (h.fields).date ≡ Plain given.time given.tz [] = none ∙ (λ i. Plain (sym dates.0 i) (sym dates.1 i) []) in
    let author : author_by (h.fields).user (h.fields).date ≡ (c.value).author = (λ i. author_by (user i) (date i)) ∙ sym r.author in
    let back : given_of h ≡ given = ap user_of_line author in
    let description : (h.fields).description ≡ description_of (c.value).message = sym (ap (λ x. x.description) fields) ∙ description_is blocks c in
    let manifest : h.manifest ≡ ruled_manifest (parents_of_changeset blocks h) h.rows =
    sym (u.marked).manifest ∙ manifest_is blocks c ∙ (λ i. ruled_manifest (over i) (map (ruled_row (over i)) (files_among c.rows))) ∙ manifest_same ps (map (ruled_row (parents_of_changeset blocks h)) (files_among c.rows)) h.rows same in
    let named : (h.fields).files ≡ ruled_files (parents_of_changeset blocks h) h.rows =
    sym (ap (λ x. x.files) fields) ∙ files_are blocks c ∙ (λ i. ruled_files (over i) (map (ruled_row (over i)) (files_among c.rows))) ∙ files_same ps (map (ruled_row (parents_of_changeset blocks h)) (files_among c.rows)) h.rows same in
    let marks = no_marks ps h (no_entries ps (files_among c.rows) h.rows files same u.bodies) manifest named (user ∙ ap (λ (x : UserDate). x.user) (sym back)) (date ∙ ap (λ (x : UserDate). Plain x.time x.tz []) (sym back)) in
    record {
      paired = paired;
      marked = commit_is blocks h c rows (ap root_of_rows rows ∙ sym (u.view).agrees) parents author (sym r.committer) (ap marks_text marks ∙ no_marks_text ∙ sym r.headers) (ap message_of description ∙ sym r.message);
    }

pub changeset_is_plain : (blocks : List Block) (Known : ChangesetView → Type 0) → IsTable blocks → (h : ChangesetView) (c : CommitView) (time tz : ℤ) → UnmarksChangeset blocks Known h c → (h.fields).date ≡ Plain time tz [] → IsPlain blocks (OfHg h)
changeset_is_plain blocks Known t h c time tz u none =
    let r = plain_changeset blocks Known t h c time tz u none in
    (r.paired, subst (λ x. SameChangeset (mark_changeset blocks x) h) (sym r.marked) u.marked)
