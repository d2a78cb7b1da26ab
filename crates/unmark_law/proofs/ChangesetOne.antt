-- A changeset has at most one unmarking.
use Rattle.std.proofs.Common.{◌≡◌, ◌≢◌, ℕ, ◌≤◌, ◌<◌, Bool, true, false, List, [], ◌∷◌, ◌++◌, length, map, Some, None, refl, sym, ap, subst, ◌∙◌, inl, inr, ◌⊎◌, arith}
use Rattle.std.specs.Prelude.{◌&&◌, if◌then◌else◌, bytes_eq, nat_le, IsTrue, ℤ}
use Rattle.std.specs.List.{flat_map, cons_option}
use Rattle.std.proofs.lemmas.Bool.{leb-true, leb-false, true≢false, and_parts}
use Rattle.std.proofs.lemmas.List.{length-map}
use Rattle.text_model.proofs.EachLemmas.{Each-append}
use Rattle.text_model.specs.Lists.{Each, rises}
use Rattle.text_model.specs.Text.{Bytes, IsBytes, line, lf, has_byte, is_below}
use Rattle.text_model.specs.Id.{Id, null, blob_id, tree, object_id}
use Rattle.text_model.specs.Path.{is_fit_path}
use Rattle.hg_model.specs.Changeset.{Plain, Extra}
use Rattle.git_model.specs.Tree.{Mode, File, GroupFile, Exec, Link as LinkMode, Directory, Gitlink, is_directory, is_blob_mode}
use Rattle.git_model.specs.Residue.{ResidueKind, Group, Link, Empty, ResidueItem, kind_of_row, item_of, carried, plain_mode}
use Rattle.git_model.proofs.SortLemmas.{ascends-rises}
use Rattle.git_model.proofs.ResidueLemmas.{path_of_item, up_residue}
use Rattle.git_model.specs.Commit.{Commit, AreHeaders}
use Rattle.pair_model.specs.Block.{Block, hg_partner, Parents}
use Rattle.pair_model.specs.User.{UserDate, user_of_line, line_of_user, message_of, description_of}
use Rattle.view_model.specs.View.{Row, TreeRow, files_among, ChangesetView, tree_paths, IsRowId, SameRow, SameRows, CommitView, IsCommitView, commit_id, HaveSameBodies, root_of_rows}
use Rattle.pair_model.specs.Rule.{mode_of_flag, flag_of_mode, tree_row_of, tree_rows_with, ruled_row, rule_changeset}
use Rattle.view_model.specs.Held.{file_row_of}
use Rattle.pair_model.specs.Octopus.{links_of, links_by, partners_of_parents, parents_of_commit, second_of}
use Rattle.pair_model.specs.MarkList.{ChangesetMarks, extras_of, IsPart, IsParentCount, IsResidue, IsTreePart, AreChangesetMarks}
use Rattle.partner_model.specs.Mark.{part_unless, same_item_kind, same_items, residue_unless, residue_in, first_residue, handed_on, changeset_marks, mark_changeset}
use Rattle.partner_model.specs.Partner.{IsKnownAs, UnmarksChangeset}
use Rattle.partner_model.specs.Table.{IsTable, AreApart}
use Rattle.unmark_law.proofs.Tables.{eq_true, hg_one, hg_there, HasId, map_one}
use Rattle.mark_law.proofs.Residues.{IsItem}
use Rattle.unmark_law.proofs.TreeRows.{IsTreeRow, plain_row, plain_rows, files_of, files_alike, rows_split, paths_joined}
use Rattle.mark_law.proofs.Extras.{extras_one}
use Rattle.unmark_law.proofs.Walk.{P, AreAlikeLong, nodes_one}

-- ---- rows

abbrev pub IsFileRow : TreeRow → Type 0
IsFileRow row = IsTrue (is_blob_mode row.mode) × (row.id ≡ blob_id row.content)

-- what the view of a commit says of a row
abbrev pub IsViewRow : TreeRow → Type 0
IsViewRow row = IsTrue (is_fit_path row.path) × IsBytes row.path × IsBytes row.content × IsRowId row.mode row.id row.content

blob_row : (mode : Mode) (id : Id) (content : Bytes) → is_blob_mode mode ≡ true → IsRowId mode id content → id ≡ blob_id content
blob_row File id content b r = r
blob_row GroupFile id content b r = r
blob_row Exec id content b r = r
blob_row LinkMode id content b r = r
blob_row Directory id content b r = absurd (true≢false (sym b))
blob_row Gitlink id content b r = absurd (true≢false (sym b))

pub file_rows : (rows : List TreeRow) → Each IsViewRow rows → Each IsFileRow (files_among rows)
file_rows [] h = tt
file_rows (r ∷ rs) h = by (is_blob_mode r.mode) refl (file_rows rs h.1)
  where
    by : (t : Bool) → is_blob_mode r.mode ≡ t → Each IsFileRow (files_among rs) → Each IsFileRow (files_among (r ∷ rs))
    by true e go = rw e ((e, blob_row r.mode r.id r.content e h.0.3), go)
    by false e go = rw e go

tree_row : (mode : Mode) (id : Id) (content : Bytes) → IsRowId mode id content → (is_directory mode ≡ true → id ≡ object_id tree []) × (is_blob_mode mode ≡ false → content ≡ [])
tree_row File id content r = ((λ e. absurd (true≢false (sym e))), (λ e. absurd (true≢false e)))
tree_row GroupFile id content r = ((λ e. absurd (true≢false (sym e))), (λ e. absurd (true≢false e)))
tree_row Exec id content r = ((λ e. absurd (true≢false (sym e))), (λ e. absurd (true≢false e)))
tree_row LinkMode id content r = ((λ e. absurd (true≢false (sym e))), (λ e. absurd (true≢false e)))
tree_row Directory id content r = ((λ e. r.0), (λ e. r.1))
tree_row Gitlink id content r = ((λ e. absurd (true≢false (sym e))), (λ e. r.1))

pub tree_rows : (rows : List TreeRow) → Each IsViewRow rows → Each IsTreeRow rows
tree_rows [] h = tt
tree_rows (r ∷ rs) h = (tree_row r.mode r.id r.content h.0.3, tree_rows rs h.1)

pub plain_is : (m : Mode) → is_blob_mode m ≡ true → mode_of_flag (flag_of_mode m) ≡ plain_mode m
plain_is File h = refl
plain_is GroupFile h = refl
plain_is Exec h = refl
plain_is LinkMode h = refl
plain_is Directory h = absurd (true≢false (sym h))
plain_is Gitlink h = absurd (true≢false (sym h))

pub tree_row_is : (ps : Parents) (c : TreeRow) (h : Row) → IsFileRow c → SameRow (ruled_row ps c) h → (h.revision).body ≡ c.content → tree_row_of h ≡ plain_row c
tree_row_is ps c h f s b =
    let mode : mode_of_flag h.flag ≡ plain_mode c.mode = ap mode_of_flag (sym s.1) ∙ plain_is c.mode f.0 in
    let id : blob_id (h.revision).body ≡ c.id = ap blob_id b ∙ sym f.1 in
    λ i. record { path = sym s.0 i; mode = mode i; id = id i; content = b i }

-- the files of a changeset are those of its commit, as a changeset holds them
pub tree_rows_are : (ps : Parents) (cs : List TreeRow) (hs : List Row) → Each IsFileRow cs → SameRows (map (ruled_row ps) cs) hs → HaveSameBodies hs cs → map tree_row_of hs ≡ map plain_row cs
tree_rows_are ps [] [] f s b = refl
tree_rows_are ps [] (h ∷ hs) f s b = absurd s
tree_rows_are ps (c ∷ cs) [] f s b = absurd s
tree_rows_are ps (c ∷ cs) (h ∷ hs) f s b =
    let e = tree_row_is ps c h f.0 s.0 b.1 in
    let t = tree_rows_are ps cs hs f.1 s.1 b.2 in
    λ i. e i ∷ t i

-- ---- parts

part_one : (a b g : Bytes) → part_unless a g ≡ part_unless b g → a ≡ b
part_one a b g e = by (bytes_eq a g) (bytes_eq b g) refl refl e
  where
    by : (s t : Bool) → bytes_eq a g ≡ s → bytes_eq b g ≡ t → (if s then None else Some a) ≡ (if t then None else Some b) → a ≡ b
    by true true f h k = eq_true a g f ∙ sym (eq_true b g h)
    by true false f h k = absurd cc
    by false true f h k = absurd cc
    by false false f h k = cc

part_is : (t : Bool) (a : Bytes) → IsBytes a → IsPart (if t then None else Some a)
part_is true a h = tt
part_is false a h = h

same_kind_is : (a b : ResidueKind) → same_item_kind a b ≡ true → a ≡ b
same_kind_is Group Group h = refl
same_kind_is (Link a) (Link b) h = ap Link (eq_true a b h)
same_kind_is Empty Empty h = refl
same_kind_is Group (Link b) h = absurd (true≢false (sym h))
same_kind_is Group Empty h = absurd (true≢false (sym h))
same_kind_is (Link a) Group h = absurd (true≢false (sym h))
same_kind_is (Link a) Empty h = absurd (true≢false (sym h))
same_kind_is Empty Group h = absurd (true≢false (sym h))
same_kind_is Empty (Link b) h = absurd (true≢false (sym h))

pub same_items_is : (a b : List ResidueItem) → same_items a b ≡ true → a ≡ b
same_items_is [] [] h = refl
same_items_is [] (y ∷ ys) h = absurd (true≢false (sym h))
same_items_is (x ∷ xs) [] h = absurd (true≢false (sym h))
same_items_is (x ∷ xs) (y ∷ ys) h =
    let a = and_parts (bytes_eq x.path y.path && same_item_kind x.kind y.kind) (same_items xs ys) h in
    let b = and_parts (bytes_eq x.path y.path) (same_item_kind x.kind y.kind) a.0 in
    let p = eq_true x.path y.path b.0 in
    let k = same_kind_is x.kind y.kind b.1 in
    let t = same_items_is xs ys a.1 in
    λ i. record { path = p i; kind = k i } ∷ t i

-- where equal marks are over one given residue, the residues are equal
residue_from : (a b g : List ResidueItem) → residue_unless a g ≡ residue_unless b g → a ≡ b
residue_from a b g e = by (same_items a g) (same_items b g) refl refl e
  where
    by : (s t : Bool) → same_items a g ≡ s → same_items b g ≡ t → (if s then None else Some a) ≡ (if t then None else Some b) → a ≡ b
    by true true f h k = same_items_is a g f ∙ sym (same_items_is b g h)
    by true false f h k = absurd cc
    by false true f h k = absurd cc
    by false false f h k = cc

item_is : (path : Bytes) (mode : Mode) (id : Id) (content : Bytes) → IsBytes path → IsRowId mode id content → (rest : List ResidueItem) → Each IsItem rest → Each IsItem (cons_option (item_of path (kind_of_row mode id)) rest)
item_is path File id content p r rest e = e
item_is path GroupFile id content p r rest e = ((p, tt), e)
item_is path Exec id content p r rest e = e
item_is path LinkMode id content p r rest e = e
item_is path Directory id content p r rest e = ((p, tt), e)
item_is path Gitlink id content p r rest e = ((p, r.0), e)

items_are : (rows : List TreeRow) → Each IsViewRow rows → Each IsItem (residue_in rows)
items_are [] h = tt
items_are (r ∷ rs) h = item_is r.path r.mode r.id r.content h.0.1 h.0.3 (residue_in rs) (items_are rs h.1)

residue_is : (rows : List TreeRow) → Each IsViewRow rows → IsTrue (rises is_below (tree_paths rows)) → IsResidue (residue_in rows)
residue_is rows h up = (items_are rows h, ascends-rises path_of_item (residue_in rows) (up_residue (map file_row_of rows) (paths_joined rows up)))

tree_is : (t : Bool) (a : List ResidueItem) → IsResidue a → IsTreePart (if t then None else Some a)
tree_is true a h = tt
tree_is false a h = h

count_is : (n : ℕ) → n ≤ 64 → IsParentCount (if nat_le n 2 then None else Some n)
count_is n l = by (nat_le n 2) refl
  where
    by : (t : Bool) → nat_le n 2 ≡ t → IsParentCount (if t then None else Some n)
    by true e = tt
    by false e = (omega (arith, leb-false n 2 e), l)

count_one : (n m : ℕ) → (if nat_le n 2 then None else Some n) ≡ (if nat_le m 2 then None else Some m) → ((n ≤ 2) × (m ≤ 2)) ⊎ (n ≡ m)
count_one n m e = by (nat_le n 2) (nat_le m 2) refl refl e
  where
    by : (s t : Bool) → nat_le n 2 ≡ s → nat_le m 2 ≡ t → (if s then None else Some n) ≡ (if t then None else Some m) → ((n ≤ 2) × (m ≤ 2)) ⊎ (n ≡ m)
    by true true f h k = inl (leb-true n 2 f, leb-true m 2 h)
    by true false f h k = absurd cc
    by false true f h k = absurd cc
    by false false f h k = inr (cc)

lines_bytes : (ls : List Bytes) → Each (λ l. (l ≢ []) × (has_byte lf l ≡ false) × IsBytes l) ls → IsBytes (flat_map line ls)
lines_bytes [] h = tt
lines_bytes (l ∷ ls) h = Each-append (λ b. b < 256) (l ++ lf ∷ []) (flat_map line ls) (Each-append (λ b. b < 256) l (lf ∷ []) h.0.2 (omega arith, tt)) (lines_bytes ls h.1)

headers_bytes : (headers : Bytes) → AreHeaders headers → IsBytes headers
headers_bytes headers h = subst (λ (x : List ℕ). IsBytes x) (sym h.are) (lines_bytes h.lines h.each)

-- the marks of a commit over blocks
abbrev pub marks_in : List Block → CommitView → ChangesetMarks
marks_in blocks c = changeset_marks c.value (description_of (c.value).message) (residue_in c.rows) (handed_on blocks (c.value).parents (mark_changeset blocks c).rows)

pub marks_are : (blocks : List Block) (c : CommitView) → IsCommitView c → AreChangesetMarks (marks_in blocks c)
unfolding changeset_marks
marks_are blocks c v =
    let given = user_of_line (c.value).author in
    record {
      author = part_is (bytes_eq (c.value).author (line_of_user given.user given.time given.tz)) (c.value).author ((v.value).author).0;
      committer = part_is (bytes_eq (c.value).committer (c.value).author) (c.value).committer ((v.value).committer).0;
      headers = part_is (bytes_eq (c.value).headers []) (c.value).headers (headers_bytes (c.value).headers (v.value).headers);
      message = part_is (bytes_eq (c.value).message (message_of (description_of (c.value).message))) (c.value).message (v.value).message;
      parents = count_is (length (c.value).parents) v.few;
      tree = tree_is (same_items (residue_in c.rows) (handed_on blocks (c.value).parents (mark_changeset blocks c).rows)) (residue_in c.rows) (residue_is c.rows v.rows v.in_order);
    }

-- what equal marks say
pub record SameMarked (c d : Commit) (a b g k : List ResidueItem) : Type 0 where
  pub author : c.author ≡ d.author
  pub committer : c.committer ≡ d.committer
  pub headers : c.headers ≡ d.headers
  pub message : c.message ≡ d.message
  pub count : ((length c.parents ≤ 2) × (length d.parents ≤ 2)) ⊎ (length c.parents ≡ length d.parents)
  pub tree : residue_unless a g ≡ residue_unless b k

marked_one : (c d : Commit) (p q : Bytes) (a b g k : List ResidueItem) → user_of_line c.author ≡ user_of_line d.author → p ≡ q → changeset_marks c p a g ≡ changeset_marks d q b k → SameMarked c d a b g k
unfolding changeset_marks
marked_one c d p q a b g k h s e =
    let given = user_of_line d.author in
    let author = part_one c.author d.author (line_of_user given.user given.time given.tz) (ap (λ (x : UserDate). part_unless c.author (line_of_user x.user x.time x.tz)) (sym h) ∙ ap (λ x. x.author) e) in
    record {
      author = author;
      committer = part_one c.committer d.committer d.author (ap (λ x. part_unless c.committer x) (sym author) ∙ ap (λ x. x.committer) e);
      headers = part_one c.headers d.headers [] (ap (λ x. x.headers) e);
      message = part_one c.message d.message (message_of q) (ap (λ x. part_unless c.message (message_of x)) (sym s) ∙ ap (λ x. x.message) e);
      count = count_one (length c.parents) (length d.parents) (ap (λ x. x.parents) e);
      tree = ap (λ x. x.tree) e;
    }

-- ---- what a marked changeset has

pub p_is : (blocks : List Block) (c : CommitView) → (mark_changeset blocks c).p ≡ P blocks (commit_id c) (length (c.value).parents) (partners_of_parents blocks c)
unfolding mark_changeset rule_changeset parents_of_commit links_of
p_is blocks c = refl

pub q_is : (blocks : List Block) (c : CommitView) → (mark_changeset blocks c).q ≡ second_of (partners_of_parents blocks c)
unfolding mark_changeset rule_changeset parents_of_commit
q_is blocks c = refl

links_are : (blocks : List Block) (c : CommitView) → links_of blocks c ≡ links_by blocks (commit_id c) (length (c.value).parents) (partners_of_parents blocks c)
unfolding links_of
links_are blocks c = refl

pub user_is : (blocks : List Block) (c : CommitView) → ((mark_changeset blocks c).fields).user ≡ (user_of_line (c.value).author).user
unfolding mark_changeset rule_changeset
user_is blocks c = refl

pub description_is : (blocks : List Block) (c : CommitView) → ((mark_changeset blocks c).fields).description ≡ description_of (c.value).message
unfolding mark_changeset rule_changeset
description_is blocks c = refl

pub date_is : (blocks : List Block) (c : CommitView) → ((mark_changeset blocks c).fields).date ≡ Plain (user_of_line (c.value).author).time (user_of_line (c.value).author).tz (extras_of (marks_in blocks c))
unfolding mark_changeset rule_changeset
date_is blocks c = refl

pub rows_are : (blocks : List Block) (c : CommitView) → (mark_changeset blocks c).rows ≡ map (ruled_row (parents_of_commit blocks c)) (files_among c.rows)
unfolding mark_changeset rule_changeset
rows_are blocks c = refl

pub plain_parts : (t z s y : ℤ) (es fs : List Extra) → Plain t z es ≡ Plain s y fs → (t ≡ s) × (z ≡ y) × (es ≡ fs)
plain_parts t z s y es fs e = (cc, cc, cc)

-- ---- the law

pub there : (blocks : List Block) → IsTable blocks → (ids : List Id) → Each (HasId blocks) ids → Each (λ x. x ≢ null) (map (hg_partner blocks) ids)
there blocks t [] h = tt
there blocks t (i ∷ is) h = (hg_there blocks t i h.0, there blocks t is h.1)

long : (blocks : List Block) (is js : List Id) → ((length is ≤ 2) × (length js ≤ 2)) ⊎ (length is ≡ length js) → AreAlikeLong (map (hg_partner blocks) is) (map (hg_partner blocks) js)
long blocks is js (inl h) = inl (simp length-map h.0, simp length-map h.1)
long blocks is js (inr h) = inr (simp length-map h)

pub changeset_one : (blocks : List Block) (Known : ChangesetView → Type 0) → IsTable blocks → AreApart Known → (h : ChangesetView) (c d : CommitView)
    → UnmarksChangeset blocks Known h c → UnmarksChangeset blocks Known h d → c ≡ d
changeset_one blocks Known t apart h c d u v =
    let fields : (mark_changeset blocks c).fields ≡ (mark_changeset blocks d).fields = (u.marked).fields ∙ sym (v.marked).fields in
    let user = sym (user_is blocks c) ∙ ap (λ x. x.user) fields ∙ user_is blocks d in
    let description = sym (description_is blocks c) ∙ ap (λ x. x.description) fields ∙ description_is blocks d in
    let dates = sym (date_is blocks c) ∙ ap (λ x. x.date) fields ∙ date_is blocks d in
    let gc = user_of_line (c.value).author in
    let gd = user_of_line (d.value).author in
    let parts = plain_parts gc.time gc.tz gd.time gd.tz (extras_of (marks_in blocks c)) (extras_of (marks_in blocks d)) dates in
    let given : gc ≡ gd = λ i. record { user = user i; time = parts.0 i; tz = parts.1 i } in
    let marks = extras_one (marks_in blocks c) (marks_in blocks d) (marks_are blocks c u.view) (marks_are blocks d v.view) parts.2 in
    let given_c : List ResidueItem = handed_on blocks (c.value).parents (mark_changeset blocks c).rows in
    let given_d : List ResidueItem = handed_on blocks (d.value).parents (mark_changeset blocks d).rows in
    let same = marked_one c.value d.value (description_of (c.value).message) (description_of (d.value).message) (residue_in c.rows) (residue_in d.rows) given_c given_d given description marks in
    let fc = file_rows c.rows (u.view).rows in
    let fd = file_rows d.rows (v.view).rows in
    let ps = parents_of_commit blocks c in
    let qs = parents_of_commit blocks d in
    let rc = subst (λ x. SameRows x h.rows) (rows_are blocks c) (u.marked).rows in
    let rd = subst (λ x. SameRows x h.rows) (rows_are blocks d) (v.marked).rows in
    let files : plain_rows c.rows ≡ plain_rows d.rows = sym (tree_rows_are ps (files_among c.rows) h.rows fc rc u.bodies) ∙ tree_rows_are qs (files_among d.rows) h.rows fd rd v.bodies in
    let p = sym (p_is blocks c) ∙ (u.marked).p ∙ sym (v.marked).p ∙ p_is blocks d in
    let q = sym (q_is blocks c) ∙ (u.marked).q ∙ sym (v.marked).q ∙ q_is blocks d in
    let nodes = nodes_one blocks Known apart (commit_id c) (commit_id d) (length (c.value).parents) (length (d.value).parents) (partners_of_parents blocks c) (partners_of_parents blocks d)
    (there blocks t (c.value).parents u.paired) (there blocks t (d.value).parents v.paired) (long blocks (c.value).parents (d.value).parents same.count) q
    (subst (λ x. Each (IsKnownAs Known) x) (links_are blocks c) u.walked) (subst (λ x. Each (IsKnownAs Known) x) (links_are blocks d) v.walked) p in
    let parents = map_one (hg_partner blocks) (HasId blocks) (hg_one blocks t) (c.value).parents (d.value).parents u.paired v.paired nodes in
    let held : files_of (mark_changeset blocks c).rows ≡ files_of (mark_changeset blocks d).rows = files_alike (mark_changeset blocks c).rows h.rows (u.marked).rows ∙ sym (files_alike (mark_changeset blocks d).rows h.rows (v.marked).rows) in
    let handed : given_c ≡ given_d = λ i. carried (first_residue blocks (parents i)) (held i) in
    let residue = residue_from (residue_in c.rows) (residue_in d.rows) given_d (ap (residue_unless (residue_in c.rows)) (sym handed) ∙ same.tree) in
    let rows = sym (rows_split c.rows (u.view).in_order (tree_rows c.rows (u.view).rows)) ∙ (λ i. tree_rows_with (residue i) (files i)) ∙ rows_split d.rows (v.view).in_order (tree_rows d.rows (v.view).rows) in
    let tree : (c.value).tree_id ≡ (d.value).tree_id = (u.view).agrees ∙ ap root_of_rows rows ∙ sym (v.view).agrees in
    λ i. record {
      value = record { tree_id = tree i; parents = parents i; author = same.author i; committer = same.committer i; headers = same.headers i; message = same.message i };
      rows = rows i;
    }
