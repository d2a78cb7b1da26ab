-- The residue of an unmarking: it is the one that is named or handed on, and it fits the files.
use Rattle.std.proofs.Common.{◌≡◌, Bool, true, false, List, [], ◌∷◌, ◌++◌, map, Option, Some, None, refl, sym, ap, subst, ◌∙◌, inl, inr}
use Rattle.std.specs.Prelude.{unwrap_or, IsTrue, if◌then◌else◌}
use Rattle.std.specs.List.{list_any, filter_map, cons_option}
use Rattle.text_model.specs.Lists.{Each, In, rises}
use Rattle.text_model.specs.Id.{Id, blob_id}
use Rattle.text_model.proofs.EachLemmas.{Each-append}
use Rattle.text_model.proofs.Elements.{each_in, none_all}
use Rattle.hg_model.specs.Manifest.{Flag, Regular, Executable, Symlink}
use Rattle.hg_model.specs.FileText.{IsFile}
use Rattle.text_model.specs.Text.{Bytes, IsBytes, is_below}
use Rattle.text_model.specs.Path.{is_fit_path, lies_below}
use Rattle.git_model.specs.Unfold.{FileRow}
use Rattle.git_model.specs.Tree.{Mode, File, GroupFile, Exec, Link as LinkMode, Directory, Gitlink}
use Rattle.git_model.specs.Residue.{ResidueKind, Group, Link, Empty, ResidueItem, kind_of_row, item_of, residue_of, fits, carried, plain_file, plain_files, is_group_at, mode_with, row_of_item, rows_with}
use Rattle.git_model.proofs.SortLemmas.{rises-ascends, ascends-rises}
use Rattle.git_model.proofs.RowOrder.{each_ordered}
use Rattle.git_model.proofs.ResidueLemmas.{path_of, path_of_item, residue-with}
use Rattle.git_model.proofs.FitLemmas.{each_none, AreApart, residue-fits, carried-up, carried-apart}
use Rattle.view_model.specs.Held.{file_row_of}
use Rattle.view_model.specs.View.{Row, paths_of, IsRevision, TreeRow, ChangesetView, CommitView, files_among, tree_paths, has_clash, IsRowId, SameRows, HaveSameBodies}
use Rattle.pair_model.specs.Block.{Block}
use Rattle.pair_model.specs.User.{user_of_line}
use Rattle.pair_model.specs.MarkList.{ChangesetMarks, extras_of, item_paths, IsItemKind}
use Rattle.pair_model.specs.Rule.{mode_of_flag, tree_row_of, carried_to, tree_row_with, no_content, tree_rows_with}
use Rattle.pair_model.specs.Octopus.{parents_of_commit}
use Rattle.partner_model.specs.Mark.{same_items, residue_unless, residue_in, first_residue, handed_on, changeset_marks, mark_commit, mark_changeset}
use Rattle.partner_model.specs.Partner.{UnmarksChangeset}
use Rattle.partner_model.specs.Table.{IsTable}
use Rattle.partner_model.specs.Filled.{HasMarks}
use Rattle.residue_law.specs.Residues.{ResidueIsRead, ResidueFits, HandsOn, RowsAreRead, ItemsFit, ResidueBuilds}
use Rattle.mark_law.proofs.Extras.{extras_one}
use Rattle.unmark_law.proofs.ChangesetOne.{IsViewRow, same_items_is, marks_in, marks_are, date_is, rows_are, plain_parts, file_rows, tree_rows, tree_rows_are}
use Rattle.mark_law.proofs.Residues.{IsItem}
use Rattle.unmark_law.proofs.TreeRows.{plain_row, plain_rows, files_of, files_alike, files_up, files_plain, among_joined, paths_joined, rows_joined, rows_split, marked_rows, files_with, residue_marked}
use Rattle.unmark_law.proofs.Same.{same_commit}

pub marks_read : (blocks : List Block) (Known : ChangesetView → Type 0) (h : ChangesetView) (c : CommitView) (m : ChangesetMarks) → HasMarks h m → UnmarksChangeset blocks Known h c → marks_in blocks c ≡ m
marks_read blocks Known h c m k u =
    let given = user_of_line (c.value).author in
    let parts = plain_parts given.time given.tz k.0 k.1 (extras_of (marks_in blocks c)) (extras_of m) (sym (date_is blocks c) ∙ ap (λ x. x.date) (u.marked).fields ∙ k.2) in
    extras_one (marks_in blocks c) m (marks_are blocks c u.view) k.3 parts.2

tree_is : (blocks : List Block) (c : CommitView) → (marks_in blocks c).tree ≡ residue_unless (residue_in c.rows) (handed_on blocks (c.value).parents (mark_changeset blocks c).rows)
unfolding changeset_marks
tree_is blocks c = refl

read_by : (a g : List ResidueItem) → a ≡ unwrap_or (residue_unless a g) g
read_by a g = by (same_items a g) refl
  where
    by : (t : Bool) → same_items a g ≡ t → a ≡ unwrap_or (if t then None else Some a) g
    by true e = same_items_is a g e
    by false e = refl

pub residue_read : (blocks : List Block) (Known : ChangesetView → Type 0) → ResidueIsRead blocks Known
residue_read blocks Known h c m k u =
    let tree = sym (tree_is blocks c) ∙ ap (λ x. x.tree) (marks_read blocks Known h c m k u) in
    let held = files_alike (mark_changeset blocks c).rows h.rows (u.marked).rows in
    read_by (residue_in c.rows) (handed_on blocks (c.value).parents (mark_changeset blocks c).rows) ∙ (λ i. unwrap_or (tree i) (carried (first_residue blocks (c.value).parents) (held i)))

-- ---- it fits

clash_free : (paths : List Bytes) → has_clash paths ≡ false → (p q : Bytes) → In p paths → In q paths → lies_below p q ≡ false
clash_free paths h p q i j =
    let a = each_in (λ x. list_any (lies_below x) paths ≡ false) paths p (each_none (λ x. list_any (lies_below x) paths) paths h) i in
    each_in (λ x. lies_below p x ≡ false) paths q (each_none (lies_below p) paths a) j

path_in : (rows : List TreeRow) (x : FileRow) → In x (map file_row_of rows) → In x.path (tree_paths rows)
path_in [] x i = absurd i
path_in (r ∷ rs) x (inl e) = inl (ap (λ y. y.path) e)
path_in (r ∷ rs) x (inr i) = inr (path_in rs x i)

rows_apart : (rows : List TreeRow) → has_clash (tree_paths rows) ≡ false → AreApart (map file_row_of rows)
rows_apart rows h a b i j = clash_free (tree_paths rows) h a.path b.path (path_in rows a i) (path_in rows b j)

plain_joined : (rows : List TreeRow) → map file_row_of (map plain_row rows) ≡ map plain_file (map file_row_of rows)
plain_joined [] = refl
plain_joined (r ∷ rs) = ap (λ (zs : List FileRow). plain_file (file_row_of r) ∷ zs) (plain_joined rs)

pub residue_fits : (blocks : List Block) (Known : ChangesetView → Type 0) → ResidueFits blocks Known
residue_fits blocks Known h c m items k e u =
    let read : residue_in c.rows ≡ items = residue_read blocks Known h c m k u ∙ ap (λ o. unwrap_or o (handed_on blocks (c.value).parents h.rows)) e in
    let fc = file_rows c.rows (u.view).rows in
    let rc = subst (λ x. SameRows x h.rows) (rows_are blocks c) (u.marked).rows in
    let plain : map tree_row_of h.rows ≡ plain_rows c.rows = tree_rows_are (parents_of_commit blocks c) (files_among c.rows) h.rows fc rc u.bodies in
    let files : files_of h.rows ≡ plain_files (map file_row_of c.rows) = ap (map file_row_of) plain ∙ plain_joined (files_among c.rows) ∙ ap (map plain_file) (among_joined c.rows) in
    let fit = residue-fits (map file_row_of c.rows) (paths_joined c.rows (u.view).in_order) (rows_apart c.rows (u.view).no_clash) in
    subst (λ is. Each (λ i. IsTrue (fits (files_of h.rows) i)) is) read (subst (λ fs. Each (λ i. IsTrue (fits fs i)) (residue_in c.rows)) (sym files) fit)

-- ---- a marked commit's files and residue

pub bodies_with : (items : List ResidueItem) (hs : List Row) → HaveSameBodies hs (map (tree_row_with items) (map tree_row_of hs))
bodies_with items [] = tt
bodies_with items (h ∷ hs) = (refl, refl, bodies_with items hs)

pub hands_on : (blocks : List Block) → IsTable blocks → HandsOn blocks
hands_on blocks t h v = (
  residue_marked blocks t h (mark_commit blocks h) v.in_order (same_commit (mark_commit blocks h)),
  subst (λ x. HaveSameBodies h.rows x) (sym (ap files_among (marked_rows blocks h) ∙ files_with (carried_to blocks h) h.rows v.in_order)) (bodies_with (carried_to blocks h) h.rows),
)

-- ---- what is to be tested of a named residue

pub rows_read : (blocks : List Block) (Known : ChangesetView → Type 0) → RowsAreRead blocks Known
rows_read blocks Known h c m k u =
    let fc = file_rows c.rows (u.view).rows in
    let rc = subst (λ x. SameRows x h.rows) (rows_are blocks c) (u.marked).rows in
    let plain : map tree_row_of h.rows ≡ plain_rows c.rows = tree_rows_are (parents_of_commit blocks c) (files_among c.rows) h.rows fc rc u.bodies in
    let read = residue_read blocks Known h c m k u in
    sym (rows_split c.rows (u.view).in_order (tree_rows c.rows (u.view).rows)) ∙ (λ i. tree_rows_with (read i) (sym plain i))

item_row_at : (rows : List TreeRow) (p : Bytes) → In p (item_paths (residue_in rows)) → In p (tree_paths rows)
item_row_at [] p i = absurd i
item_row_at (r ∷ rs) p i = by r.path r.mode r.id i (item_row_at rs p)
  where
    by : (path : Bytes) (mode : Mode) (id : Id) → In p (item_paths (cons_option (item_of path (kind_of_row mode id)) (residue_in rs))) → (In p (item_paths (residue_in rs)) → In p (tree_paths rs)) → In p (path ∷ tree_paths rs)
    by path File id j go = inr (go j)
    by path Exec id j go = inr (go j)
    by path LinkMode id j go = inr (go j)
    by path GroupFile id (inl e) go = inl e
    by path GroupFile id (inr j) go = inr (go j)
    by path Directory id (inl e) go = inl e
    by path Directory id (inr j) go = inr (go j)
    by path Gitlink id (inl e) go = inl e
    by path Gitlink id (inr j) go = inr (go j)

-- no clash among some of the paths
clash_none : (all : List Bytes) → has_clash all ≡ false → (paths : List Bytes) → ((p : Bytes) → In p paths → In p all) → has_clash paths ≡ false
clash_none all h paths among =
    none_all (λ p. list_any (lies_below p) paths) paths (λ p i.
    none_all (lies_below p) paths (λ q j. clash_free all h p q (among p i) (among q j)))

fit_items : (rows : List TreeRow) → Each IsViewRow rows → Each (λ i. IsTrue (is_fit_path i.path)) (residue_in rows)
fit_items [] h = tt
fit_items (r ∷ rs) h = by r.path r.mode r.id h.0.0 (fit_items rs h.1)
  where
    by : (path : Bytes) (mode : Mode) (id : Id) → IsTrue (is_fit_path path) → Each (λ i. IsTrue (is_fit_path i.path)) (residue_in rs) → Each (λ i. IsTrue (is_fit_path i.path)) (cons_option (item_of path (kind_of_row mode id)) (residue_in rs))
    by path File id f go = go
    by path Exec id f go = go
    by path LinkMode id f go = go
    by path GroupFile id f go = (f, go)
    by path Directory id f go = (f, go)
    by path Gitlink id f go = (f, go)

pub items_fit : (blocks : List Block) (Known : ChangesetView → Type 0) → ItemsFit blocks Known
items_fit blocks Known h c m items k e u =
    let read : residue_in c.rows ≡ items = residue_read blocks Known h c m k u ∙ ap (λ o. unwrap_or o (handed_on blocks (c.value).parents h.rows)) e in
    record {
      paths = subst (λ is. Each (λ i. IsTrue (is_fit_path i.path)) is) read (fit_items c.rows (u.view).rows);
      no_clash = subst (λ is. has_clash (item_paths is) ≡ false) read (clash_none (tree_paths c.rows) (u.view).no_clash (item_paths (residue_in c.rows)) (item_row_at c.rows));
    }

-- ---- such a residue makes a commit's rows

body_bytes : (meta : Option Bytes) (body : Bytes) → IsFile meta body → IsBytes body
body_bytes None body h = h.0
body_bytes (Some meta) body h = h.0

blob_id_row : (items : List ResidueItem) (path : Bytes) (f : Flag) (body : Bytes) → IsRowId (mode_with items path (mode_of_flag f)) (blob_id body) body
blob_id_row items path f body = by (list_any (is_group_at path) items) refl f
  where
    by : (t : Bool) → list_any (is_group_at path) items ≡ t → (f : Flag) → IsRowId (mode_with items path (mode_of_flag f)) (blob_id body) body
    by true e f = rw e refl
    by false e Regular = rw e refl
    by false e Executable = rw e refl
    by false e Symlink = rw e refl

view_files : (items : List ResidueItem) (hs : List Row) → Each (λ row. IsTrue (is_fit_path row.path) × IsBytes row.path × IsRevision row.revision) hs → Each IsViewRow (map (tree_row_with items) (map tree_row_of hs))
view_files items [] v = tt
view_files items (h ∷ hs) v = ((v.0.0, v.0.1, body_bytes (h.revision).meta (h.revision).body (v.0.2).2, blob_id_row items h.path h.flag (h.revision).body), view_files items hs v.1)

view_items : (items : List ResidueItem) → Each IsItem items → Each (λ i. IsTrue (is_fit_path i.path)) items → Each IsViewRow (map no_content (filter_map row_of_item items))
view_items [] b f = tt
view_items (i ∷ is) b f = by i.path i.kind f.0 b.0.0 b.0.1 (view_items is b.1 f.1)
  where
    by : (path : Bytes) (kind : ResidueKind) → IsTrue (is_fit_path path) → IsBytes path → IsItemKind kind → Each IsViewRow (map no_content (filter_map row_of_item is)) → Each IsViewRow (map no_content (cons_option (row_of_item (record { path = path; kind = kind })) (filter_map row_of_item is)))
    by path Group g p k go = go
    by path (Link id) g p k go = ((g, p, tt, (k, refl)), go)
    by path Empty g p k go = ((g, p, tt, (refl, refl)), go)

pub view_rows : (items : List ResidueItem) (hs : List Row) → Each (λ row. IsTrue (is_fit_path row.path) × IsBytes row.path × IsRevision row.revision) hs → Each IsItem items → Each (λ i. IsTrue (is_fit_path i.path)) items → Each IsViewRow (tree_rows_with items (map tree_row_of hs))
unfolding tree_rows_with
view_rows items hs v b f =
    each_ordered IsViewRow (λ (x y : TreeRow). is_below x.path y.path) (map (tree_row_with items) (map tree_row_of hs) ++ map no_content (filter_map row_of_item items))
    (Each-append IsViewRow (map (tree_row_with items) (map tree_row_of hs)) (map no_content (filter_map row_of_item items)) (view_files items hs v) (view_items items b f))

paths_are : (rows : List TreeRow) → tree_paths rows ≡ map path_of (map file_row_of rows)
paths_are [] = refl
paths_are (r ∷ rs) = ap (λ (zs : List Bytes). r.path ∷ zs) (paths_are rs)

paths_same : (rows : List Row) → paths_of rows ≡ map path_of (files_of rows)
paths_same [] = refl
paths_same (r ∷ rs) = ap (λ (zs : List Bytes). r.path ∷ zs) (paths_same rs)

file_path_in : (rows : List Row) (x : FileRow) → In x (files_of rows) → In x.path (paths_of rows)
file_path_in [] x i = absurd i
file_path_in (r ∷ rs) x (inl e) = inl (ap (λ y. y.path) e)
file_path_in (r ∷ rs) x (inr i) = inr (file_path_in rs x i)

item_path_in : (items : List ResidueItem) (x : ResidueItem) → In x items → In x.path (item_paths items)
item_path_in [] x i = absurd i
item_path_in (r ∷ rs) x (inl e) = inl (ap (λ y. y.path) e)
item_path_in (r ∷ rs) x (inr i) = inr (item_path_in rs x i)

path_row : (rows : List FileRow) (p : Bytes) → In p (map path_of rows) → (x : FileRow) × In x rows × (p ≡ x.path)
path_row [] p i = absurd i
path_row (r ∷ rs) p (inl e) = (r, inl refl, e)
path_row (r ∷ rs) p (inr i) = let g = path_row rs p i in (g.0, inr g.1, g.2)

apart_clash : (rows : List FileRow) → AreApart rows → has_clash (map path_of rows) ≡ false
apart_clash rows a =
    none_all (λ p. list_any (lies_below p) (map path_of rows)) (map path_of rows) (λ p i.
    none_all (lies_below p) (map path_of rows) (λ q j. one p q (path_row rows p i) (path_row rows q j)))
  where
    one : (p q : Bytes) → (x : FileRow) × In x rows × (p ≡ x.path) → (y : FileRow) × In y rows × (q ≡ y.path) → lies_below p q ≡ false
    one p q x y = (λ i. lies_below (x.2 i) (y.2 i)) ∙ a x.0 y.0 x.1 y.1

pub residue_builds : ResidueBuilds
residue_builds h items v clash is fit all =
    let fu = files_up h.rows v.in_order in
    let iu = rises-ascends path_of_item items is.1 in
    let joined = rows_joined items (map tree_row_of h.rows) in
    let up = carried-up items (files_of h.rows) fu iu all in
    let fa : AreApart (files_of h.rows) = λ a b i j. clash_free (paths_of h.rows) clash a.path b.path (file_path_in h.rows a i) (file_path_in h.rows b j) in
    let apart = carried-apart items (files_of h.rows) fa (λ i j p q gi gj. clash_free (item_paths items) fit.no_clash i.path j.path (item_path_in items i p) (item_path_in items j q)) all in
    let order : rises is_below (map path_of (rows_with items (files_of h.rows))) ≡ true = ascends-rises path_of (rows_with items (files_of h.rows)) up in
    let paths : map path_of (rows_with items (files_of h.rows)) ≡ tree_paths (tree_rows_with items (map tree_row_of h.rows)) = ap (map path_of) (sym joined) ∙ sym (paths_are (tree_rows_with items (map tree_row_of h.rows))) in (
      record {
        each = view_rows items h.rows v.rows is.0 fit.paths;
        in_order = subst (λ ps. rises is_below ps ≡ true) paths order;
        no_clash = subst (λ ps. has_clash ps ≡ false) paths (apart_clash (rows_with items (files_of h.rows)) apart);
      },
      ap residue_of joined ∙ residue-with items (files_of h.rows) fu (files_plain h.rows) iu all,
      subst (λ x. HaveSameBodies h.rows x) (sym (files_with items h.rows v.in_order)) (bodies_with items h.rows),
    )
