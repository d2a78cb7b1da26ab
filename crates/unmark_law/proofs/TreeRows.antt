-- The rows of a commit are its files with its residue; the files of a marked commit are those of its changeset.
use Rattle.std.proofs.Common.{◌≡◌, ◌≢◌, Bool, true, false, List, [], ◌∷◌, ◌++◌, map, Option, Some, None, refl, sym, ap, subst, ◌∙◌, inl, inr}
use Rattle.std.specs.Prelude.{not, filter, bytes_eq, option_map, unwrap_or, IsTrue}
use Rattle.std.specs.List.{AllZip, filter_map, list_any}
use Rattle.std.proofs.lemmas.Slice.Eq.{bytes_eq-Decides}
use Rattle.text_model.proofs.Options.{some_is}
use Rattle.text_model.specs.Lists.{Each, In, rises, in_order}
use Rattle.text_model.specs.Text.{Bytes, is_below}
use Rattle.text_model.specs.Id.{Id, null, is_null, blob_id, tree, object_id}
use Rattle.hg_model.specs.Manifest.{Flag, Regular, Executable, Symlink}
use Rattle.git_model.specs.Tree.{File, Exec, Link as LinkMode, is_directory, is_blob_mode}
use Rattle.git_model.specs.Unfold.{FileRow, is_path_below}
use Rattle.git_model.specs.Residue.{ResidueItem, residue_of, fits, plain_mode, is_group_at, mode_with, file_with, row_of_item, rows_with}
use Rattle.text_model.proofs.Elements.{map_append, each_in}
use Rattle.git_model.proofs.SortLemmas.{Ascends, rises-ascends, order-same}
use Rattle.git_model.proofs.RowOrder.{merge_again, filter_ordered, map_ordered}
use Rattle.git_model.proofs.ResidueLemmas.{filter_append, append_none, no_files, path_of, path_of_item, is_file, GroupsAre, groups_again, mode_again, IsKeptRow, others_back, IsPlainRow, GroupsFit, files-with, residue-with, carried_fits, groups_fit, up_filter, up_residue}
use Rattle.view_model.specs.Held.{file_row_of}
use Rattle.view_model.specs.View.{Row, paths_of, ChangesetView, TreeRow, CommitView, files_among, tree_paths, SameRows, SameTreeRows, SameCommit, compared_revision, Compared}
use Rattle.pair_model.specs.Block.{Block, node_of, id_of, block_of_node, block_of_id, git_partner, hg_partner, not_null}
use Rattle.pair_model.specs.Octopus.{first_of}
use Rattle.pair_model.specs.Rule.{mode_of_flag, flag_of_mode, tree_row_of, old_residue, carried_to, tree_row_with, no_content, tree_rows_with, rule_commit, ruled_row, ruled_revision}
use Rattle.pair_model.specs.Block.{Parents}
use Rattle.partner_model.specs.Mark.{residue_in, first_residue, mark_commit}
use Rattle.partner_model.specs.Table.{IsTable}
use Rattle.unmark_law.proofs.Tables.{eq_true, finds, one_for, HasNode, HasId, git_has, hg_has}

-- the files of a changeset as rows of a tree
abbrev pub files_of : List Row → List FileRow
files_of rows = map file_row_of (map tree_row_of rows)

-- ---- rows without contents

files_joined : (items : List ResidueItem) (rows : List TreeRow) → map file_row_of (map (tree_row_with items) rows) ≡ map (file_with items) (map file_row_of rows)
files_joined items [] = refl
files_joined items (r ∷ rs) = ap (λ (zs : List FileRow). file_with items (file_row_of r) ∷ zs) (files_joined items rs)

others_joined : (rows : List FileRow) → map file_row_of (map no_content rows) ≡ rows
others_joined [] = refl
others_joined (r ∷ rs) = ap (λ (zs : List FileRow). r ∷ zs) (others_joined rs)

pub rows_joined : (items : List ResidueItem) (rows : List TreeRow) → map file_row_of (tree_rows_with items rows) ≡ rows_with items (map file_row_of rows)
unfolding tree_rows_with rows_with
rows_joined items rows =
    let a = files_joined items rows in
    let b = others_joined (filter_map row_of_item items) in
    map_ordered file_row_of is_path_below (map (tree_row_with items) rows ++ map no_content (filter_map row_of_item items))
    ∙ ap (in_order is_path_below) (map_append file_row_of (map (tree_row_with items) rows) (map no_content (filter_map row_of_item items)) ∙ (λ i. a i ++ b i))

pub joined_from : (xs ys : List TreeRow) → SameTreeRows xs ys → map file_row_of xs ≡ map file_row_of ys
joined_from [] [] s = refl
joined_from [] (y ∷ ys) s = absurd s
joined_from (x ∷ xs) [] s = absurd s
joined_from (x ∷ xs) (y ∷ ys) s =
    let t = joined_from xs ys s.3 in
    λ i. record { path = s.0 i; mode = s.1 i; id = s.2 i } ∷ t i

row_parts : (a b : FileRow) (as' bs : List FileRow) → a ∷ as' ≡ b ∷ bs → (a ≡ b) × (as' ≡ bs)
row_parts a b as' bs e = (cc, cc)

pub joined_to : (xs ys : List TreeRow) → map file_row_of xs ≡ map file_row_of ys → SameTreeRows xs ys
joined_to [] [] e = tt
joined_to [] (y ∷ ys) e = absurd cc
joined_to (x ∷ xs) [] e = absurd cc
joined_to (x ∷ xs) (y ∷ ys) e =
    let p = row_parts (file_row_of x) (file_row_of y) (map file_row_of xs) (map file_row_of ys) e in
    (ap (λ r. r.path) p.0, ap (λ r. r.mode) p.0, ap (λ r. r.id) p.0, joined_to xs ys p.1)

pub among_joined : (rows : List TreeRow) → map file_row_of (files_among rows) ≡ filter is_file (map file_row_of rows)
among_joined [] = refl
among_joined (r ∷ rs) = by (is_blob_mode r.mode) refl (among_joined rs)
  where
    by : (t : Bool) → is_blob_mode r.mode ≡ t → map file_row_of (files_among rs) ≡ filter is_file (map file_row_of rs) → map file_row_of (files_among (r ∷ rs)) ≡ filter is_file (map file_row_of (r ∷ rs))
    by true e go = rw e (ap (λ (zs : List FileRow). file_row_of r ∷ zs) go)
    by false e go = rw e go

-- ---- a commit's rows are its files and its residue

-- a file as a changeset holds it
abbrev pub plain_row : TreeRow → TreeRow
plain_row row = record { path = row.path; mode = plain_mode row.mode; id = row.id; content = row.content }

abbrev pub plain_rows : List TreeRow → List TreeRow
plain_rows rows = map plain_row (files_among rows)

-- an empty subtree has its id, and what is no file has no content
abbrev pub IsTreeRow : TreeRow → Type 0
IsTreeRow row = (is_directory row.mode ≡ true → row.id ≡ object_id tree []) × (is_blob_mode row.mode ≡ false → row.content ≡ [])

files_split : (items : List ResidueItem) (rows : List TreeRow) → GroupsAre items (map file_row_of rows) → map (tree_row_with items) (plain_rows rows) ≡ files_among rows
files_split items [] g = refl
files_split items (x ∷ xs) g = by (is_blob_mode x.mode) refl (files_split items xs g.1)
  where
    by : (t : Bool) → is_blob_mode x.mode ≡ t → map (tree_row_with items) (plain_rows xs) ≡ files_among xs → map (tree_row_with items) (plain_rows (x ∷ xs)) ≡ files_among (x ∷ xs)
    by true e go =
        let m = mode_again items x.path x.mode g.0 e in
        rw e (λ i. record { path = x.path; mode = m i; id = x.id; content = x.content } ∷ go i)
    by false e go = rw e go

kept_rows : (rows : List TreeRow) → Each IsTreeRow rows → Each IsKeptRow (map file_row_of rows)
kept_rows [] k = tt
kept_rows (r ∷ rs) k = (k.0.0, kept_rows rs k.1)

others_split : (rows : List TreeRow) → Each IsTreeRow rows → map no_content (filter (λ r. not (is_file r)) (map file_row_of rows)) ≡ filter (λ (r : TreeRow). not (is_blob_mode r.mode)) rows
others_split [] k = refl
others_split (x ∷ xs) k = by (is_blob_mode x.mode) refl (others_split xs k.1)
  where
    by : (t : Bool) → is_blob_mode x.mode ≡ t → map no_content (filter (λ r. not (is_file r)) (map file_row_of xs)) ≡ filter (λ (r : TreeRow). not (is_blob_mode r.mode)) xs
        → map no_content (filter (λ r. not (is_file r)) (map file_row_of (x ∷ xs))) ≡ filter (λ (r : TreeRow). not (is_blob_mode r.mode)) (x ∷ xs)
    by true e go = rw e go
    by false e go =
        let c = k.0.1 e in
        rw e (λ i. record { path = x.path; mode = x.mode; id = x.id; content = sym c i } ∷ go i)

pub paths_joined : (rows : List TreeRow) → IsTrue (rises is_below (tree_paths rows)) → Ascends path_of (map file_row_of rows)
paths_joined rows h = rises-ascends path_of (map file_row_of rows) (subst (λ ps. IsTrue (rises is_below ps)) (same rows) h)
  where
    same : (rs : List TreeRow) → tree_paths rs ≡ map path_of (map file_row_of rs)
    same [] = refl
    same (r ∷ rs) = ap (λ (zs : List Bytes). r.path ∷ zs) (same rs)

pub rows_split : (rows : List TreeRow) → IsTrue (rises is_below (tree_paths rows)) → Each IsTreeRow rows → tree_rows_with (residue_in rows) (plain_rows rows) ≡ rows
unfolding tree_rows_with
rows_split rows h k =
    let a = files_split (residue_in rows) rows (groups_again (map file_row_of rows) (paths_joined rows h)) in
    let b = ap (map no_content) (others_back (map file_row_of rows) (kept_rows rows k)) ∙ others_split rows k in
    (λ i. in_order (λ x y. is_below x.path y.path) (a i ++ b i)) ∙ merge_again (λ r. r.path) (λ (r : TreeRow). is_blob_mode r.mode) rows (rises-ascends (λ r. r.path) rows h)

-- ---- the files of a changeset

flag_plain : (f : Flag) → (is_blob_mode (mode_of_flag f) ≡ true) × (plain_mode (mode_of_flag f) ≡ mode_of_flag f)
flag_plain Regular = (refl, refl)
flag_plain Executable = (refl, refl)
flag_plain Symlink = (refl, refl)

pub files_plain : (rows : List Row) → Each IsPlainRow (files_of rows)
files_plain [] = tt
files_plain (r ∷ rs) = (flag_plain r.flag, files_plain rs)

pub files_up : (rows : List Row) → IsTrue (rises is_below (paths_of rows)) → Ascends path_of (files_of rows)
files_up rows h = rises-ascends path_of (files_of rows) (subst (λ ps. IsTrue (rises is_below ps)) (same rows) h)
  where
    same : (rs : List Row) → paths_of rs ≡ map path_of (files_of rs)
    same [] = refl
    same (r ∷ rs) = ap (λ (zs : List Bytes). r.path ∷ zs) (same rs)

-- rows that are the same have the same files
pub files_alike : (xs ys : List Row) → SameRows xs ys → files_of xs ≡ files_of ys
files_alike [] [] s = refl
files_alike [] (y ∷ ys) s = absurd s
files_alike (x ∷ xs) [] s = absurd s
files_alike (x ∷ xs) (y ∷ ys) s =
    let t = files_alike xs ys s.1 in
    let b : blob_id (x.revision).body ≡ blob_id (y.revision).body = ap (λ (r : Compared). r.body) (s.0).2 in
    λ i. record { path = (s.0).0 i; mode = mode_of_flag ((s.0).1 i); id = b i } ∷ t i

-- the row of a commit is that of the changeset's file, or its group may write it
pub record IsFileOf (h : Row) (c : TreeRow) : Type 0 where
  pub path : h.path ≡ c.path
  pub flag : flag_of_mode c.mode ≡ h.flag
  pub id : blob_id (h.revision).body ≡ c.id

pub flag_with : (items : List ResidueItem) (path : Bytes) (f : Flag) → (list_any (is_group_at path) items ≡ true → mode_of_flag f ≡ File) → flag_of_mode (mode_with items path (mode_of_flag f)) ≡ f
flag_with items path f g = by (list_any (is_group_at path) items) refl f g
  where
    by : (t : Bool) → list_any (is_group_at path) items ≡ t → (f : Flag) → (list_any (is_group_at path) items ≡ true → mode_of_flag f ≡ File) → flag_of_mode (mode_with items path (mode_of_flag f)) ≡ f
    by true e Regular g = rw e refl
    by true e Executable g = let k : Exec ≡ File = g e in absurd cc
    by true e Symlink g = let k : LinkMode ≡ File = g e in absurd cc
    by false e Regular g = rw e refl
    by false e Executable g = rw e refl
    by false e Symlink g = rw e refl

zipped : (items : List ResidueItem) (hs : List Row) (cs : List TreeRow) → GroupsFit items (files_of hs) → map file_row_of cs ≡ map (file_with items) (files_of hs) → AllZip IsFileOf hs cs
zipped items [] [] g e = tt
zipped items [] (c ∷ cs) g e = absurd cc
zipped items (h ∷ hs) [] g e = absurd cc
zipped items (h ∷ hs) (c ∷ cs) g e =
    let p = row_parts (file_row_of c) (file_with items (file_row_of (tree_row_of h))) (map file_row_of cs) (map (file_with items) (files_of hs)) e in (
      record { path = sym (ap (λ r. r.path) p.0); flag = ap (λ r. flag_of_mode r.mode) p.0 ∙ flag_with items h.path h.flag g.0; id = sym (ap (λ r. r.id) p.0) },
      zipped items hs cs g.1 p.1,
    )

pub marked_rows : (blocks : List Block) (h : ChangesetView) → (mark_commit blocks h).rows ≡ tree_rows_with (carried_to blocks h) (map tree_row_of h.rows)
unfolding mark_commit rule_commit
marked_rows blocks h = refl

-- the rows of a marked commit
pub rows_marked : (blocks : List Block) (h : ChangesetView) (c : CommitView) → SameCommit (mark_commit blocks h) c → map file_row_of c.rows ≡ rows_with (carried_to blocks h) (files_of h.rows)
rows_marked blocks h c s = sym (joined_from (mark_commit blocks h).rows c.rows s.rows) ∙ ap (map file_row_of) (marked_rows blocks h) ∙ rows_joined (carried_to blocks h) (map tree_row_of h.rows)

pub files_marked : (blocks : List Block) (h : ChangesetView) (c : CommitView) → IsTrue (rises is_below (paths_of h.rows)) → SameCommit (mark_commit blocks h) c → AllZip IsFileOf h.rows (files_among c.rows)
files_marked blocks h c up s =
    let u = files_up h.rows up in
    let fit = groups_fit (files_of h.rows) u (carried_to blocks h) (carried_fits (old_residue blocks h.p) (files_of h.rows)) in
    zipped (carried_to blocks h) h.rows (files_among c.rows) fit (among_joined c.rows ∙ ap (filter is_file) (rows_marked blocks h c s) ∙ files-with (carried_to blocks h) (files_of h.rows) u (files_plain h.rows))

-- the residue of the first parent's partner rises
found_in : (node : Id) (bs : List Block) (x : Block) → block_of_node bs node ≡ Some x → In x bs
found_in node [] x h = absurd cc
found_in node (d ∷ ds) x h = by (bytes_eq (node_of d) node) refl (found_in node ds x)
  where
    by : (s : Bool) → bytes_eq (node_of d) node ≡ s → (block_of_node ds node ≡ Some x → In x ds) → In x (d ∷ ds)
    by true f go = let g : Some d ≡ Some x = rw f at h in inl (sym (some_is g))
    by false f go = inr (go (rw f at h))

old_up : (blocks : List Block) → IsTable blocks → (node : Id) → Ascends path_of_item (old_residue blocks node)
old_up blocks t node = by (block_of_node blocks node) refl
  where
    by : (o : Option Block) → block_of_node blocks node ≡ o → Ascends path_of_item (unwrap_or (option_map (λ b. residue_in (b.commit).rows) o) [])
    by None e = tt
    by (Some b) e = up_residue (map file_row_of (b.commit).rows) (paths_joined (b.commit).rows (each_in (λ b. IsTrue (rises is_below (tree_paths (b.commit).rows))) blocks b t.rows (found_in node blocks b e)))

-- its residue is what was handed on
pub residue_marked : (blocks : List Block) → IsTable blocks → (h : ChangesetView) (c : CommitView) → IsTrue (rises is_below (paths_of h.rows)) → SameCommit (mark_commit blocks h) c → residue_in c.rows ≡ carried_to blocks h
residue_marked blocks t h c up s =
    let u = files_up h.rows up in
    ap residue_of (rows_marked blocks h c s)
    ∙ residue-with (carried_to blocks h) (files_of h.rows) u (files_plain h.rows) (up_filter (fits (files_of h.rows)) (old_residue blocks h.p) (old_up blocks t h.p)) (carried_fits (old_residue blocks h.p) (files_of h.rows))

-- a revision of the rule hangs on the path, the id and the content of the row
pub revision_same : (ps : Parents) (a b : TreeRow) → a.path ≡ b.path → a.id ≡ b.id → a.content ≡ b.content → (ruled_row ps a).revision ≡ (ruled_row ps b).revision
unfolding ruled_revision
revision_same ps a b p i c = λ k. (ruled_row ps (record { path = p k; mode = File; id = i k; content = c k })).revision

-- ---- the rows of a marked commit, with their contents

blob_with : (items : List ResidueItem) (path : Bytes) (f : Flag) → is_blob_mode (mode_with items path (mode_of_flag f)) ≡ true
blob_with items path f = by (list_any (is_group_at path) items) refl
  where
    by : (t : Bool) → list_any (is_group_at path) items ≡ t → is_blob_mode (mode_with items path (mode_of_flag f)) ≡ true
    by true e = rw e refl
    by false e = rw e (flag_plain f).0

files_kept : (items : List ResidueItem) (hs : List Row) → files_among (map (tree_row_with items) (map tree_row_of hs)) ≡ map (tree_row_with items) (map tree_row_of hs)
files_kept items [] = refl
files_kept items (h ∷ hs) = rw (blob_with items h.path h.flag) (ap (λ (rs : List TreeRow). tree_row_with items (tree_row_of h) ∷ rs) (files_kept items hs))

none_kept : (rows : List FileRow) → filter is_file rows ≡ [] → files_among (map no_content rows) ≡ []
none_kept [] e = refl
none_kept (r ∷ rs) e = by (is_blob_mode r.mode) refl (none_kept rs)
  where
    by : (t : Bool) → is_blob_mode r.mode ≡ t → (filter is_file rs ≡ [] → files_among (map no_content rs) ≡ []) → files_among (map no_content (r ∷ rs)) ≡ []
    by true f go = let g : r ∷ filter is_file rs ≡ [] = rw f at e in absurd cc
    by false f go = rw f (go (rw f at e))

paths_with : (items : List ResidueItem) (hs : List Row) → map (λ (r : TreeRow). r.path) (map (tree_row_with items) (map tree_row_of hs)) ≡ paths_of hs
paths_with items [] = refl
paths_with items (h ∷ hs) = ap (λ (ps : List Bytes). h.path ∷ ps) (paths_with items hs)

pub files_with : (items : List ResidueItem) (hs : List Row) → IsTrue (rises is_below (paths_of hs)) → files_among (tree_rows_with items (map tree_row_of hs)) ≡ map (tree_row_with items) (map tree_row_of hs)
unfolding tree_rows_with
files_with items hs h =
    let a = map (tree_row_with items) (map tree_row_of hs) in
    let b = map no_content (filter_map row_of_item items) in
    let up = rises-ascends (λ (r : TreeRow). r.path) a (subst (λ ps. rises is_below ps ≡ true) (sym (paths_with items hs)) h) in
    let x = filter_append (λ (r : TreeRow). is_blob_mode r.mode) a b in
    let y = files_kept items hs in
    let z = none_kept (filter_map row_of_item items) (no_files items) in
    filter_ordered (λ (r : TreeRow). r.path) (λ (r : TreeRow). is_blob_mode r.mode) (a ++ b)
    ∙ ap (in_order (λ (x y : TreeRow). is_below x.path y.path)) (x ∙ (λ i. y i ++ z i) ∙ append_none a) ∙ order-same (λ (r : TreeRow). r.path) a up

-- where the rule gives these revisions of the changeset's own files, it gives them of the marked commit's
pub ruled_with : (ps : Parents) (items : List ResidueItem) (hs : List Row) → GroupsFit items (files_of hs) → SameRows (map (ruled_row ps) (map tree_row_of hs)) hs → SameRows (map (ruled_row ps) (map (tree_row_with items) (map tree_row_of hs))) hs
ruled_with ps items [] g s = tt
ruled_with ps items (h ∷ hs) g s = (
  (refl, flag_with items h.path h.flag g.0, ap (λ r. compared_revision r) (revision_same ps (tree_row_with items (tree_row_of h)) (tree_row_of h) refl refl refl) ∙ (s.0).2),
  ruled_with ps items hs g.1 s.1,
)

pub marked_fit : (blocks : List Block) (h : ChangesetView) → IsTrue (rises is_below (paths_of h.rows)) → GroupsFit (carried_to blocks h) (files_of h.rows)
marked_fit blocks h up = groups_fit (files_of h.rows) (files_up h.rows up) (carried_to blocks h) (carried_fits (old_residue blocks h.p) (files_of h.rows))

-- ---- the first parent's residue, by either side

none_null : (blocks : List Block) → Each (λ b. node_of b ≢ null) blocks → block_of_node blocks null ≡ None
none_null [] h = refl
none_null (b ∷ bs) h = by (bytes_eq (node_of b) null) refl (none_null bs h.1)
  where
    by : (t : Bool) → bytes_eq (node_of b) null ≡ t → block_of_node bs null ≡ None → block_of_node (b ∷ bs) null ≡ None
    by true e go = absurd (h.0 (eq_true (node_of b) null e))
    by false e go = rw e go

pub no_old : (blocks : List Block) → IsTable blocks → (p : Id) → p ≡ null → old_residue blocks p ≡ []
no_old blocks t p e = ap (old_residue blocks) e ∙ ap (λ o. unwrap_or (option_map (λ b. residue_of (map file_row_of (b.commit).rows)) o) []) (none_null blocks t.there)

abbrev pub residue_at : Option Block → List ResidueItem
residue_at o = unwrap_or (option_map (λ b. residue_in (b.commit).rows) o) []

one_residue : (blocks : List Block) → IsTable blocks → (n : Id) → HasNode blocks n → residue_at (block_of_id blocks (git_partner blocks n)) ≡ residue_at (block_of_node blocks n)
one_residue blocks t n h =
    let a = finds node_of n blocks h in
    let x : git_partner blocks n ≡ id_of a.it = ap (λ o. unwrap_or (option_map id_of o) null) a.found in
    let b = finds id_of (git_partner blocks n) blocks (git_has blocks n h) in
    let z = one_for id_of blocks t.ids b.it a.it b.among a.among (b.is ∙ x) in
    ap residue_at (b.found ∙ ap Some z ∙ sym a.found)

-- what a marked commit's first parent hands on is what its changeset's first parent does
pub first_old : (blocks : List Block) → IsTable blocks → (p q : Id) → (p ≡ null → q ≡ null) → Each (HasNode blocks) (not_null (p ∷ q ∷ [])) → first_residue blocks (map (git_partner blocks) (not_null (p ∷ q ∷ []))) ≡ old_residue blocks p
first_old blocks t p q f h = by (is_null p) refl (is_null q) refl
  where
    by : (s : Bool) → is_null p ≡ s → (u : Bool) → is_null q ≡ u → first_residue blocks (map (git_partner blocks) (not_null (p ∷ q ∷ []))) ≡ old_residue blocks p
    by true e u k =
        let a = eq_true p null e in
        let g : is_null q ≡ true = (bytes_eq-Decides q null).1 (f a) in
        rw (e, g) (sym (no_old blocks t p a))
    by false e u k =
        let g = rw e at h in
        rw e (one_residue blocks t p g.0)

one_old : (blocks : List Block) → IsTable blocks → (n : Id) → HasId blocks n → residue_at (block_of_node blocks (hg_partner blocks n)) ≡ residue_at (block_of_id blocks n)
one_old blocks t n h =
    let a = finds id_of n blocks h in
    let x : hg_partner blocks n ≡ node_of a.it = ap (λ o. unwrap_or (option_map node_of o) null) a.found in
    let b = finds node_of (hg_partner blocks n) blocks (hg_has blocks n h) in
    let z = one_for node_of blocks t.nodes b.it a.it b.among a.among (b.is ∙ x) in
    ap residue_at (b.found ∙ ap Some z ∙ sym a.found)

pub old_first : (blocks : List Block) → IsTable blocks → (ids : List Id) → Each (HasId blocks) ids → old_residue blocks (first_of (map (hg_partner blocks) ids)) ≡ first_residue blocks ids
old_first blocks t [] h = no_old blocks t null refl
old_first blocks t (i ∷ is) h = one_old blocks t i h.0
