-- The rows of a commit: the files of its changeset, with what the commit of the first parent hands on.
use Rattle.std.proofs.Common.{◌≡◌, ◌≤◌, Bool, true, false, true≢false, List, [], ◌∷◌, ◌++◌, map, length, Option, Some, None, refl, sym, ap, subst, ◌∙◌, arith}
use Rattle.std.specs.List.{filter_map, cons_option, list_any}
use Rattle.std.proofs.lemmas.Option.{same_Some, none-some}
use Rattle.text_model.specs.Lists.{In, Each, in_order}
use Rattle.text_model.specs.Text.{Bytes, is_below}
use Rattle.text_model.specs.Id.{Id, IsId, blob, tree, object_id, blob_id}
use Rattle.text_model.specs.Path.{lies_below}
use Rattle.text_model.proofs.EachLemmas.{Each-append}
use Rattle.text_model.proofs.Elements.{in_left, in_map, map_append}
use Rattle.text_model.proofs.Digests.{IsId-object_id}
use Rattle.git_model.specs.Tree.{Mode, File, GroupFile, Exec, Link as LinkMode, Directory, Gitlink, is_directory, is_blob_mode}
use Rattle.git_model.specs.Unfold.{FileRow, is_path_below}
use Rattle.git_model.specs.Shape.{first_clash}
use Rattle.git_model.specs.Residue.{ResidueItem, ResidueKind, Group, Link, Empty, kind_of_row, item_of, residue_of, fits, carried, plain_mode, mode_with, file_with, is_group_at, row_of_item, rows_with}
use Rattle.git_model.proofs.RowOrder.{each_ordered, behind_filter, filter_ordered, map_ordered}
use Rattle.git_model.proofs.ResidueLemmas.{path_of, IsPlainRow, filter_append, append_none}
use Rattle.git_model.proofs.FitLemmas.{AreApart, CarriedFits, carried-fits}
use Rattle.git_model.proofs.SortLemmas.{Ascends, rises-ascends, ascends-rises, in-order, order-same}
use Rattle.hg_model.specs.Manifest.{Flag, Regular, Executable, Symlink}
use Rattle.tree_shape.specs.Sets.{IsFileRow, IsFiles}
use Rattle.view_model.specs.View.{Row, TreeRow, IsRowId, files_among, tree_paths, has_clash, text_limit}
use Rattle.view_model.specs.Held.{file_row_of}
use Rattle.pair_model.specs.Rule.{mode_of_flag, tree_row_of, tree_row_with, tree_rows_with, no_content}
use Rattle.pair_model.proofs.RuledFiles.{IsRow}
use Rattle.commit_rule.specs.Parts.{AreShortBodies}
use Rattle.commit_rule.proofs.FileLemmas.{IsBlobRow, none-any, unclashed, path-in}

-- ---- rows of the tree

-- what a commit asks of each row of its tree
each-mapped : {X Y : Type 0} (f : X → Y) (P : Y → Type 0) (Q : X → Type 0) → ((x : X) → Q x → P (f x)) → (xs : List X) → Each Q xs → Each P (map f xs)
each-mapped f P Q h [] q = tt
each-mapped f P Q h (x ∷ xs) q = (h x q.0, each-mapped f P Q h xs q.1)

-- rows of files and of items are such rows
module _ (P : TreeRow → Type 0) (items : List ResidueItem) (ts : List TreeRow) where
  pub each-with : Each P (map (tree_row_with items) ts) → Each P (map no_content (filter_map row_of_item items)) → Each P (tree_rows_with items ts)
  unfolding tree_rows_with
  each-with files others =
      each_ordered P (λ a b. is_below a.path b.path) (map (tree_row_with items) ts ++ map no_content (filter_map row_of_item items))
      (Each-append P (map (tree_row_with items) ts) (map no_content (filter_map row_of_item items)) files others)

-- ---- as rows without contents

with-mapped : (items : List ResidueItem) (ts : List TreeRow) → map file_row_of (map (tree_row_with items) ts) ≡ map (file_with items) (map file_row_of ts)
with-mapped items [] = refl
with-mapped items (t ∷ ts) = ap (λ (l : List FileRow). file_with items (file_row_of t) ∷ l) (with-mapped items ts)

bare-mapped : (rows : List FileRow) → map file_row_of (map no_content rows) ≡ rows
bare-mapped [] = refl
bare-mapped (row ∷ rows) = ap (λ (l : List FileRow). row ∷ l) (bare-mapped rows)

pub bare-with : (items : List ResidueItem) (ts : List TreeRow) → map file_row_of (tree_rows_with items ts) ≡ rows_with items (map file_row_of ts)
unfolding tree_rows_with rows_with
bare-with items ts =
    map_ordered file_row_of is_path_below (map (tree_row_with items) ts ++ map no_content (filter_map row_of_item items))
    ∙ ap (in_order is_path_below) (map_append file_row_of (map (tree_row_with items) ts) (map no_content (filter_map row_of_item items))
    ∙ (λ i. with-mapped items ts i ++ bare-mapped (filter_map row_of_item items) i))

-- ---- the files among them

blob-with : (items : List ResidueItem) (path : Bytes) (mode : Mode) → is_blob_mode mode ≡ true → is_blob_mode (mode_with items path mode) ≡ true
blob-with items path mode file = by (list_any (is_group_at path) items) refl
  where
    by : (t : Bool) → list_any (is_group_at path) items ≡ t → is_blob_mode (mode_with items path mode) ≡ true
    by true e = rw e refl
    by false e = rw e file

blobs-with : (items : List ResidueItem) (ts : List TreeRow) → Each IsBlobRow ts → files_among (map (tree_row_with items) ts) ≡ map (tree_row_with items) ts
blobs-with items [] h = refl
blobs-with items (t ∷ ts) h = rw (blob-with items t.path t.mode h.0) (ap (λ (l : List TreeRow). tree_row_with items t ∷ l) (blobs-with items ts h.1))

no-blobs : (items : List ResidueItem) → files_among (map no_content (filter_map row_of_item items)) ≡ []
no-blobs [] = refl
no-blobs (item ∷ items) = by item.path item.kind (no-blobs items)
  where
    by : (path : Bytes) (kind : ResidueKind) → files_among (map no_content (filter_map row_of_item items)) ≡ []
        → files_among (map no_content (cons_option (row_of_item (record { path = path; kind = kind })) (filter_map row_of_item items))) ≡ []
    by path Group h = h
    by path (Link id) h = h
    by path Empty h = h

abbrev path_of_row : TreeRow → Bytes
path_of_row row = row.path

up-with : (items : List ResidueItem) (ts : List TreeRow) → Ascends path_of_row ts → Ascends path_of_row (map (tree_row_with items) ts)
up-with items [] u = tt
up-with items (t ∷ ts) u = (each-mapped (tree_row_with items) (λ row. is_below t.path row.path ≡ true) (λ row. is_below t.path row.path ≡ true) (λ row h. h) ts u.0, up-with items ts u.1)

pub files-with : (items : List ResidueItem) (ts : List TreeRow) → Ascends path_of_row ts → Each IsBlobRow ts → files_among (tree_rows_with items ts) ≡ map (tree_row_with items) ts
unfolding tree_rows_with
files-with items ts up files =
    filter_ordered path_of_row (λ row. is_blob_mode row.mode) (map (tree_row_with items) ts ++ map no_content (filter_map row_of_item items))
    ∙ ap (in_order (λ (a b : TreeRow). is_below a.path b.path)) (filter_append (λ (row : TreeRow). is_blob_mode row.mode) (map (tree_row_with items) ts) (map no_content (filter_map row_of_item items))
    ∙ (λ i. blobs-with items ts files i ++ no-blobs items i) ∙ append_none (map (tree_row_with items) ts))
    ∙ order-same path_of_row (map (tree_row_with items) ts) (up-with items ts up)

-- ---- the items of an old tree

abbrev IsItem : ResidueItem → Type 0
IsItem item = (row : FileRow) → row_of_item item ≡ Some row → IsRow (no_content row)

item-of-row : (path : Bytes) (mode : Mode) (id : Id) → IsFileRow (record { path = path; mode = mode; id = id }) → (item : ResidueItem) → item_of path (kind_of_row mode id) ≡ Some item → IsItem item
item-of-row path File id h item e = absurd (none-some _ e)
item-of-row path Exec id h item e = absurd (none-some _ e)
item-of-row path LinkMode id h item e = absurd (none-some _ e)
item-of-row path GroupFile id h item e = subst IsItem (same_Some _ _ e) (λ row q. absurd (none-some _ q))
item-of-row path Gitlink id h item e = subst IsItem (same_Some _ _ e) (λ row q. subst (λ (r : FileRow). IsRow (no_content r)) (same_Some _ _ q) (h.fit, h.bytes, tt, (h.id, refl)))
item-of-row path Directory id h item e = subst IsItem (same_Some _ _ e) (λ row q. subst (λ (r : FileRow). IsRow (no_content r)) (same_Some _ _ q) (h.fit, h.bytes, tt, (refl, refl)))

are-items : (rows : List FileRow) → Each IsFileRow rows → Each IsItem (residue_of rows)
are-items [] h = tt
are-items (row ∷ rows) h = by (item_of row.path (kind_of_row row.mode row.id)) refl (are-items rows h.1)
  where
    by : (o : Option ResidueItem) → item_of row.path (kind_of_row row.mode row.id) ≡ o → Each IsItem (residue_of rows) → Each IsItem (cons_option o (residue_of rows))
    by None e r = r
    by (Some item) e r = (item-of-row row.path row.mode row.id h.0 item e, r)

rows-of-items : (items : List ResidueItem) → Each IsItem items → Each IsRow (map no_content (filter_map row_of_item items))
rows-of-items [] h = tt
rows-of-items (item ∷ items) h = by (row_of_item item) refl (rows-of-items items h.1)
  where
    by : (o : Option FileRow) → row_of_item item ≡ o → Each IsRow (map no_content (filter_map row_of_item items)) → Each IsRow (map no_content (cons_option o (filter_map row_of_item items)))
    by None e r = r
    by (Some row) e r = (h.0 row e, r)

-- ---- the rows of a commit

row-with : (items : List ResidueItem) (row : Row) → IsRow (tree_row_of row) → IsRow (tree_row_with items (tree_row_of row))
row-with items row h = (h.0, h.1, h.2, by (list_any (is_group_at row.path) items) refl)
  where
    plain : (flag : Flag) → IsRowId (mode_of_flag flag) (blob_id (row.revision).body) (row.revision).body
    plain Regular = refl
    plain Executable = refl
    plain Symlink = refl

    by : (t : Bool) → list_any (is_group_at row.path) items ≡ t → IsRowId (mode_with items row.path (mode_of_flag row.flag)) (blob_id (row.revision).body) (row.revision).body
    by true e = rw e refl
    by false e = rw e (plain row.flag)

rows-with-files : (items : List ResidueItem) (rows : List Row) → Each IsRow (map tree_row_of rows) → Each IsRow (map (tree_row_with items) (map tree_row_of rows))
rows-with-files items [] h = tt
rows-with-files items (row ∷ rows) h = (row-with items row h.0, rows-with-files items rows h.1)

file-of-row : (path : Bytes) (mode : Mode) (id : Id) (content : Bytes) → IsRow (record { path = path; mode = mode; id = id; content = content }) → IsFileRow (record { path = path; mode = mode; id = id })
file-of-row path mode id content h = record { fit = h.0; bytes = h.1; empty = empty mode h.3; id = is_id mode h.3 }
  where
    empty : (m : Mode) → IsRowId m id content → is_directory m ≡ true → id ≡ object_id tree []
    empty Directory k d = k.0
    empty File k d = absurd (true≢false (sym d))
    empty GroupFile k d = absurd (true≢false (sym d))
    empty Exec k d = absurd (true≢false (sym d))
    empty LinkMode k d = absurd (true≢false (sym d))
    empty Gitlink k d = absurd (true≢false (sym d))

    of-blob : id ≡ blob_id content → IsId id
    of-blob k = subst IsId (sym k) (IsId-object_id blob content)

    is_id : (m : Mode) → IsRowId m id content → IsId id
    is_id Directory k = subst IsId (sym k.0) (IsId-object_id tree [])
    is_id Gitlink k = k.0
    is_id File k = of-blob k
    is_id GroupFile k = of-blob k
    is_id Exec k = of-blob k
    is_id LinkMode k = of-blob k

pub file-rows : (ts : List TreeRow) → Each IsRow ts → Each IsFileRow (map file_row_of ts)
file-rows [] h = tt
file-rows (t ∷ ts) h = (file-of-row t.path t.mode t.id t.content h.0, file-rows ts h.1)

plain-rows : (rows : List Row) → Each IsPlainRow (map file_row_of (map tree_row_of rows))
plain-rows [] = tt
plain-rows (row ∷ rows) = (of-flag row.flag, plain-rows rows)
  where
    of-flag : (flag : Flag) → (is_blob_mode (mode_of_flag flag) ≡ true) × (plain_mode (mode_of_flag flag) ≡ mode_of_flag flag)
    of-flag Regular = (refl, refl)
    of-flag Executable = (refl, refl)
    of-flag Symlink = (refl, refl)

-- rows of which no path lies below another
pub apart-rows : (ts : List TreeRow) → has_clash (tree_paths ts) ≡ false → AreApart (map file_row_of ts)
apart-rows ts h a b i j =
    none-any (lies_below a.path) (tree_paths ts) (none-any (λ path. list_any (lies_below path) (tree_paths ts)) (tree_paths ts) h a.path (path-in ts a i)) b.path (path-in ts b j)

-- rows of an old tree
pub record AreOld (old : List FileRow) : Type 0 where
  pub files : IsFiles old
  pub apart : AreApart old

-- what the rows of a commit are
pub record AreRows (old : List FileRow) (rows : List Row) : Type 0 where
  pub each : Each IsRow (tree_rows_with (carried (residue_of old) (map file_row_of (map tree_row_of rows))) (map tree_row_of rows))
  pub files : IsFiles (rows_with (carried (residue_of old) (map file_row_of (map tree_row_of rows))) (map file_row_of (map tree_row_of rows)))
  pub apart : first_clash (rows_with (carried (residue_of old) (map file_row_of (map tree_row_of rows))) (map file_row_of (map tree_row_of rows))) ≡ None
  pub fit : CarriedFits (residue_of old) (map file_row_of (map tree_row_of rows))

module _ (old : List FileRow) (are : AreOld old) (rows : List Row) (each : Each IsRow (map tree_row_of rows)) (files : IsFiles (map file_row_of (map tree_row_of rows)))
    (apart : has_clash (tree_paths (map tree_row_of rows)) ≡ false) where
  items : List ResidueItem
  items = carried (residue_of old) (map file_row_of (map tree_row_of rows))

  fit : CarriedFits (residue_of old) (map file_row_of (map tree_row_of rows))
  fit =
      carried-fits old (map file_row_of (map tree_row_of rows)) (rises-ascends path_of old (are.files).in_order) are.apart
      (rises-ascends path_of (map file_row_of (map tree_row_of rows)) files.in_order) (plain-rows rows) (apart-rows (map tree_row_of rows) apart)

  each-row : Each IsRow (tree_rows_with items (map tree_row_of rows))
  unfolding items
  each-row = each-with IsRow items (map tree_row_of rows) (rows-with-files items rows each)
      (rows-of-items items (behind_filter IsItem (fits (map file_row_of (map tree_row_of rows))) (residue_of old) (are-items old (are.files).each)))

  pub are-rows : AreRows old rows
  unfolding items
  are-rows = record {
    each = each-row;
    files = record {
      each = subst (Each IsFileRow) (bare-with items (map tree_row_of rows)) (file-rows (tree_rows_with items (map tree_row_of rows)) each-row);
      in_order = ascends-rises path_of (rows_with items (map file_row_of (map tree_row_of rows))) fit.up;
    };
    apart = unclashed 0 [] (rows_with items (map file_row_of (map tree_row_of rows))) (λ t b i j. fit.apart t b i j);
    fit = fit;
  }

-- ---- their contents

pub short-rows : (items : List ResidueItem) (rows : List Row) → AreShortBodies rows → Each (λ row. length row.content ≤ text_limit) (tree_rows_with items (map tree_row_of rows))
short-rows items rows short =
    each-with (λ row. length row.content ≤ text_limit) items (map tree_row_of rows) (bodies rows short) (none (filter_map row_of_item items))
  where
    bodies : (rs : List Row) → AreShortBodies rs → Each (λ row. length row.content ≤ text_limit) (map (tree_row_with items) (map tree_row_of rs))
    bodies [] h = tt
    bodies (r ∷ rs) h = (h.0, bodies rs h.1)

    none : (rs : List FileRow) → Each (λ row. length row.content ≤ text_limit) (map no_content rs)
    none [] = tt
    none (r ∷ rs) = (omega arith, none rs)

-- the row of a file is one of them
pub row-in : (items : List ResidueItem) (rows : List Row) (row : Row) → In row rows → In (tree_row_with items (tree_row_of row)) (tree_rows_with items (map tree_row_of rows))
unfolding tree_rows_with
row-in items rows row i =
    in-order (λ (a b : TreeRow). is_below a.path b.path) (tree_row_with items (tree_row_of row)) (map (tree_row_with items) (map tree_row_of rows) ++ map no_content (filter_map row_of_item items))
    (in_left (tree_row_with items (tree_row_of row)) (map (tree_row_with items) (map tree_row_of rows)) (map no_content (filter_map row_of_item items))
    (in_map (tree_row_with items) (tree_row_of row) (map tree_row_of rows) (in_map tree_row_of row rows i)))

pub blob-row : (items : List ResidueItem) (row : Row) → IsBlobRow (tree_row_with items (tree_row_of row))
blob-row items row = blob-with items row.path (mode_of_flag row.flag) (of-flag row.flag)
  where
    of-flag : (flag : Flag) → is_blob_mode (mode_of_flag flag) ≡ true
    of-flag Regular = refl
    of-flag Executable = refl
    of-flag Symlink = refl
