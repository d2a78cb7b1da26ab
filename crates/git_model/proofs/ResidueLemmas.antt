-- Rows are their files and their residue; and files with what a parent hands on have those files and that residue.
use Rattle.std.proofs.Common.{◌≡◌, Bool, true, false, true≢false, List, [], ◌∷◌, ◌++◌, map, Option, Some, None, refl, sym, ap, subst, ◌∙◌}
use Rattle.std.specs.Prelude.{not, ◌&&◌, ◌||◌, filter, bytes_eq, if◌then◌else◌}
use Rattle.std.specs.List.{filter_map, list_any, cons_option}
use Rattle.std.proofs.lemmas.Slice.Eq.{bytes_eq-Decides}
use Rattle.std.proofs.lemmas.List.Elements.{filter_map-append}
use Rattle.text_model.specs.Lists.{Each, in_order}
use Rattle.text_model.specs.Text.{Bytes, is_below}
use Rattle.text_model.specs.Id.{Id, tree, object_id}
use Rattle.text_model.proofs.OrderLemmas.{is_below-irreflexive, is_below-chain, below-other, above-other}
use Rattle.text_model.proofs.Options.{some_is}
use Rattle.text_model.proofs.TestLemmas.{bytes_eq-self}
use Rattle.git_model.specs.Tree.{Mode, File, GroupFile, Exec, Link as LinkMode, Directory, Gitlink, is_directory, is_blob_mode}
use Rattle.git_model.specs.Unfold.{FileRow, by_paths}
use Rattle.git_model.specs.Residue.{ResidueKind, Group, Link, Empty, ResidueItem, kind_of_row, item_of, residue_of, is_plain, fits, carried, plain_mode, plain_file, plain_files, is_group_at, mode_with, file_with, row_of_item, rows_with}
use Rattle.git_model.proofs.SortLemmas.{Ascends, order-same}
use Rattle.git_model.proofs.RowOrder.{Behind, merge_again, taken_ordered, filter_ordered}

abbrev pub path_of : FileRow → Bytes
path_of row = row.path

abbrev pub path_of_item : ResidueItem → Bytes
path_of_item item = item.path

abbrev pub item_in : FileRow → Option ResidueItem
item_in row = item_of row.path (kind_of_row row.mode row.id)

abbrev pub is_file : FileRow → Bool
is_file row = is_blob_mode row.mode

abbrev pub is_group_mode : Mode → Bool
is_group_mode GroupFile = true
is_group_mode _ = false

abbrev pub is_group : ResidueItem → Bool
is_group item = elim item.kind as (λ _. Bool) [ Group ↦ true | Link id ↦ false | Empty ↦ false ]

-- ---- paths that differ

neither_of : (a b r : Bool) → b ≡ false → r ≡ false → (a && b || r) ≡ false
neither_of true b r h k = rw (h, k) refl
neither_of false b r h k = k

only_first : (a b r : Bool) → b ≡ true → r ≡ false → (a && b || r) ≡ a
only_first true b r h k = rw h refl
only_first false b r h k = k

only_last : (a b r : Bool) → b ≡ false → (a && b || r) ≡ r
only_last true b r h = rw h refl
only_last false b r h = refl

-- ---- the rows that a group may write

at_mode : (p path : Bytes) (mode : Mode) (id : Id) (rest : List ResidueItem) → list_any (is_group_at p) (cons_option (item_of path (kind_of_row mode id)) rest) ≡ (is_group_mode mode && bytes_eq path p || list_any (is_group_at p) rest)
at_mode p path File id rest = refl
at_mode p path GroupFile id rest = refl
at_mode p path Exec id rest = refl
at_mode p path LinkMode id rest = refl
at_mode p path Directory id rest = refl
at_mode p path Gitlink id rest = refl

none_at : (p : Bytes) (rows : List FileRow) → Behind path_of p rows → list_any (is_group_at p) (residue_of rows) ≡ false
none_at p [] h = refl
none_at p (x ∷ xs) h =
    at_mode p x.path x.mode x.id (residue_of xs) ∙ neither_of (is_group_mode x.mode) (bytes_eq x.path p) (list_any (is_group_at p) (residue_of xs)) (above-other p x.path h.0) (none_at p xs h.1)

-- an item says of just those rows that their group may write them
abbrev pub GroupsAre : List ResidueItem → List FileRow → Type 0
GroupsAre items rows = Each (λ r. list_any (is_group_at r.path) items ≡ is_group_mode r.mode) rows

pub groups_again : (rows : List FileRow) → Ascends path_of rows → GroupsAre (residue_of rows) rows
groups_again [] u = tt
groups_again (x ∷ xs) u = (
  at_mode x.path x.path x.mode x.id (residue_of xs) ∙ only_first (is_group_mode x.mode) (bytes_eq x.path x.path) (list_any (is_group_at x.path) (residue_of xs)) (bytes_eq-self x.path) (none_at x.path xs u.0),
  further xs u.0 (groups_again xs u.1),
)
  where
    further : (ys : List FileRow) → Behind path_of x.path ys → GroupsAre (residue_of xs) ys → GroupsAre (residue_of (x ∷ xs)) ys
    further [] b g = tt
    further (y ∷ ys) b g =
        (at_mode y.path x.path x.mode x.id (residue_of xs) ∙ only_last (is_group_mode x.mode) (bytes_eq x.path y.path) (list_any (is_group_at y.path) (residue_of xs)) (below-other x.path y.path b.0) ∙ g.0, further ys b.1 g.1)

pub mode_again : (items : List ResidueItem) (path : Bytes) (mode : Mode) → list_any (is_group_at path) items ≡ is_group_mode mode → is_blob_mode mode ≡ true → mode_with items path (plain_mode mode) ≡ mode
mode_again items path File h b = rw h refl
mode_again items path GroupFile h b = rw h refl
mode_again items path Exec h b = rw h refl
mode_again items path LinkMode h b = rw h refl
mode_again items path Directory h b = absurd (true≢false (sym b))
mode_again items path Gitlink h b = absurd (true≢false (sym b))

files_back : (items : List ResidueItem) (rows : List FileRow) → GroupsAre items rows → map (file_with items) (plain_files rows) ≡ filter is_file rows
files_back items [] g = refl
files_back items (x ∷ xs) g = by (is_blob_mode x.mode) refl (files_back items xs g.1)
  where
    by : (t : Bool) → is_blob_mode x.mode ≡ t → map (file_with items) (plain_files xs) ≡ filter is_file xs → map (file_with items) (plain_files (x ∷ xs)) ≡ filter is_file (x ∷ xs)
    by true e go =
        let m = mode_again items x.path x.mode g.0 e in
        rw e (λ i. record { path = x.path; mode = m i; id = x.id } ∷ go i)
    by false e go = rw e go

-- ---- the rows that are no files

-- an empty subtree has the id of the tree without entries
abbrev pub IsKeptRow : FileRow → Type 0
IsKeptRow row = is_directory row.mode ≡ true → row.id ≡ object_id tree []

other_back : (path : Bytes) (mode : Mode) (id : Id) → (is_directory mode ≡ true → id ≡ object_id tree []) → (more : List ResidueItem) (rest : List FileRow) → filter_map row_of_item more ≡ rest
    → filter_map row_of_item (cons_option (item_of path (kind_of_row mode id)) more) ≡ (if not (is_blob_mode mode) then record { path = path; mode = mode; id = id } ∷ rest else rest)
other_back path File id k more rest e = e
other_back path GroupFile id k more rest e = e
other_back path Exec id k more rest e = e
other_back path LinkMode id k more rest e = e
other_back path Directory id k more rest e = let same = sym (k refl) in λ i. record { path = path; mode = Directory; id = same i } ∷ e i
other_back path Gitlink id k more rest e = λ i. record { path = path; mode = Gitlink; id = id } ∷ e i

pub others_back : (rows : List FileRow) → Each IsKeptRow rows → filter_map row_of_item (residue_of rows) ≡ filter (λ r. not (is_file r)) rows
others_back [] k = refl
others_back (x ∷ xs) k = other_back x.path x.mode x.id k.0 (residue_of xs) (filter (λ r. not (is_file r)) xs) (others_back xs k.1)

-- Rows in order are their files, as a changeset holds them, with their residue.
pub residue-splits : (rows : List FileRow) → Ascends path_of rows → Each IsKeptRow rows → rows_with (residue_of rows) (plain_files rows) ≡ rows
unfolding rows_with
residue-splits rows u k =
    let a = files_back (residue_of rows) rows (groups_again rows u) in
    let b = others_back rows k in
    (λ i. by_paths (a i ++ b i)) ∙ merge_again path_of is_file rows u

-- ---- files with what is handed on to them

-- a file as a changeset holds it
abbrev pub IsPlainRow : FileRow → Type 0
IsPlainRow row = (is_blob_mode row.mode ≡ true) × (plain_mode row.mode ≡ row.mode)

-- a file that an item says its group may write can't be run
abbrev pub GroupsFit : List ResidueItem → List FileRow → Type 0
GroupsFit items rows = Each (λ r. list_any (is_group_at r.path) items ≡ true → r.mode ≡ File) rows

pub filter_append : {X : Type 0} (p : X → Bool) (xs ys : List X) → filter p (xs ++ ys) ≡ filter p xs ++ filter p ys
filter_append p [] ys = refl
filter_append {X = X} p (x ∷ xs) ys = by (p x) refl (filter_append p xs ys)
  where
    by : (t : Bool) → p x ≡ t → filter p (xs ++ ys) ≡ filter p xs ++ filter p ys → filter p (x ∷ xs ++ ys) ≡ filter p (x ∷ xs) ++ filter p ys
    by true e go = rw e (ap (λ (zs : List X). x ∷ zs) go)
    by false e go = rw e go

blob_with : (items : List ResidueItem) (path : Bytes) (mode : Mode) → is_blob_mode mode ≡ true → is_blob_mode (mode_with items path mode) ≡ true
blob_with items path mode h = by (list_any (is_group_at path) items) refl
  where
    by : (t : Bool) → list_any (is_group_at path) items ≡ t → is_blob_mode (mode_with items path mode) ≡ true
    by true e = rw e refl
    by false e = rw e h

files_kept : (items : List ResidueItem) (files : List FileRow) → Each IsPlainRow files → filter is_file (map (file_with items) files) ≡ map (file_with items) files
files_kept items [] k = refl
files_kept items (f ∷ fs) k = rw (blob_with items f.path f.mode k.0.0) (ap (λ (ys : List FileRow). file_with items f ∷ ys) (files_kept items fs k.1))

no_file : (path : Bytes) (kind : ResidueKind) → (rest : List FileRow) → filter is_file rest ≡ [] → filter is_file (cons_option (row_of_item (record { path = path; kind = kind })) rest) ≡ []
no_file path Group rest e = e
no_file path (Link id) rest e = e
no_file path Empty rest e = e

pub no_files : (items : List ResidueItem) → filter is_file (filter_map row_of_item items) ≡ []
no_files [] = refl
no_files (i ∷ is) = no_file i.path i.kind (filter_map row_of_item is) (no_files is)

pub append_none : {X : Type 0} (xs : List X) → xs ++ [] ≡ xs
append_none [] = refl
append_none {X = X} (x ∷ xs) = ap (λ (ys : List X). x ∷ ys) (append_none xs)

pub up_with : (items : List ResidueItem) (files : List FileRow) → Ascends path_of files → Ascends path_of (map (file_with items) files)
up_with items [] u = tt
up_with items (f ∷ fs) u = (behind fs u.0, up_with items fs u.1)
  where
    behind : (gs : List FileRow) → Behind path_of f.path gs → Behind path_of f.path (map (file_with items) gs)
    behind [] h = tt
    behind (g ∷ gs) h = (h.0, behind gs h.1)

-- the files among files with a residue are those files, some with another mode
pub files-with : (items : List ResidueItem) (files : List FileRow) → Ascends path_of files → Each IsPlainRow files → filter is_file (rows_with items files) ≡ map (file_with items) files
unfolding rows_with
files-with items files u k =
    let a = filter_append is_file (map (file_with items) files) (filter_map row_of_item items) in
    let b = files_kept items files k in
    let c = no_files items in
    filter_ordered path_of is_file (map (file_with items) files ++ filter_map row_of_item items)
    ∙ ap by_paths (a ∙ (λ i. b i ++ c i) ∙ append_none (map (file_with items) files)) ∙ order-same path_of (map (file_with items) files) (up_with items files u)

pub mode_plain : (items : List ResidueItem) (path : Bytes) (mode : Mode) → plain_mode mode ≡ mode → (list_any (is_group_at path) items ≡ true → mode ≡ File) → plain_mode (mode_with items path mode) ≡ mode
mode_plain items path mode p f = by (list_any (is_group_at path) items) refl
  where
    by : (t : Bool) → list_any (is_group_at path) items ≡ t → plain_mode (mode_with items path mode) ≡ mode
    by true e = rw e (sym (f e))
    by false e = rw e p

plain_again : (items : List ResidueItem) (files : List FileRow) → Each IsPlainRow files → GroupsFit items files → map plain_file (map (file_with items) files) ≡ files
plain_again items [] k g = refl
plain_again items (f ∷ fs) k g =
    let m = mode_plain items f.path f.mode k.0.1 g.0 in
    let t = plain_again items fs k.1 g.1 in
    λ i. record { path = f.path; mode = m i; id = f.id } ∷ t i

-- as a changeset holds them they are the files
pub plain-with : (items : List ResidueItem) (files : List FileRow) → Ascends path_of files → Each IsPlainRow files → GroupsFit items files → plain_files (rows_with items files) ≡ files
plain-with items files u k g = ap (map plain_file) (files-with items files u k) ∙ plain_again items files k g

-- ---- their residue

other_item : (path : Bytes) (kind : ResidueKind) → (more : List FileRow) (rest : List ResidueItem) → residue_of more ≡ rest
    → residue_of (cons_option (row_of_item (record { path = path; kind = kind })) more) ≡ (if not (is_group (record { path = path; kind = kind })) then record { path = path; kind = kind } ∷ rest else rest)
other_item path Group more rest e = e
other_item path (Link id) more rest e = λ i. record { path = path; kind = Link id } ∷ e i
other_item path Empty more rest e = λ i. record { path = path; kind = Empty } ∷ e i

other_items : (items : List ResidueItem) → residue_of (filter_map row_of_item items) ≡ filter (λ i. not (is_group i)) items
other_items [] = refl
other_items (i ∷ is) = other_item i.path i.kind (filter_map row_of_item is) (filter (λ j. not (is_group j)) is) (other_items is)

abbrev group_item : Bytes → ResidueItem
group_item path = record { path = path; kind = Group }

-- the item of a file whose path a group item has
abbrev picked : List ResidueItem → FileRow → Option ResidueItem
picked items f = if list_any (is_group_at f.path) items then Some (group_item f.path) else None

plain_no_item : (path : Bytes) (mode : Mode) (id : Id) → is_blob_mode mode ≡ true → plain_mode mode ≡ mode → item_of path (kind_of_row mode id) ≡ None
plain_no_item path File id b p = refl
plain_no_item path GroupFile id b p = absurd (true≢false (ap is_group_mode (sym p)))
plain_no_item path Exec id b p = refl
plain_no_item path LinkMode id b p = refl
plain_no_item path Directory id b p = absurd (true≢false (sym b))
plain_no_item path Gitlink id b p = absurd (true≢false (sym b))

item_with : (items : List ResidueItem) (f : FileRow) → IsPlainRow f → item_in (file_with items f) ≡ picked items f
item_with items f k = by (list_any (is_group_at f.path) items) refl
  where
    by : (t : Bool) → list_any (is_group_at f.path) items ≡ t → item_in (file_with items f) ≡ picked items f
    by true e = rw e refl
    by false e = rw e (plain_no_item f.path f.mode f.id k.0 k.1)

items_with : (items : List ResidueItem) (files : List FileRow) → Each IsPlainRow files → residue_of (map (file_with items) files) ≡ filter_map (picked items) files
items_with items [] k = refl
items_with items (f ∷ fs) k = λ i. cons_option (item_with items f k.0 i) (items_with items fs k.1 i)

-- items of which each is a group's
abbrev AllGroups : List ResidueItem → Type 0
AllGroups gs = Each (λ g. g.kind ≡ Group) gs

group_at_is : (p : Bytes) (g : ResidueItem) → g.kind ≡ Group → is_group_at p g ≡ bytes_eq g.path p
group_at_is p g h = rw h refl

no_group_at : (p : Bytes) (gs : List ResidueItem) → AllGroups gs → Behind path_of_item p gs → list_any (is_group_at p) gs ≡ false
no_group_at p [] a b = refl
no_group_at p (g ∷ gs) a b = rw (group_at_is p g a.0 ∙ above-other p g.path b.0, no_group_at p gs a.1 b.1) refl

none_picked : (files : List FileRow) → filter_map (picked []) files ≡ []
none_picked [] = refl
none_picked (f ∷ fs) = none_picked fs

-- the first group item is at none of the files
picked_past : (g : ResidueItem) (gs : List ResidueItem) (files : List FileRow) → g.kind ≡ Group → Behind path_of g.path files → filter_map (picked (g ∷ gs)) files ≡ filter_map (picked gs) files
picked_past g gs [] k b = refl
picked_past g gs (f ∷ fs) k b = rw (group_at_is f.path g k ∙ below-other g.path f.path b.0) (ap (cons_option (picked gs f)) (picked_past g gs fs k b.1))

-- each path is that of a file
abbrev AreThere : List ResidueItem → List FileRow → Type 0
AreThere gs files = Each (λ g. list_any (λ (row : FileRow). bytes_eq row.path g.path) files ≡ true) gs

there_past : (f : FileRow) (gs : List ResidueItem) (fs : List FileRow) → Behind path_of_item f.path gs → AreThere gs (f ∷ fs) → AreThere gs fs
there_past f [] fs b h = tt
there_past f (g ∷ gs) fs b h = (rw (below-other f.path g.path b.0) at h.0, there_past f gs fs b.1 h.1)

behind_there : (p q : Bytes) (files : List FileRow) → Behind path_of p files → list_any (λ (row : FileRow). bytes_eq row.path q) files ≡ true → is_below p q ≡ true
behind_there p q [] b h = absurd (true≢false (sym h))
behind_there p q (f ∷ fs) b h = by (bytes_eq f.path q) refl (behind_there p q fs b.1)
  where
    by : (t : Bool) → bytes_eq f.path q ≡ t → (list_any (λ (row : FileRow). bytes_eq row.path q) fs ≡ true → is_below p q ≡ true) → is_below p q ≡ true
    by true e go = ap (is_below p) (sym ((bytes_eq-Decides f.path q).0 e)) ∙ b.0
    by false e go = go (rw e at h)

further_behind : (p q : Bytes) (gs : List ResidueItem) → is_below p q ≡ true → Behind path_of_item q gs → Behind path_of_item p gs
further_behind p q [] h b = tt
further_behind p q (g ∷ gs) h b = (is_below-chain p q g.path h b.0, further_behind p q gs h b.1)

all_picked : (gs : List ResidueItem) (files : List FileRow) → AllGroups gs → Ascends path_of_item gs → Ascends path_of files → AreThere gs files → filter_map (picked gs) files ≡ gs
all_picked [] files a u v h = none_picked files
all_picked (g ∷ gs) [] a u v h = absurd (true≢false (sym h.0))
all_picked (g ∷ gs) (f ∷ fs) a u v h = by (bytes_eq f.path g.path) refl (all_picked gs fs a.1 u.1 v.1) (all_picked (g ∷ gs) fs a u v.1)
  where
    by : (t : Bool) → bytes_eq f.path g.path ≡ t → (AreThere gs fs → filter_map (picked gs) fs ≡ gs) → (AreThere (g ∷ gs) fs → filter_map (picked (g ∷ gs)) fs ≡ g ∷ gs) → filter_map (picked (g ∷ gs)) (f ∷ fs) ≡ g ∷ gs
    by true e go later =
        let same = (bytes_eq-Decides f.path g.path).0 e in
        let at : is_group_at f.path g ≡ true = group_at_is f.path g a.0 ∙ ap (bytes_eq g.path) same ∙ bytes_eq-self g.path in
        let rest = picked_past g gs fs a.0 (subst (λ p. Behind path_of p fs) same v.0) ∙ go (there_past f gs fs (subst (λ p. Behind path_of_item p gs) (sym same) u.0) h.1) in
        rw at (λ i. record { path = same i; kind = sym a.0 i } ∷ rest i)
    by false e go later =
        let there : list_any (λ (row : FileRow). bytes_eq row.path g.path) fs ≡ true = rw e at h.0 in
        let below = behind_there f.path g.path fs v.0 there in
        let behind = further_behind f.path g.path gs below u.0 in
        let no : list_any (is_group_at f.path) gs ≡ false = no_group_at f.path gs a.1 behind in
        let first : is_group_at f.path g ≡ false = group_at_is f.path g a.0 ∙ above-other f.path g.path below in
        rw (first, no) (later (there, there_past f gs fs behind h.1))

is_group_kind : (path : Bytes) (kind : ResidueKind) → is_group (record { path = path; kind = kind }) ≡ true → kind ≡ Group
is_group_kind path Group e = refl
is_group_kind path (Link id) e = absurd (true≢false (sym e))
is_group_kind path Empty e = absurd (true≢false (sym e))

groups_all : (items : List ResidueItem) → AllGroups (filter is_group items)
groups_all [] = tt
groups_all (i ∷ is) = by (is_group i) refl (groups_all is)
  where
    by : (t : Bool) → is_group i ≡ t → AllGroups (filter is_group is) → AllGroups (filter is_group (i ∷ is))
    by true e go = rw e (is_group_kind i.path i.kind e, go)
    by false e go = rw e go

any_group : (p : Bytes) (items : List ResidueItem) → list_any (is_group_at p) (filter is_group items) ≡ list_any (is_group_at p) items
any_group p [] = refl
any_group p (i ∷ is) = by i.kind refl (any_group p is)
  where
    by : (k : ResidueKind) → i.kind ≡ k → list_any (is_group_at p) (filter is_group is) ≡ list_any (is_group_at p) is → list_any (is_group_at p) (filter is_group (i ∷ is)) ≡ list_any (is_group_at p) (i ∷ is)
    by Group e go = rw e (ap (λ b. bytes_eq i.path p || b) go)
    by (Link id) e go = rw e go
    by Empty e go = rw e go

picked_same : (items : List ResidueItem) (files : List FileRow) → filter_map (picked (filter is_group items)) files ≡ filter_map (picked items) files
picked_same items [] = refl
picked_same items (f ∷ fs) = rw (any_group f.path items) (ap (cons_option (picked items f)) (picked_same items fs))

pub up_filter : (p : ResidueItem → Bool) (items : List ResidueItem) → Ascends path_of_item items → Ascends path_of_item (filter p items)
up_filter p [] u = tt
up_filter p (i ∷ is) u = by (p i) refl (up_filter p is u.1)
  where
    behind : (q : Bytes) (js : List ResidueItem) → Behind path_of_item q js → Behind path_of_item q (filter p js)
    behind q [] b = tt
    behind q (j ∷ js) b = at (p j) refl (behind q js b.1)
      where
        at : (t : Bool) → p j ≡ t → Behind path_of_item q (filter p js) → Behind path_of_item q (filter p (j ∷ js))
        at true e go = rw e (b.0, go)
        at false e go = rw e go

    by : (t : Bool) → p i ≡ t → Ascends path_of_item (filter p is) → Ascends path_of_item (filter p (i ∷ is))
    by true e go = rw e (behind i.path is u.0, go)
    by false e go = rw e go

-- each item fits the files
abbrev pub AllFit : List FileRow → List ResidueItem → Type 0
AllFit files items = Each (λ i. fits files i ≡ true) items

group_there : (p : Bytes) (files : List FileRow) → list_any (λ (row : FileRow). bytes_eq row.path p && is_plain row.mode) files ≡ true → list_any (λ (row : FileRow). bytes_eq row.path p) files ≡ true
group_there p [] h = h
group_there p (f ∷ fs) h = by (bytes_eq f.path p) refl (group_there p fs)
  where
    by : (t : Bool) → bytes_eq f.path p ≡ t → (list_any (λ (row : FileRow). bytes_eq row.path p && is_plain row.mode) fs ≡ true → list_any (λ (row : FileRow). bytes_eq row.path p) fs ≡ true)
        → list_any (λ (row : FileRow). bytes_eq row.path p) (f ∷ fs) ≡ true
    by true e go = rw e refl
    by false e go = rw e (go (rw e at h))

groups_there : (files : List FileRow) (items : List ResidueItem) → AllFit files items → AreThere (filter is_group items) files
groups_there files [] h = tt
groups_there files (i ∷ is) h = by i.kind refl (groups_there files is h.1)
  where
    by : (k : ResidueKind) → i.kind ≡ k → AreThere (filter is_group is) files → AreThere (filter is_group (i ∷ is)) files
    by Group e go = let f : list_any (λ (row : FileRow). bytes_eq row.path i.path && is_plain row.mode) files ≡ true = rw e at h.0 in rw e (group_there i.path files f, go)
    by (Link id) e go = rw e go
    by Empty e go = rw e go

pub item_keeps : (path : Bytes) (o : Option ResidueKind) (i : ResidueItem) → item_of path o ≡ Some i → i.path ≡ path
item_keeps path None i e = absurd cc
item_keeps path (Some kind) i e = ap (λ (x : ResidueItem). x.path) (sym (some_is e))

-- The residue of files with items that fit them is those items.
pub residue-with : (items : List ResidueItem) (files : List FileRow) → Ascends path_of files → Each IsPlainRow files → Ascends path_of_item items → AllFit files items → residue_of (rows_with items files) ≡ items
unfolding rows_with
residue-with items files u k v f =
    let a = filter_map-append item_in (map (file_with items) files) (filter_map row_of_item items) in
    let b = items_with items files k ∙ sym (picked_same items files) ∙ all_picked (filter is_group items) files (groups_all items) (up_filter is_group items v) u (groups_there files items f) in
    let c = other_items items in
    taken_ordered item_in path_of path_of_item (λ x y e. item_keeps x.path (kind_of_row x.mode x.id) y e) (map (file_with items) files ++ filter_map row_of_item items)
    ∙ ap (in_order (λ x y. is_below x.path y.path)) (a ∙ (λ i. b i ++ c i)) ∙ merge_again path_of_item is_group items v

-- ---- what is handed on

pub carried_fits : (old : List ResidueItem) (files : List FileRow) → AllFit files (carried old files)
carried_fits [] files = tt
carried_fits (i ∷ is) files = by (fits files i) refl (carried_fits is files)
  where
    by : (t : Bool) → fits files i ≡ t → AllFit files (carried is files) → AllFit files (carried (i ∷ is) files)
    by true e go = rw e (e, go)
    by false e go = rw e go

plain_is_file : (mode : Mode) → is_plain mode ≡ true → mode ≡ File
plain_is_file File h = refl
plain_is_file GroupFile h = absurd (true≢false (sym h))
plain_is_file Exec h = absurd (true≢false (sym h))
plain_is_file LinkMode h = absurd (true≢false (sym h))
plain_is_file Directory h = absurd (true≢false (sym h))
plain_is_file Gitlink h = absurd (true≢false (sym h))

-- of files behind a path none has it
none_there : (p : Bytes) (files : List FileRow) → Behind path_of p files → list_any (λ (row : FileRow). bytes_eq row.path p && is_plain row.mode) files ≡ false
none_there p [] b = refl
none_there p (f ∷ fs) b = rw (above-other p f.path b.0, none_there p fs b.1) refl

-- the mode of the file that a group item fits
fit_mode : (all files : List FileRow) → Ascends path_of files → ((p : Bytes) → list_any (λ (row : FileRow). bytes_eq row.path p && is_plain row.mode) all ≡ true → Each (λ (r : FileRow). r.path ≡ p → r.mode ≡ File) files) → (items : List ResidueItem) → AllFit all items → GroupsFit items files
fit_mode all [] u at items h = tt
fit_mode all (f ∷ fs) u at items h = (first items h, fit_mode all fs u.1 (λ p e. (at p e).1) items h)
  where
    first : (is : List ResidueItem) → AllFit all is → list_any (is_group_at f.path) is ≡ true → f.mode ≡ File
    first [] k e = absurd (true≢false (sym e))
    first (i ∷ is) k e = by (is_group_at f.path i) refl i.kind refl (first is k.1)
      where
        by : (t : Bool) → is_group_at f.path i ≡ t → (kind : ResidueKind) → i.kind ≡ kind → (list_any (is_group_at f.path) is ≡ true → f.mode ≡ File) → f.mode ≡ File
        by false g kind q go = go (rw g at e)
        by true g Group q go =
            let same : bytes_eq i.path f.path ≡ true = rw q at g in
            let k0 = k.0 in
            let there : list_any (λ (row : FileRow). bytes_eq row.path i.path && is_plain row.mode) all ≡ true = rw q at k0 in
            (at i.path there).0 (sym ((bytes_eq-Decides i.path f.path).0 same))
        by true g (Link id) q go = absurd (true≢false (sym (rw q at g)))
        by true g Empty q go = absurd (true≢false (sym (rw q at g)))

one_mode : (files : List FileRow) → Ascends path_of files → (p : Bytes) → list_any (λ (row : FileRow). bytes_eq row.path p && is_plain row.mode) files ≡ true → Each (λ (r : FileRow). r.path ≡ p → r.mode ≡ File) files
one_mode [] u p h = tt
one_mode (f ∷ fs) u p h = (first, by (bytes_eq f.path p) refl (one_mode fs u.1 p))
  where
    first : f.path ≡ p → f.mode ≡ File
    first e = plain_is_file f.mode (at (is_plain f.mode) refl)
      where
        at : (t : Bool) → is_plain f.mode ≡ t → is_plain f.mode ≡ true
        at true g = g
        at false g =
            let n = none_there f.path fs u.0 in
            let h' = subst (λ q. list_any (λ (row : FileRow). bytes_eq row.path q && is_plain row.mode) (f ∷ fs) ≡ true) (sym e) h in
            let k : (bytes_eq f.path f.path && false || list_any (λ (row : FileRow). bytes_eq row.path f.path && is_plain row.mode) fs) ≡ true = rw g at h' in
            absurd (true≢false (sym k ∙ neither_of (bytes_eq f.path f.path) false (list_any (λ (row : FileRow). bytes_eq row.path f.path && is_plain row.mode) fs) refl n))

    -- no later file has the path of the first
    others : f.path ≡ p → (gs : List FileRow) → Behind path_of f.path gs → Each (λ (r : FileRow). r.path ≡ p → r.mode ≡ File) gs
    others e [] b = tt
    others e (g ∷ gs) b = ((λ q. absurd (true≢false (sym b.0 ∙ ap (is_below f.path) (q ∙ sym e) ∙ is_below-irreflexive f.path))), others e gs b.1)

    by : (t : Bool) → bytes_eq f.path p ≡ t → (list_any (λ (row : FileRow). bytes_eq row.path p && is_plain row.mode) fs ≡ true → Each (λ (r : FileRow). r.path ≡ p → r.mode ≡ File) fs) → Each (λ (r : FileRow). r.path ≡ p → r.mode ≡ File) fs
    by true e go = others ((bytes_eq-Decides f.path p).0 e) fs u.0
    by false e go = go (rw e at h)

pub groups_fit : (files : List FileRow) → Ascends path_of files → (items : List ResidueItem) → AllFit files items → GroupsFit items files
groups_fit files u items h = fit_mode files files u (one_mode files u) items h

-- ---- residues rise

behind_residue : (p : Bytes) (rows : List FileRow) → Behind path_of p rows → Behind path_of_item p (residue_of rows)
behind_residue p [] b = tt
behind_residue p (x ∷ xs) b = by (item_in x) refl (behind_residue p xs b.1)
  where
    by : (o : Option ResidueItem) → item_in x ≡ o → Behind path_of_item p (residue_of xs) → Behind path_of_item p (cons_option (item_in x) (residue_of xs))
    by None e go = rw e go
    by (Some i) e go = rw e (ap (is_below p) (item_keeps x.path (kind_of_row x.mode x.id) i e) ∙ b.0, go)

pub up_residue : (rows : List FileRow) → Ascends path_of rows → Ascends path_of_item (residue_of rows)
up_residue [] u = tt
up_residue (x ∷ xs) u = by (item_in x) refl (up_residue xs u.1)
  where
    by : (o : Option ResidueItem) → item_in x ≡ o → Ascends path_of_item (residue_of xs) → Ascends path_of_item (cons_option (item_in x) (residue_of xs))
    by None e go = rw e go
    by (Some i) e go = rw e (subst (λ p. Behind path_of_item p (residue_of xs)) (sym (item_keeps x.path (kind_of_row x.mode x.id) i e)) (behind_residue x.path xs u.0), go)
