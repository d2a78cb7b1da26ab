-- A tree's residue fits its files; and files with items that fit them are rows in order, of which none lies below another.
use Rattle.std.proofs.Common.{◌≡◌, ◌≢◌, Bool, true, false, true≢false, List, [], ◌∷◌, ◌++◌, map, Option, Some, None, refl, sym, ap, subst, ◌∙◌, inl, inr, ◌⊎◌}
use Rattle.std.specs.Prelude.{not, ◌&&◌, ◌||◌, filter, bytes_eq}
use Rattle.std.specs.List.{filter_map, list_any, cons_option}
use Rattle.std.proofs.lemmas.Bool.{or_parts, not-true}
use Rattle.std.proofs.lemmas.Slice.Eq.{bytes_eq-Decides}
use Rattle.text_model.specs.Lists.{Each, In}
use Rattle.text_model.specs.Text.{Bytes, is_below}
use Rattle.text_model.specs.Path.{lies_below}
use Rattle.text_model.proofs.EachLemmas.{Each-append, Each-weaker}
use Rattle.text_model.proofs.Elements.{each_in, in_any, none_all}
use Rattle.text_model.proofs.Options.{some_is}
use Rattle.text_model.proofs.OrderLemmas.{is_below-irreflexive}
use Rattle.git_model.specs.Tree.{Mode, File, GroupFile, Exec, Link as LinkMode, Directory, Gitlink, is_blob_mode}
use Rattle.git_model.specs.Unfold.{FileRow}
use Rattle.git_model.specs.Residue.{ResidueKind, Group, Link, Empty, ResidueItem, kind_of_row, item_of, residue_of, is_plain, is_in_the_way, fits, carried, plain_mode, plain_file, plain_files, file_with, row_of_item, rows_with}
use Rattle.git_model.proofs.SortLemmas.{by_key, Ascends, Distinct, order-ascends, ascends-distinct}
use Rattle.git_model.proofs.RowOrder.{Behind, each_ordered}
use Rattle.git_model.proofs.ResidueLemmas.{path_of, path_of_item, item_in, is_group, AllFit, up_with, item_keeps, IsPlainRow, plain-with, residue-with, up_filter, up_residue, carried_fits, groups_fit}

-- ---- elements of lists

pub each_none : {X : Type 0} (p : X → Bool) (xs : List X) → list_any p xs ≡ false → Each (λ x. p x ≡ false) xs
each_none p [] h = tt
each_none p (x ∷ xs) h =
    let a = or_parts (p x) (list_any p xs) h in
    (a.0, each_none p xs a.1)

-- ---- a tree's residue fits its files

-- no path of the rows lies below another
abbrev pub AreApart : List FileRow → Type 0
AreApart rows = (a b : FileRow) → In a rows → In b rows → lies_below a.path b.path ≡ false

one_row : (rows : List FileRow) → Ascends path_of rows → (a b : FileRow) → In a rows → In b rows → a.path ≡ b.path → a ≡ b
one_row [] u a b i j e = absurd i
one_row (x ∷ xs) u a b (inl i) (inl j) e = i ∙ sym j
one_row (x ∷ xs) u a b (inl i) (inr j) e =
    absurd (true≢false (sym (each_in (λ y. is_below x.path y.path ≡ true) xs b u.0 j) ∙ ap (is_below x.path) (sym e ∙ ap (λ r. r.path) i) ∙ is_below-irreflexive x.path))
one_row (x ∷ xs) u a b (inr i) (inl j) e =
    absurd (true≢false (sym (each_in (λ y. is_below x.path y.path ≡ true) xs a u.0 i) ∙ ap (is_below x.path) (e ∙ ap (λ r. r.path) j) ∙ is_below-irreflexive x.path))
one_row (x ∷ xs) u a b (inr i) (inr j) e = one_row xs u.1 a b i j e

plain_in : (rows : List FileRow) (x : FileRow) → In x rows → is_blob_mode x.mode ≡ true → In (plain_file x) (plain_files rows)
plain_in [] x i e = absurd i
plain_in (y ∷ ys) x (inl i) e = rw (ap (λ r. is_blob_mode r.mode) (sym i) ∙ e) (inl (ap plain_file i))
plain_in (y ∷ ys) x (inr i) e = by (is_blob_mode y.mode) refl (plain_in ys x i e)
  where
    by : (t : Bool) → is_blob_mode y.mode ≡ t → In (plain_file x) (plain_files ys) → In (plain_file x) (plain_files (y ∷ ys))
    by true f go = rw f (inr go)
    by false f go = rw f go

each_plain : (Q : FileRow → Type 0) (rows : List FileRow) → ((x : FileRow) → In x rows → is_blob_mode x.mode ≡ true → Q (plain_file x)) → Each Q (plain_files rows)
each_plain Q [] h = tt
each_plain Q (x ∷ xs) h = by (is_blob_mode x.mode) refl (each_plain Q xs (λ y i. h y (inr i)))
  where
    by : (t : Bool) → is_blob_mode x.mode ≡ t → Each Q (plain_files xs) → Each Q (plain_files (x ∷ xs))
    by true e go = rw e (h x (inl refl) e, go)
    by false e go = rw e go

-- nothing of the files stands in the way of a row that is no file
nothing_in_way : (rows : List FileRow) → Ascends path_of rows → AreApart rows → (x : FileRow) → In x rows → is_blob_mode x.mode ≡ false → list_any (is_in_the_way x.path) (plain_files rows) ≡ false
nothing_in_way rows u a x i other = none_all (is_in_the_way x.path) (plain_files rows) (λ f i. each_in (λ f. is_in_the_way x.path f ≡ false) (plain_files rows) f (each_plain (λ f. is_in_the_way x.path f ≡ false) rows each) i)
  where
    each : (y : FileRow) → In y rows → is_blob_mode y.mode ≡ true → is_in_the_way x.path (plain_file y) ≡ false
    each y j file = by (bytes_eq y.path x.path) refl
      where
        by : (t : Bool) → bytes_eq y.path x.path ≡ t → (bytes_eq y.path x.path || lies_below x.path y.path || lies_below y.path x.path) ≡ false
        by true e = absurd (true≢false (sym file ∙ ap (λ r. is_blob_mode r.mode) (one_row rows u y x j i ((bytes_eq-Decides y.path x.path).0 e)) ∙ other))
        by false e = rw (e, a x y i j, a y x j i) refl

row_fits : (rows : List FileRow) → Ascends path_of rows → AreApart rows → (x : FileRow) → In x rows → (i : ResidueItem) → item_in x ≡ Some i → fits (plain_files rows) i ≡ true
row_fits rows u a x among i e = by x.mode refl
  where
    is : (kind : ResidueKind) → item_of x.path (Some kind) ≡ Some i → record { path = x.path; kind = kind } ≡ i
    is kind h = some_is h

    at : (m : Mode) → x.mode ≡ m → item_of x.path (kind_of_row m x.id) ≡ Some i
    at m h = ap (λ n. item_of x.path (kind_of_row n x.id)) (sym h) ∙ e

    out : (m : Mode) → x.mode ≡ m → is_blob_mode m ≡ false → list_any (is_in_the_way x.path) (plain_files rows) ≡ false
    out m h b = nothing_in_way rows u a x among (ap is_blob_mode h ∙ b)

    by : (m : Mode) → x.mode ≡ m → fits (plain_files rows) i ≡ true
    by File h = let k : None ≡ Some i = at File h in absurd cc
    by Exec h = let k : None ≡ Some i = at Exec h in absurd cc
    by LinkMode h = let k : None ≡ Some i = at LinkMode h in absurd cc
    by GroupFile h =
        let j = plain_in rows x among (ap is_blob_mode h) in
        let own = (bytes_eq-Decides x.path x.path).1 refl in
        let mode : is_plain (plain_mode x.mode) ≡ true = ap (λ m. is_plain (plain_mode m)) h in
        let there : list_any (λ (row : FileRow). bytes_eq row.path x.path && is_plain row.mode) (plain_files rows) ≡ true = in_any (λ (row : FileRow). bytes_eq row.path x.path && is_plain row.mode) (plain_files rows) (plain_file x) j (rw (own, mode) refl) in
        ap (fits (plain_files rows)) (sym (is Group (at GroupFile h))) ∙ there
    by Gitlink h = ap (fits (plain_files rows)) (sym (is (Link x.id) (at Gitlink h))) ∙ ap not (out Gitlink h refl)
    by Directory h = ap (fits (plain_files rows)) (sym (is Empty (at Directory h))) ∙ ap not (out Directory h refl)

-- The residue of rows in order, none below another, fits their files.
pub residue-fits : (rows : List FileRow) → Ascends path_of rows → AreApart rows → AllFit (plain_files rows) (residue_of rows)
residue-fits rows u a = each rows (λ x i. i)
  where
    each : (xs : List FileRow) → ((x : FileRow) → In x xs → In x rows) → AllFit (plain_files rows) (residue_of xs)
    each [] h = tt
    each (x ∷ xs) h = by (item_in x) refl (each xs (λ y i. h y (inr i)))
      where
        by : (o : Option ResidueItem) → item_in x ≡ o → AllFit (plain_files rows) (residue_of xs) → AllFit (plain_files rows) (cons_option (item_in x) (residue_of xs))
        by None e go = rw e go
        by (Some i) e go = rw e (row_fits rows u a x (h x (inl refl)) i e, go)

-- ---- files with items that fit them

distinct_append : {X : Type 0} (key : X → Bytes) (xs ys : List X) → Distinct key xs → Distinct key ys → Each (λ x. Each (λ y. key x ≢ key y) ys) xs → Distinct key (xs ++ ys)
distinct_append key [] ys d e c = e
distinct_append key (x ∷ xs) ys d e c = (Each-append (λ z. key x ≢ key z) xs ys d.0 c.0, distinct_append key xs ys d.1 e c.1)

-- nothing of the files stands in the way of an item that is no group's
pub free_of : (files : List FileRow) (i : ResidueItem) → is_group i ≡ false → fits files i ≡ true → list_any (is_in_the_way i.path) files ≡ false
free_of files i g h = by i.kind refl
  where
    by : (k : ResidueKind) → i.kind ≡ k → list_any (is_in_the_way i.path) files ≡ false
    by Group e = let f : true ≡ false = rw e at g in absurd (true≢false f)
    by (Link id) e = let f : not (list_any (is_in_the_way i.path) files) ≡ true = rw e at h in not-true (list_any (is_in_the_way i.path) files) f
    by Empty e = let f : not (list_any (is_in_the_way i.path) files) ≡ true = rw e at h in not-true (list_any (is_in_the_way i.path) files) f

-- where a row of files with items comes from
abbrev IsOfFile : List FileRow → Bytes → Type 0
IsOfFile files p = (f : FileRow) × In f files × (p ≡ f.path)

abbrev IsOfItem : List ResidueItem → Bytes → Type 0
IsOfItem items p = (i : ResidueItem) × In i items × (is_group i ≡ false) × (p ≡ i.path)

abbrev Source : List FileRow → List ResidueItem → Bytes → Type 0
Source files items p = IsOfFile files p ⊎ IsOfItem items p

of_files : (items : List ResidueItem) (files : List FileRow) → Each (λ r. IsOfFile files r.path) (map (file_with items) files)
of_files items files = each files (λ f i. i)
  where
    each : (fs : List FileRow) → ((f : FileRow) → In f fs → In f files) → Each (λ r. IsOfFile files r.path) (map (file_with items) fs)
    each [] h = tt
    each (f ∷ fs) h = ((f, h f (inl refl), refl), each fs (λ g i. h g (inr i)))

of_items : (items : List ResidueItem) → Each (λ (r : FileRow). IsOfItem items r.path) (filter_map row_of_item items)
of_items items = each items (λ j i. i)
  where
    one : (i : ResidueItem) → In i items → (rest : List FileRow) → Each (λ (r : FileRow). IsOfItem items r.path) rest → Each (λ (r : FileRow). IsOfItem items r.path) (cons_option (row_of_item i) rest)
    one i among rest go = by i.kind refl
      where
        by : (k : ResidueKind) → i.kind ≡ k → Each (λ (r : FileRow). IsOfItem items r.path) (cons_option (row_of_item i) rest)
        by Group e = rw e go
        by (Link id) e = rw e ((i, among, rw e refl, refl), go)
        by Empty e = rw e ((i, among, rw e refl, refl), go)

    each : (is : List ResidueItem) → ((j : ResidueItem) → In j is → In j items) → Each (λ (r : FileRow). IsOfItem items r.path) (filter_map row_of_item is)
    each [] h = tt
    each (i ∷ is) h = one i (h i (inl refl)) (filter_map row_of_item is) (each is (λ j k. h j (inr k)))

-- each row is at the path of a file, or of an item that is no group's
sources : (items : List ResidueItem) (files : List FileRow) → Each (λ (r : FileRow). Source files items r.path) (rows_with items files)
unfolding rows_with
sources items files =
    each_ordered (λ (r : FileRow). Source files items r.path) (by_key path_of) (map (file_with items) files ++ filter_map row_of_item items)
    (Each-append (λ (r : FileRow). Source files items r.path) (map (file_with items) files) (filter_map row_of_item items)
    (Each-weaker (λ (r : FileRow). IsOfFile files r.path) (λ (r : FileRow). Source files items r.path) (λ r s. inl s) (map (file_with items) files) (of_files items files))
    (Each-weaker (λ (r : FileRow). IsOfItem items r.path) (λ (r : FileRow). Source files items r.path) (λ r s. inr s) (filter_map row_of_item items) (of_items items)))

-- no path of the items lies below another, but for files that their group may write
abbrev pub ItemsApart : List ResidueItem → Type 0
ItemsApart items = (i j : ResidueItem) → In i items → In j items → is_group i ≡ false → is_group j ≡ false → lies_below i.path j.path ≡ false

-- what stands in the way of an item that fits
clear : (files : List FileRow) (items : List ResidueItem) → AllFit files items → (f : FileRow) (i : ResidueItem) → In f files → In i items → is_group i ≡ false → (bytes_eq f.path i.path ≡ false) × (lies_below i.path f.path ≡ false) × (lies_below f.path i.path ≡ false)
clear files items h f i a b g =
    let n = free_of files i g (each_in (λ j. fits files j ≡ true) items i h b) in
    let x = each_in (λ r. is_in_the_way i.path r ≡ false) files f (each_none (is_in_the_way i.path) files n) a in
    let y = or_parts (bytes_eq f.path i.path || lies_below i.path f.path) (lies_below f.path i.path) x in
    let z = or_parts (bytes_eq f.path i.path) (lies_below i.path f.path) y.0 in
    (z.0, z.1, y.1)

-- none of the rows lies below another
pub carried-apart : (items : List ResidueItem) (files : List FileRow) → AreApart files → ItemsApart items → AllFit files items → AreApart (rows_with items files)
carried-apart items files fa ia h a b i j =
    by (each_in (λ (r : FileRow). Source files items r.path) (rows_with items files) a (sources items files) i) (each_in (λ (r : FileRow). Source files items r.path) (rows_with items files) b (sources items files) j)
  where
    by : Source files items a.path → Source files items b.path → lies_below a.path b.path ≡ false
    by (inl x) (inl y) = (λ k. lies_below (x.2 k) (y.2 k)) ∙ fa x.0 y.0 x.1 y.1
    by (inl x) (inr y) = (λ k. lies_below (x.2 k) (y.3 k)) ∙ (clear files items h x.0 y.0 x.1 y.1 y.2).2
    by (inr x) (inl y) = (λ k. lies_below (x.3 k) (y.2 k)) ∙ (clear files items h y.0 x.0 y.1 x.1 x.2).1
    by (inr x) (inr y) = (λ k. lies_below (x.3 k) (y.3 k)) ∙ ia x.0 y.0 x.1 y.1 x.2 y.2

-- the rows of items rise as the items do
up_items : (items : List ResidueItem) → Ascends path_of_item items → Ascends path_of (filter_map row_of_item items)
up_items [] u = tt
up_items (i ∷ is) u = by i.kind refl (up_items is u.1)
  where
    behind : (p : Bytes) (js : List ResidueItem) → Behind path_of_item p js → Behind path_of p (filter_map row_of_item js)
    behind p [] b = tt
    behind p (j ∷ js) b = at j.kind refl (behind p js b.1)
      where
        at : (k : ResidueKind) → j.kind ≡ k → Behind path_of p (filter_map row_of_item js) → Behind path_of p (filter_map row_of_item (j ∷ js))
        at Group e go = rw e go
        at (Link id) e go = rw e (b.0, go)
        at Empty e go = rw e (b.0, go)

    by : (k : ResidueKind) → i.kind ≡ k → Ascends path_of (filter_map row_of_item is) → Ascends path_of (filter_map row_of_item (i ∷ is))
    by Group e go = rw e go
    by (Link id) e go = rw e (behind i.path is u.0, go)
    by Empty e go = rw e (behind i.path is u.0, go)

-- the rows rise
pub carried-up : (items : List ResidueItem) (files : List FileRow) → Ascends path_of files → Ascends path_of_item items → AllFit files items → Ascends path_of (rows_with items files)
unfolding rows_with
carried-up items files u v h =
    order-ascends path_of all
    (distinct_append path_of (map (file_with items) files) (filter_map row_of_item items)
    (ascends-distinct path_of (map (file_with items) files) (up_with items files u))
    (ascends-distinct path_of (filter_map row_of_item items) (up_items items v)) across)
  where
    all : List FileRow
    all = map (file_with items) files ++ filter_map row_of_item items

    differ : (p q : Bytes) → IsOfFile files p → IsOfItem items q → p ≢ q
    differ p q x y e =
        let c = (clear files items h x.0 y.0 x.1 y.1 y.2).0 in
        let same : bytes_eq (x.0).path (y.0).path ≡ true = (bytes_eq-Decides (x.0).path (y.0).path).1 (sym x.2 ∙ e ∙ y.3) in
        true≢false (sym same ∙ c)

    across : Each (λ (x : FileRow). Each (λ (y : FileRow). x.path ≢ y.path) (filter_map row_of_item items)) (map (file_with items) files)
    across =
        Each-weaker (λ (r : FileRow). IsOfFile files r.path) (λ (x : FileRow). Each (λ (y : FileRow). x.path ≢ y.path) (filter_map row_of_item items))
        (λ x s. Each-weaker (λ (r : FileRow). IsOfItem items r.path) (λ (y : FileRow). x.path ≢ y.path) (λ y k. differ x.path y.path s k) (filter_map row_of_item items) (of_items items)) (map (file_with items) files) (of_files items files)

-- and each path is fit where those of the files and of the items are
pub carried-paths : (P : Bytes → Type 0) (items : List ResidueItem) (files : List FileRow) → Each (λ (r : FileRow). P r.path) files → Each (λ (i : ResidueItem). P i.path) items → Each (λ (r : FileRow). P r.path) (rows_with items files)
carried-paths P items files f g = Each-weaker (λ (r : FileRow). Source files items r.path) (λ (r : FileRow). P r.path) at (rows_with items files) (sources items files)
  where
    at : (r : FileRow) → Source files items r.path → P r.path
    at r (inl x) = subst P (sym x.2) (each_in (λ (q : FileRow). P q.path) files x.0 f x.1)
    at r (inr x) = subst P (sym x.3) (each_in (λ (i : ResidueItem). P i.path) items x.0 g x.1)

-- ---- what a commit hands on

item_row : (rows : List FileRow) (i : ResidueItem) → In i (residue_of rows) → (x : FileRow) × In x rows × (i.path ≡ x.path)
item_row [] i h = absurd h
item_row (x ∷ xs) i h = by (item_in x) refl (item_row xs i)
  where
    by : (o : Option ResidueItem) → item_in x ≡ o → (In i (residue_of xs) → (y : FileRow) × In y xs × (i.path ≡ y.path)) → (y : FileRow) × In y (x ∷ xs) × (i.path ≡ y.path)
    by None e go =
        let k : In i (residue_of xs) = rw e at h in
        let g = go k in
        (g.0, inr g.1, g.2)
    by (Some j) e go =
        let k : In i (j ∷ residue_of xs) = rw e at h in
        at k
      where
        at : In i (j ∷ residue_of xs) → (y : FileRow) × In y (x ∷ xs) × (i.path ≡ y.path)
        at (inl q) = (x, inl refl, ap (λ (z : ResidueItem). z.path) q ∙ item_keeps x.path (kind_of_row x.mode x.id) j e)
        at (inr q) = let g = go q in (g.0, inr g.1, g.2)

residue_apart : (rows : List FileRow) → AreApart rows → ItemsApart (residue_of rows)
residue_apart rows a i j p q gi gj =
    let x = item_row rows i p in
    let y = item_row rows j q in
    (λ k. lies_below (x.2 k) (y.2 k)) ∙ a x.0 y.0 x.1 y.1

in_filter : {X : Type 0} (p : X → Bool) (xs : List X) (x : X) → In x (filter p xs) → In x xs
in_filter p [] x i = absurd i
in_filter {X = X} p (y ∷ ys) x i = by (p y) refl (in_filter p ys x)
  where
    by : (t : Bool) → p y ≡ t → (In x (filter p ys) → In x ys) → In x (y ∷ ys)
    by true e go =
        let k : In x (y ∷ filter p ys) = rw e at i in at k
      where
        at : In x (y ∷ filter p ys) → In x (y ∷ ys)
        at (inl q) = inl q
        at (inr q) = inr (go q)
    by false e go = let k : In x (filter p ys) = rw e at i in inr (go k)

-- Files with what a commit hands on to them are rows in order, of which none lies below another; they have those files and that residue.
pub record CarriedFits (old : List ResidueItem) (files : List FileRow) : Type 0 where
  pub up : Ascends path_of (rows_with (carried old files) files)
  pub apart : AreApart (rows_with (carried old files) files)
  pub plain : plain_files (rows_with (carried old files) files) ≡ files
  pub residue : residue_of (rows_with (carried old files) files) ≡ carried old files

pub carried-fits : (rows files : List FileRow) → Ascends path_of rows → AreApart rows → Ascends path_of files → Each IsPlainRow files → AreApart files → CarriedFits (residue_of rows) files
carried-fits rows files u a v k b =
    let items = carried (residue_of rows) files in
    let up = up_filter (fits files) (residue_of rows) (up_residue rows u) in
    let all = carried_fits (residue_of rows) files in
    record {
      up = carried-up (carried (residue_of rows) files) files v up all;
      apart = carried-apart (carried (residue_of rows) files) files b (λ i j p q. residue_apart rows a i j (in_filter (fits files) (residue_of rows) i p) (in_filter (fits files) (residue_of rows) j q)) all;
      plain = plain-with (carried (residue_of rows) files) files v k (groups_fit files v (carried (residue_of rows) files) all);
      residue = residue-with (carried (residue_of rows) files) files v k up all;
    }
