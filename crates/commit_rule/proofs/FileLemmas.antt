-- The files of a commit by the rule: their order, their clashes and their blobs.
use Rattle.std.proofs.Common.{◌≡◌, ◌≢◌, ◌≤◌, ◌+◌, ℕ, Bool, true, false, true≢false, ◌||◌, List, [], ◌∷◌, ◌++◌, map, length, None, refl, sym, ap, subst, ◌∙◌, inl, inr, ◌⊎◌, arith, append_assoc}
use Rattle.std.specs.Prelude.{IsTrue, nat_le, not, ◌&&◌, ◌==◌}
use Rattle.std.specs.List.{list_any, list_all}
use Rattle.std.proofs.lemmas.Bool.Decides.{nat_tests}
use Rattle.text_model.specs.Lists.{In, Each, rises}
use Rattle.text_model.specs.Text.{Bytes, IsBytes, is_below, has_byte}
use Rattle.text_model.specs.Id.{blob}
use Rattle.text_model.proofs.EachLemmas.{Each-rest, Each-weaker}
use Rattle.text_model.proofs.TestLemmas.{both}
use Rattle.text_model.specs.Path.{components, is_fit_path, is_fit_component, lies_below}
use Rattle.text_model.proofs.OrderLemmas.{is_below-irreflexive}
use Rattle.git_model.specs.Tree.{is_blob_mode, is_directory}
use Rattle.git_model.specs.Unfold.{FileRow}
use Rattle.git_model.specs.Object.{Object}
use Rattle.git_model.specs.Shape.{Leaf, first_clash, clash_from, shape_objects, shape_depth}
use Rattle.hg_model.specs.Manifest.{Flag, Regular, Executable, Symlink}
use Rattle.tree_shape.specs.Sets.{IsFileRow, IsFiles}
use Rattle.tree_shape.specs.Shapes.{IsFile}
use Rattle.tree_shape.proofs.ClashLemmas.{none-below}
use Rattle.tree_shape.proofs.FileSets.{fit-file}
use Rattle.tree_shape.proofs.Names.{IsName, way, components-some, components-whole, components-append, same-components}
use Rattle.tree_shape.proofs.Rows.{in-lies}
use Rattle.view_model.specs.View.{TreeRow, leaf_of_row, tree_paths, has_clash, text_limit, Row, paths_of, ChangesetView, IsChangesetView, IsRevision}
use Rattle.view_model.specs.Held.{file_row_of}
use Rattle.pair_model.specs.Rule.{mode_of_flag, tree_row_of}
use Rattle.pair_known.specs.Rows.{row_value}
use Rattle.text_model.proofs.Search.{IsRising, rising}
use Rattle.text_model.proofs.Elements.{in_left, each_in, in_map, none_all}
use Rattle.text_model.proofs.Digests.{IsId-object_id}
use Rattle.commit_rule.specs.Parts.{file_of_row, AreShort}
use Rattle.commit_rule.proofs.LeafObjects.{Begins, AreApart, blob_of_leaf, blob-there}

-- ---- clashes

pub none-any : {X : Type 0} (test : X → Bool) (xs : List X) → list_any test xs ≡ false → (x : X) → In x xs → test x ≡ false
none-any test [] h x i = absurd i
none-any {X} test (y ∷ xs) h x i = by (test y) refl h (λ k j. none-any test xs k x j)
  where
    by : (t : Bool) → test y ≡ t → (t || list_any test xs) ≡ false → (list_any test xs ≡ false → In x xs → test x ≡ false) → test x ≡ false
    by true e k rec = absurd (true≢false k)
    by false e k rec = elim i [ inl q ↦ ap test q ∙ e | inr j ↦ rec k j ]

pub of-mapped : {X Y : Type 0} (f : X → Y) (xs : List X) (y : Y) → In y (map f xs) → (x : X) × In x xs × (y ≡ f x)
of-mapped f [] y i = absurd i
of-mapped f (x ∷ xs) y i = elim i [ inl q ↦ (x, inl refl, q) | inr j ↦ let r = of-mapped f xs y j in (r.0, inr r.1, r.2) ]

pub unclashed : (at : ℕ) (before rows : List FileRow) → ((t b : FileRow) → In t rows → In b (before ++ rows) → lies_below t.path b.path ≡ false) → clash_from at before rows ≡ None
unfolding clash_from
unclashed at before [] h = refl
unclashed at before (row ∷ rows) h =
    rw (none_all (λ (b : FileRow). lies_below row.path b.path) before (λ b i. h row b (inl refl) (in_left b before (row ∷ rows) i)))
    (unclashed (at + 1) (before ++ row ∷ []) rows (λ t b i j. h t b (inr i) (subst (In b) (append_assoc before (row ∷ []) rows) j)))

pub path-in : (rows : List TreeRow) (x : FileRow) → In x (map file_row_of rows) → In x.path (tree_paths rows)
path-in rows x i =
    let r = of-mapped file_row_of rows x i in
    subst (λ (p : Bytes). In p (tree_paths rows)) (sym (ap (λ (f : FileRow). f.path) r.2)) (in_map (λ (row : TreeRow). row.path) r.0 rows r.1)

pub paths-same : (rows : List TreeRow) → map (λ r. r.path) (map file_row_of rows) ≡ tree_paths rows
paths-same [] = refl
paths-same (row ∷ rows) = ap (λ (l : List Bytes). row.path ∷ l) (paths-same rows)

one-row : (rows : List TreeRow) → IsRising (λ (r : TreeRow). r.path) rows → (a b : TreeRow) → In a rows → In b rows → a.path ≡ b.path → a ≡ b
one-row [] up a b i j same = absurd i
one-row (x ∷ rows) up a b i j same = elim i [
  | inl p ↦ elim j [
    | inl q ↦ p ∙ sym q
    | inr l ↦ absurd (twice (each_in (λ (z : TreeRow). is_below x.path z.path ≡ true) rows b up.0 l) (sym same ∙ ap (λ (r : TreeRow). r.path) p))
  ]
  | inr k ↦ elim j [
    | inl q ↦ absurd (twice (each_in (λ (z : TreeRow). is_below x.path z.path ≡ true) rows a up.0 k) (same ∙ ap (λ (r : TreeRow). r.path) q))
    | inr l ↦ one-row rows up.1 a b k l same
  ]
]
  where
    twice : {p : Bytes} → is_below x.path p ≡ true → p ≡ x.path → ⊥
    twice below same = true≢false (sym below ∙ ap (is_below x.path) same ∙ is_below-irreflexive x.path)

begins-cases : (xs ys : List Bytes) → Begins xs ys → (xs ≡ ys) ⊎ ((m : Bytes) × (r : List Bytes) × (ys ≡ xs ++ m ∷ r))
begins-cases [] [] h = inl refl
begins-cases [] (y ∷ ys) h = inr (y, ys, refl)
begins-cases (x ∷ xs) [] h = absurd h
begins-cases (x ∷ xs) (y ∷ ys) h = elim (begins-cases xs ys h.1) [
  | inl e ↦ inl (λ k. h.0 k ∷ e k)
  | inr c ↦ inr (c.0, c.1, λ k. (sym h.0) k ∷ c.2 k)
]

some-names : (n : Bytes) (ns : List Bytes) → n ∷ ns ≢ []
some-names n ns e = cc

few-names : (path : Bytes) → is_fit_path path ≡ true → length (components path) ≤ 257
unfolding is_fit_path
few-names path h =
    let long = not (length path == 0) && nat_le (length path) 4096 in
    let few = nat_le (length (components path)) 256 in
    let nul = not (has_byte 0 path) in
    let lf = not (has_byte 10 path) in
    let cr = not (has_byte 13 path) in
    let fit = list_all is_fit_component (components path) in
    let a = both (long && few && nul && lf && cr) fit h in
    let b = both (long && few && nul && lf) cr a.0 in
    let c = both (long && few && nul) lf b.0 in
    let d = both (long && few) nul c.0 in
    let e = both long few d.0 in
    let le : length (components path) ≤ 256 = grind (arith, e.1, nat_tests) in
    omega (arith, le)

-- the row is a file
abbrev pub IsBlobRow : TreeRow → Type 0
IsBlobRow row = is_blob_mode row.mode ≡ true

module _ (rows : List TreeRow) (files : IsFiles (map file_row_of rows)) (none : first_clash (map file_row_of rows) ≡ None) where
  apart-paths : (a b : Bytes) → In a (tree_paths rows) → In b (tree_paths rows) → lies_below a b ≡ false
  apart-paths a b i j =
      let x = of-mapped (λ (row : TreeRow). row.path) rows a i in
      let y = of-mapped (λ (row : TreeRow). row.path) rows b j in
      (λ k. lies_below (x.2 k) (y.2 k)) ∙ none-below 0 [] (map file_row_of rows) none files.in_order (file_row_of y.0) (file_row_of x.0) (in_map file_row_of y.0 rows y.1) (in_map file_row_of x.0 rows x.1)

  -- and the other way round
  pub no-has_clash : has_clash (tree_paths rows) ≡ false
  no-has_clash = none_all (λ path. list_any (lies_below path) (tree_paths rows)) (tree_paths rows) (λ a i. none_all (lies_below a) (tree_paths rows) (λ b j. apart-paths a b i j))

  up : IsRising (λ (r : TreeRow). r.path) rows
  up = rising (λ (r : TreeRow). r.path) rows (subst (λ (paths : List Bytes). IsTrue (rises is_below paths)) (paths-same rows) files.in_order)

  one-way : (a b : TreeRow) → In a rows → In b rows → Begins (components a.path) (components b.path) → a ≡ b
  one-way a b i j h = elim (begins-cases (components a.path) (components b.path) h) [
    | inl e ↦ one-row rows up a b i j (same-components a.path b.path e)
    | inr c ↦
        let f : IsFileRow (file_row_of b) = each_in IsFileRow (map file_row_of rows) (file_row_of b) files.each (in_map file_row_of b rows j) in
        let is : IsFile (file_row_of b) = fit-file (file_row_of b) f.fit f.empty in
        let names : Each IsName (c.0 ∷ c.1) = Each-weaker (λ name. (name ≢ []) × (has_byte 47 name ≡ false)) IsName (λ n k. record { some = k.0; plain = k.1 }) (c.0 ∷ c.1)
        (Each-rest (λ name. (name ≢ []) × (has_byte 47 name ≡ false)) (components a.path) (c.0 ∷ c.1) (subst (Each (λ name. (name ≢ []) × (has_byte 47 name ≡ false))) c.2 is.names)) in
        let rest : Bytes = way [] (c.0 ∷ c.1) in
        let parts : components (a.path ++ 47 ∷ rest) ≡ components b.path =
        components-append a.path rest ∙ ap (λ (ns : List Bytes). components a.path ++ ns) (components-whole (c.0 ∷ c.1) (some-names c.0 c.1) names) ∙ sym c.2 in
        let path : a.path ++ 47 ∷ rest ≡ b.path = same-components (a.path ++ 47 ∷ rest) b.path parts in
        absurd (true≢false (sym (in-lies a.path rest) ∙ ap (λ (p : Bytes). lies_below p a.path) path
        ∙ apart-paths b.path a.path (in_map (λ (row : TreeRow). row.path) b rows j) (in_map (λ (row : TreeRow). row.path) a rows i)))
  ]

  leaves-apart : AreApart (map leaf_of_row rows)
  leaves-apart = record {
    apart = λ a b i j h.
        let x = of-mapped leaf_of_row rows a i in
        let y = of-mapped leaf_of_row rows b j in
        x.2 ∙ ap leaf_of_row (one-way x.0 y.0 x.1 y.1 (subst (Begins (components (x.0).path)) (ap (λ (l : Leaf). l.names) y.2) (subst (λ (ns : List Bytes). Begins ns b.names) (ap (λ (l : Leaf). l.names) x.2) h))) ∙ sym y.2;
  }

  -- where all objects of the rows are within their limit, the content of each file is
  pub content-short : AreShort (shape_objects shape_depth (map leaf_of_row rows)) → (row : TreeRow) → In row rows → IsBlobRow row → length row.content ≤ text_limit
  content-short all row i file =
      each_in (λ (o : Object). length o.content ≤ text_limit) (shape_objects shape_depth (map leaf_of_row rows)) (blob_of_leaf (leaf_of_row row)) all
      (blob-there shape_depth (map leaf_of_row rows) leaves-apart (leaf_of_row row) file (in_map leaf_of_row row rows i) (components row.path) refl (components-some row.path)
      (few-names row.path (each_in IsFileRow (map file_row_of rows) (file_row_of row) files.each (in_map file_row_of row rows i)).fit))

-- ---- the files of a changeset

pub file-mode : (flag : Flag) → is_directory (mode_of_flag flag) ≡ false
file-mode Regular = refl
file-mode Executable = refl
file-mode Symlink = refl

blob-flag : (flag : Flag) → is_blob_mode (mode_of_flag flag) ≡ true
blob-flag Regular = refl
blob-flag Executable = refl
blob-flag Symlink = refl

-- each row of a changeset's commit is a file
pub all-blobs : (rows : List Row) → Each IsBlobRow (map tree_row_of rows)
all-blobs [] = tt
all-blobs (row ∷ rows) = (blob-flag row.flag, all-blobs rows)

pub same-files : (rows : List Row) → map file_of_row (map row_value rows) ≡ map file_row_of (map tree_row_of rows)
same-files [] = refl
same-files (row ∷ rows) = ap (λ (l : List FileRow). file_row_of (tree_row_of row) ∷ l) (same-files rows)

pub same-paths : (rows : List Row) → tree_paths (map tree_row_of rows) ≡ paths_of rows
same-paths [] = refl
same-paths (row ∷ rows) = ap (λ (l : List Bytes). row.path ∷ l) (same-paths rows)

pub view-files : (v : ChangesetView) → IsChangesetView v → IsFiles (map file_row_of (map tree_row_of v.rows))
view-files v is = record {
  each = each v.rows is.rows;
  in_order = subst (λ (paths : List Bytes). IsTrue (rises is_below paths)) (sym (paths-same (map tree_row_of v.rows) ∙ same-paths v.rows)) is.in_order;
}
  where
    each : (rows : List Row) → Each (λ row. IsTrue (is_fit_path row.path) × IsBytes row.path × IsRevision row.revision) rows → Each IsFileRow (map file_row_of (map tree_row_of rows))
    each [] h = tt
    each (row ∷ rows) h = (record { fit = h.0.0; bytes = h.0.1; empty = λ d. absurd (true≢false (sym d ∙ file-mode row.flag)); id = IsId-object_id blob (row.revision).body }, each rows h.1)
