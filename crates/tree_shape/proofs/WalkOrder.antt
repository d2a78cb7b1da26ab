-- A set of rows without a clash, in the order in which a walk meets them.
use Rattle.std.proofs.Common.{◌≡◌, ◌≢◌, ◌+◌, ◌⊎◌, ℕ, Bool, true, false, List, [], ◌∷◌, ◌++◌, map, None, refl, sym, ap, subst, ◌∙◌, inl, inr}
use Rattle.std.specs.Prelude.{if◌then◌else◌}
use Rattle.text_model.specs.Lists.{In, rises}
use Rattle.text_model.specs.Text.{Bytes, is_below}
use Rattle.text_model.specs.Path.{lies_below}
use Rattle.text_model.proofs.OrderLemmas.{is_below-irreflexive, is_below-one_way}
use Rattle.git_model.specs.Tree.{is_directory}
use Rattle.git_model.specs.Unfold.{FileRow, is_met_before, by_walk, by_paths}
use Rattle.git_model.specs.Shape.{first_clash, clash_from, root_of, trees_of}
use Rattle.text_model.proofs.Elements.{each_in as each-of, each_from as each-by, in_right, each_in, each_from}
use Rattle.git_model.proofs.SortLemmas.{Ascends, Distinct, rises-ascends, ascends-distinct, order-ascends, order-is, in-order, of-order}
use Rattle.tree_shape.specs.Shapes.{shorts, Before, Good, id_of_rows, trees_of_rows}
use Rattle.tree_shape.specs.Sets.{IsFileRow, IsFiles}
use Rattle.tree_shape.specs.Orders.{met_path, Same}
use Rattle.tree_shape.proofs.AnyOrder.{OnePath, root-any_order, trees-any_order}
use Rattle.tree_shape.proofs.FileSets.{lies-true, no-clash, clash-rest, later, rises-rest, fit-file}
use Rattle.tree_shape.proofs.Rows.{above, in-lies, dir-end}

-- a row whose path lies below another's has a greater path
lies-above : (a b : Bytes) → lies_below a b ≡ true → is_below b a ≡ true
lies-above a b h = let r = lies-true a b h in ap (is_below b) r.1 ∙ above b 47 r.0

-- of rows that have no clash none lies below another
pub none-below : (rows : List FileRow) → rises is_below (map (λ r. r.path) rows) ≡ true → first_clash rows ≡ None → (a b : FileRow) → In a rows → In b rows → lies_below a.path b.path ≡ false
none-below rows up none a b i j = from 0 [] rows none up a b i j
  where
    clash : true ≡ false → ⊥
    clash q = cc

    self : (path : Bytes) (t : Bool) → lies_below path path ≡ t → t ≡ false
    self path true t = absurd (clash (sym (lies-above path path t) ∙ is_below-irreflexive path))
    self path false t = refl

    front : (a b : Bytes) → is_below a b ≡ true → (t : Bool) → lies_below a b ≡ t → t ≡ false
    front a b h true t = absurd (clash (sym (lies-above a b t) ∙ is_below-one_way a b h))
    front a b h false t = refl

    from : (at : ℕ) (before rows : List FileRow) → clash_from at before rows ≡ None → rises is_below (map (λ r. r.path) rows) ≡ true → (a b : FileRow) → In a rows → In b rows → lies_below a.path b.path ≡ false
    from at before [] h up a b i j = absurd i
    from at before (row ∷ rows) h up a b i j =
        let rest = clash-rest at before row rows h in
        elim i [
          | inl p ↦ elim j [
            | inl q ↦ (λ k. lies_below (p k).path (q k).path) ∙ self row.path (lies_below row.path row.path) refl
            | inr v ↦ ap (λ (z : FileRow). lies_below z.path b.path) p ∙ front row.path b.path (later row rows b up v) (lies_below row.path b.path) refl
          ]
          | inr u ↦ elim j [
            | inl q ↦ ap (λ (z : FileRow). lies_below a.path z.path) q ∙ no-clash (at + 1) (before ++ row ∷ []) rows rest row a (in_right row before (row ∷ []) (inl refl)) u
            | inr v ↦ from (at + 1) (before ++ row ∷ []) rows rest (rises-rest row rows up) a b u v
          ]
        ]

-- rows that rise have one path each
pub one-each : (rows : List FileRow) → rises is_below (map (λ r. r.path) rows) ≡ true → OnePath rows
one-each rows up a b i j q = from rows (rises-ascends (λ (r : FileRow). r.path) rows up) i j
  where
    clash : true ≡ false → ⊥
    clash q = cc

    no-self : (x y : FileRow) → x.path ≡ y.path → is_below x.path y.path ≡ true → ⊥
    no-self x y e h = clash (sym h ∙ ap (λ (p : Bytes). is_below p y.path) e ∙ is_below-irreflexive y.path)

    from : (rows : List FileRow) → Ascends (λ (r : FileRow). r.path) rows → In a rows → In b rows → a ≡ b
    from [] k i j = absurd i
    from (r ∷ rows) k i j = elim i [
      | inl p ↦ elim j [
        | inl s ↦ p ∙ sym s
        | inr v ↦ absurd (no-self r b (ap (λ (x : FileRow). x.path) (sym p) ∙ q) (each-of (λ y. is_below r.path y.path ≡ true) rows b k.0 v))
      ]
      | inr u ↦ elim j [
        | inl s ↦ absurd (no-self r a (ap (λ (x : FileRow). x.path) (sym s) ∙ sym q) (each-of (λ y. is_below r.path y.path ≡ true) rows a k.0 u))
        | inr v ↦ from rows k.1 u v
      ]
    ]

-- a path that counts as another's: the paths are one, or one of them lies below the other
met-one : (a b : FileRow) → met_path a ≡ met_path b → (a.path ≡ b.path) ⊎ ((lies_below a.path b.path ≡ true) ⊎ (lies_below b.path a.path ≡ true))
met-one a b h = by (is_directory a.mode) (is_directory b.mode) h
  where
    by : (s t : Bool) → (if s then a.path ++ 47 ∷ [] else a.path) ≡ (if t then b.path ++ 47 ∷ [] else b.path) → (a.path ≡ b.path) ⊎ ((lies_below a.path b.path ≡ true) ⊎ (lies_below b.path a.path ≡ true))
    by true true q = elim (dir-end a.path b.path [] q) [
      | inl s ↦ inl s
      | inr r ↦ inr (inl (ap (λ (x : Bytes). lies_below x b.path) r.1 ∙ in-lies b.path r.0))
    ]
    by true false q = inr (inr (ap (λ (x : Bytes). lies_below x a.path) (sym q) ∙ in-lies a.path []))
    by false true q = inr (inl (ap (λ (x : Bytes). lies_below x b.path) q ∙ in-lies b.path []))
    by false false q = inl q

module _ (rows : List FileRow) (f : IsFiles rows) (none : first_clash rows ≡ None) where
  clash2 : true ≡ false → ⊥
  clash2 q = cc

  -- no two rows count as one in the order of a walk
  met-apart : (a b : FileRow) → In a rows → In b rows → met_path a ≡ met_path b → a ≡ b
  met-apart a b i j q = elim (met-one a b q) [
    | inl p ↦ one-each rows f.in_order a b i j p
    | inr more ↦ elim more [
      | inl l ↦ absurd (clash2 (sym l ∙ none-below rows f.in_order none a b i j))
      | inr l ↦ absurd (clash2 (sym l ∙ none-below rows f.in_order none b a j i))
    ]
  ]

  met-distinct : (xs : List FileRow) → ((x : FileRow) → In x xs → In x rows) → Distinct (λ (r : FileRow). r.path) xs → Distinct met_path xs
  met-distinct [] among d = tt
  met-distinct (x ∷ xs) among d = (
    each-by (λ y. met_path x ≢ met_path y) xs (λ y i q.
        each-of (λ y. x.path ≢ y.path) xs y d.0 i (ap (λ (r : FileRow). r.path) (met-apart x y (among x (inl refl)) (among y (inr i)) q))),
    met-distinct xs (λ y i. among y (inr i)) d.1,
  )

  pub files-distinct : Distinct met_path rows
  files-distinct = met-distinct rows (λ x i. i) (ascends-distinct (λ (r : FileRow). r.path) rows (rises-ascends (λ (r : FileRow). r.path) rows f.in_order))

  pub walk-ascends : Ascends met_path (by_walk rows)
  walk-ascends = order-ascends met_path rows files-distinct

  good-by : (xs : List FileRow) → ((x : FileRow) → In x xs → In x rows) → Ascends met_path xs → Good xs
  good-by [] among up = tt
  good-by (x ∷ xs) among up = (
    let is = each_in IsFileRow rows x f.each (among x (inl refl)) in fit-file x is.fit is.empty,
    each_from (Before x) xs (λ y i.
        let below : is_met_before x y ≡ true = each-of (λ y. is_below (met_path x) (met_path y) ≡ true) xs y up.0 i in
        record {
          below = below;
          other = λ q. clash2 (sym below ∙ ap (λ (r : FileRow). is_below (met_path r) (met_path y)) (one-each rows f.in_order x y (among x (inl refl)) (among y (inr i)) q) ∙ is_below-irreflexive (met_path y));
          apart = none-below rows f.in_order none y x (among y (inr i)) (among x (inl refl));
        }),
    good-by xs (λ y i. among y (inr i)) up.1,
  )

  -- in the order of a walk each row stands before those that follow
  pub walk-good : Good (by_walk rows)
  walk-good = good-by (by_walk rows) (λ x i. of-order is_met_before x rows i) walk-ascends

-- no two of them have one path
pub walk-distinct : (rows : List FileRow) → IsFiles rows → first_clash rows ≡ None → Distinct (λ (r : FileRow). r.path) (by_walk rows)
walk-distinct rows f none = from (by_walk rows) (λ x i. of-order is_met_before x rows i) (walk-ascends rows f none)
  where
    clash : true ≡ false → ⊥
    clash q = cc

    from : (xs : List FileRow) → ((x : FileRow) → In x xs → In x rows) → Ascends met_path xs → Distinct (λ (r : FileRow). r.path) xs
    from [] among up = tt
    from (x ∷ xs) among up = (
      each-by (λ y. x.path ≢ y.path) xs (λ y i q.
          clash (sym (each-of (λ y. is_below (met_path x) (met_path y) ≡ true) xs y up.0 i)
          ∙ ap (λ (r : FileRow). is_below (met_path r) (met_path y)) (one-each rows f.in_order x y (among x (inl refl)) (among y (inr i)) q) ∙ is_below-irreflexive (met_path y))),
      from xs (λ y i. among y (inr i)) up.1,
    )

-- in the order of their paths they are as they were
pub walk-back : (rows : List FileRow) → IsFiles rows → first_clash rows ≡ None → by_paths (by_walk rows) ≡ rows
walk-back rows f none =
    order-is (λ (r : FileRow). r.path) (by_walk rows) rows (walk-distinct rows f none) (rises-ascends (λ (r : FileRow). r.path) rows f.in_order)
    (λ x i. of-order is_met_before x rows i) (λ x i. in-order is_met_before x rows i)

pub walk-same : (rows : List FileRow) → Same (by_walk rows) rows
walk-same rows = record { to = λ x i. of-order is_met_before x rows i; from = λ x i. in-order is_met_before x rows i }

pub shorts-none : (rows : List FileRow) → shorts 0 rows ≡ rows
shorts-none [] = refl
shorts-none (r ∷ rows) = (λ k. r ∷ shorts-none rows k)

pub good-files : (rows : List FileRow) → IsFiles rows → first_clash rows ≡ None → Good (shorts 0 (by_walk rows))
good-files rows f h = subst Good (sym (shorts-none (by_walk rows))) (walk-good rows f h)

one-walk : (rows : List FileRow) → IsFiles rows → OnePath (by_walk rows)
one-walk rows f a b i j q = one-each rows f.in_order a b (of-order is_met_before a rows i) (of-order is_met_before b rows j) q

pub root-is : (rows : List FileRow) → IsFiles rows → id_of_rows 257 (shorts 0 (by_walk rows)) ≡ root_of rows
unfolding root_of
root-is rows f = ap (id_of_rows 257) (shorts-none (by_walk rows)) ∙ root-any_order (by_walk rows) rows (walk-same rows) (one-walk rows f)

pub trees-is : (rows : List FileRow) → IsFiles rows → trees_of_rows 257 (shorts 0 (by_walk rows)) ≡ trees_of rows
unfolding trees_of
trees-is rows f = ap (trees_of_rows 257) (shorts-none (by_walk rows)) ∙ trees-any_order (by_walk rows) rows (walk-same rows) (one-walk rows f)

pub walk-root : (rows : List FileRow) → IsFiles rows → id_of_rows 257 (by_walk rows) ≡ root_of rows
walk-root rows f = ap (id_of_rows 257) (sym (shorts-none (by_walk rows))) ∙ root-is rows f

pub walk-trees : (rows : List FileRow) → IsFiles rows → trees_of_rows 257 (by_walk rows) ≡ trees_of rows
walk-trees rows f = ap (trees_of_rows 257) (sym (shorts-none (by_walk rows))) ∙ trees-is rows f
