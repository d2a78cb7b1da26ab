-- Rows that are put into an order.
use Rattle.std.proofs.Common.{◌≡◌, ◌≢◌, ◌≤◌, ◌<◌, ◌+◌, ◌-◌, ◌||◌, ℕ, zero, suc, Bool, true, false, List, [], ◌∷◌, ◌++◌, length, take, drop, get_or, slice_index_or, refl, sym, ap, subst, ◌∙◌, inl, inr, arith}
use Rattle.std.specs.List.{list_any}
use Rattle.std.proofs.lemmas.List.{append-nil, take-append-drop}
use Rattle.std.proofs.Math.Seq.{take-suc, drop-cons}
use Rattle.text_model.specs.Lists.{In, Each, in_order}
use Rattle.text_model.specs.Text.{Bytes, is_below}
use Rattle.text_model.proofs.OrderLemmas.{is_below-chain, is_below-same}
use Rattle.git_model.specs.Tree.{is_directory, order_name}
use Rattle.git_model.specs.Unfold.{FileRow, by_paths, by_walk}
use Rattle.text_model.proofs.Elements.{each_in as each-of, each_from as each-by, in_left, in_right}
use Rattle.git_model.proofs.SortLemmas.{Ascends, Distinct, by_key, order-is, order-same}
use Rattle.tree_shape.specs.Orders.{met_path, Same}
use Rattle.tree_shape.proofs.Elements.{in-append}

-- ---- one that is put among others

module _ (key : FileRow → Bytes) (row : FileRow) where
  abbrev pub Above : FileRow → Type 0
  Above r = is_below (key row) (key r) ≡ true

  abbrev pub Under : FileRow → Type 0
  Under r = is_below (key r) (key row) ≡ true

  -- what stands before the last of these rows is below the row too
  fronts-at : (rows : List FileRow) (n : ℕ) (d : FileRow) → Ascends key rows → n < length rows → is_below (key (slice_index_or rows n d)) (key row) ≡ true → Each Under (take (suc n) rows)
  fronts-at [] n d up within h = absurd (omega (arith, within))
  fronts-at (r ∷ rows) zero d up within h = (h, tt)
  fronts-at (r ∷ []) (suc n) d up within h = absurd (omega (arith, within))
  fronts-at (r ∷ s ∷ rows) (suc n) d up within h =
      let rest = fronts-at (s ∷ rows) n d up.1 (omega (arith, within)) h in
      (is_below-chain (key r) (key s) (key row) up.0.0 rest.0, rest)

  pub fronts : (rows : List FileRow) (place : ℕ) (d : FileRow) → Ascends key rows → 0 < place → place ≤ length rows → is_below (key (slice_index_or rows (place - 1) d)) (key row) ≡ true → Each Under (take place rows)
  fronts rows place d up pos within h =
      let is : suc (place - 1) ≡ place = omega (arith, pos) in
      subst (λ (n : ℕ). Each Under (take n rows)) is (fronts-at rows (place - 1) d up (omega (arith, pos, within)) h)

  pub of-put : (place : ℕ) (rows : List FileRow) (y : FileRow) → In y (take place rows ++ row ∷ drop place rows) → In y (row ∷ rows)
  of-put (suc place) [] y i = i
  of-put zero [] y i = i
  of-put zero (r ∷ rows) y i = i
  of-put (suc place) (r ∷ rows) y (inl q) = inr (inl q)
  of-put (suc place) (r ∷ rows) y (inr j) = elim (of-put place rows y j) [ inl q ↦ inl q | inr k ↦ inr (inr k) ]

  pub in-put : (place : ℕ) (rows : List FileRow) (y : FileRow) → In y (row ∷ rows) → In y (take place rows ++ row ∷ drop place rows)
  in-put (suc place) [] y i = i
  in-put zero [] y i = i
  in-put zero (r ∷ rows) y i = i
  in-put (suc place) (r ∷ rows) y (inl q) = inr (in-put place rows y (inl q))
  in-put (suc place) (r ∷ rows) y (inr (inl q)) = inl q
  in-put (suc place) (r ∷ rows) y (inr (inr k)) = inr (in-put place rows y (inr k))

  -- the row stands at its place
  pub placed : (rows : List FileRow) (place : ℕ) → Ascends key rows → Each Under (take place rows) → Each Above (drop place rows) → Ascends key (take place rows ++ row ∷ drop place rows)
  placed [] zero up under above = (tt, tt)
  placed [] (suc place) up under above = (tt, tt)
  placed (r ∷ rows) zero up under above = (above, up)
  placed (r ∷ rows) (suc place) up under above = (
    each-by (λ y. is_below (key r) (key y) ≡ true) (take place rows ++ row ∷ drop place rows) (λ y i. elim (of-put place rows y i) [
      | inl q ↦ subst (λ (z : FileRow). is_below (key r) (key z) ≡ true) (sym q) under.0
      | inr j ↦ each-of (λ y. is_below (key r) (key y) ≡ true) rows y up.0 j
    ]),
    placed rows place up.1 under.1 above,
  )

  -- ---- a turn of the loop

  -- the rows behind a place stand above the row
  more-at : (rows : List FileRow) (n : ℕ) (d : FileRow) → n < length rows → Each Above (drop (suc n) rows) → Above (slice_index_or rows n d) → Each Above (drop n rows)
  more-at [] n d within above h = absurd (omega (arith, within))
  more-at (r ∷ rows) zero d within above h = (h, above)
  more-at (r ∷ rows) (suc n) d within above h = more-at rows n d (omega (arith, within)) above h

  pub one-more : (rows : List FileRow) (place : ℕ) (d : FileRow) → 0 < place → place ≤ length rows → Each Above (drop place rows) → Above (slice_index_or rows (place - 1) d) → Each Above (drop (place - 1) rows)
  one-more rows place d pos within above h =
      let is : place ≡ suc (place - 1) = omega (arith, pos) in
      more-at rows (place - 1) d (omega (arith, pos, within)) (subst (λ (n : ℕ). Each Above (drop n rows)) is above) h

  pub none-above : (rows : List FileRow) → Each Above (drop (length rows) rows)
  none-above [] = tt
  none-above (r ∷ rows) = none-above rows

  -- a row that is not above is below
  under-at : (rows : List FileRow) (n : ℕ) (d : FileRow) → Each (λ r. key row ≢ key r) rows → n < length rows → is_below (key row) (key (slice_index_or rows n d)) ≡ false → is_below (key (slice_index_or rows n d)) (key row) ≡ true
  under-at [] n d other within h = absurd (omega (arith, within))
  under-at (r ∷ rows) zero d other within h = by (is_below (key r) (key row)) refl
    where
      by : (t : Bool) → is_below (key r) (key row) ≡ t → is_below (key r) (key row) ≡ true
      by true t = t
      by false t = absurd (other.0 (is_below-same (key row) (key r) h t))
  under-at (r ∷ rows) (suc n) d other within h = under-at rows n d other.1 (omega (arith, within)) h

  pub under : (rows : List FileRow) (place : ℕ) (d : FileRow) → Each (λ r. key row ≢ key r) rows → 0 < place → place ≤ length rows → is_below (key row) (key (slice_index_or rows (place - 1) d)) ≡ false
      → is_below (key (slice_index_or rows (place - 1) d)) (key row) ≡ true
  under rows place d other pos within h = under-at rows (place - 1) d other (omega (arith, pos, within)) h

-- ---- rows without a directory

key-plain : (rows : List FileRow) → list_any (λ r. is_directory r.mode) rows ≡ false → Each (λ r. met_path r ≡ r.path) rows
key-plain [] h = tt
key-plain (r ∷ rows) h = by (is_directory r.mode) refl h (λ k. key-plain rows k)
  where
    by : (t : Bool) → is_directory r.mode ≡ t → (t || list_any (λ r. is_directory r.mode) rows) ≡ false → (list_any (λ r. is_directory r.mode) rows ≡ false → Each (λ r. met_path r ≡ r.path) rows) → Each (λ r. met_path r ≡ r.path) (r ∷ rows)
    by true d h rec = absurd (clash h)
      where
        clash : true ≡ false → ⊥
        clash q = cc
    by false d h rec = (ap (λ (t : Bool). order_name t r.path) d, rec h)

ascends-move : (f g : FileRow → Bytes) (rows : List FileRow) → Each (λ r. f r ≡ g r) rows → Ascends f rows → Ascends g rows
ascends-move f g [] e up = tt
ascends-move f g (r ∷ rows) e up = (
  each-by (λ y. is_below (g r) (g y) ≡ true) rows (λ y i. (λ k. is_below (sym e.0 k) (sym (each-of (λ y. f y ≡ g y) rows y e.1 i) k)) ∙ each-of (λ y. is_below (f r) (f y) ≡ true) rows y up.0 i),
  ascends-move f g rows e.1 up.1,
)

pub plain-paths : (rows : List FileRow) → list_any (λ r. is_directory r.mode) rows ≡ false → Ascends met_path rows → by_paths rows ≡ rows
plain-paths rows h up = order-same (λ (r : FileRow). r.path) rows (ascends-move met_path (λ r. r.path) rows (key-plain rows h) up)

each-back : (rows : List FileRow) → Each (λ r. met_path r ≡ r.path) rows → Each (λ r. r.path ≡ met_path r) rows
each-back [] e = tt
each-back (r ∷ rows) e = (sym e.0, each-back rows e.1)

pub plain-walk : (rows : List FileRow) → list_any (λ r. is_directory r.mode) rows ≡ false → Ascends (λ (r : FileRow). r.path) rows → by_walk rows ≡ rows
plain-walk rows h up = order-same met_path rows (ascends-move (λ r. r.path) met_path rows (each-back rows (key-plain rows h)) up)

-- ---- rows that come one after the other

-- the rows so far, in the order of a key
pub record Sorted (key : FileRow → Bytes) (done sorted : List FileRow) : Type 0 where
  pub order : Ascends key sorted
  pub same : Same sorted done

pub sorted-none : (key : FileRow → Bytes) (sorted : List FileRow) → sorted ≡ [] → Sorted key [] sorted
sorted-none key sorted e = subst (Sorted key []) (sym e) (record { order = tt; same = record { to = λ x i. i; from = λ x i. i } })

key-other : (key : FileRow → Bytes) (done : List FileRow) (row : FileRow) (rest : List FileRow) → Distinct key (done ++ row ∷ rest) → (r : FileRow) → In r done → key row ≢ key r
key-other key [] row rest d r i = absurd i
key-other key (x ∷ done) row rest d r (inl q) = λ e. each-of (λ y. key x ≢ key y) (done ++ row ∷ rest) row d.0 (in_right row done (row ∷ rest) (inl refl)) (sym (e ∙ ap key q))
key-other key (x ∷ done) row rest d r (inr j) = key-other key done row rest d.1 r j

module _ (key : FileRow → Bytes) (rows done sorted : List FileRow) (row : FileRow) (rest : List FileRow) (is : rows ≡ done ++ row ∷ rest) (s : Sorted key done sorted) where
  pub next-other : Distinct key rows → Each (λ r. key row ≢ key r) sorted
  next-other d = each-by (λ r. key row ≢ key r) sorted (λ r i. key-other key done row rest (subst (Distinct key) is d) r (s.same.to r i))

  pub next-sorted : (new : List FileRow) → Ascends key new → Same new (row ∷ sorted) → Sorted key (done ++ row ∷ []) new
  next-sorted new up same = record {
    order = up;
    same = record {
      to = λ x i. elim (same.to x i) [ inl q ↦ in_right x done (row ∷ []) (inl q) | inr j ↦ in_left x done (row ∷ []) (s.same.to x j) ];
      from = λ x i. same.from x (elim (in-append x done (row ∷ []) i) [ inl j ↦ inr (s.same.from x j) | inr k ↦ elim k [ inl q ↦ inl q | inr n ↦ absurd n ] ]);
    };
  }

pub all-sorted : (key : FileRow → Bytes) (rows sorted : List FileRow) → Distinct key rows → Sorted key rows sorted → sorted ≡ in_order (by_key key) rows
all-sorted key rows sorted d s = sym (order-is key rows sorted d s.order s.same.from s.same.to)

-- the rows about a place
pub at-place : (rows : List FileRow) (i : ℕ) (row : FileRow) → i < length rows → row ≡ get_or rows i row → rows ≡ take i rows ++ row ∷ drop (suc i) rows
at-place rows i row h is = sym (take-append-drop i rows) ∙ ap (λ (r : List FileRow). take i rows ++ r) (drop-cons rows i row h ∙ ap (λ (x : FileRow). x ∷ drop (suc i) rows) (sym is))

pub take-next : (rows : List FileRow) (i : ℕ) (row : FileRow) → i < length rows → row ≡ get_or rows i row → take (i + 1) rows ≡ take i rows ++ row ∷ []
take-next rows i row h is =
    let one : i + 1 ≡ suc i = omega arith in
    ap (λ (n : ℕ). take n rows) one ∙ take-suc rows i row h ∙ ap (λ (x : FileRow). take i rows ++ x ∷ []) (sym is)

-- nothing is left
pub none-rest : (rows done rest : List FileRow) → rows ≡ done ++ rest → length rest ≡ 0 → done ≡ rows
none-rest rows done [] is h = sym (is ∙ append-nil done)
none-rest rows done (r ∷ rest) is h = absurd (omega (arith, h))
