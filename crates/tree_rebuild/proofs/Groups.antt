-- Where the rows of a directory end.
use Rattle.std.proofs.Common.{◌≡◌, ◌<◌, ◌≤◌, ◌+◌, ℕ, zero, suc, Bool, true, false, ◌&&◌, List, [], ◌∷◌, ◌++◌, length, take, drop, get_or, map, Option, Some, None, refl, sym, ap, subst, ◌∙◌, inl, inr, arith}
use Rattle.std.specs.Prelude.{if◌then◌else◌, bytes_eq, slice_get}
use Rattle.std.specs.List.{prefix_len}
use Rattle.std.proofs.Math.Seq.{take-append_seam, drop-append_seam}
use Rattle.std.proofs.lemmas.Bool.{cases_lt, and_from}
use Rattle.std.proofs.lemmas.Bool.Decides.{Decides-eqb}
use Rattle.std.proofs.lemmas.List.{length-append, length-take-le, take-append-drop, take-map, drop-map, map-append}
use Rattle.std.proofs.lemmas.Slice.Eq.{bytes_eq-Decides}
use Rattle.text_model.specs.Lists.{Each}
use Rattle.text_model.specs.Text.{Bytes}
use Rattle.text_model.specs.Cuts.{Lacks}
use Rattle.text_model.proofs.TestLemmas.{both}
use Rattle.git_model.specs.Unfold.{FileRow}
use Rattle.git_model.specs.Shape.{leaf_of}
use Rattle.tree_shape.specs.Clashes.{begins_with_slash}
use Rattle.tree_shape.specs.Shapes.{short, shorts, Good, is_in}
use Rattle.tree_shape.proofs.FileSets.{bool-same}
use Rattle.tree_shape.proofs.Leaves.{NotFirst}
use Rattle.tree_shape.proofs.Rows.{Splits, clash, dir-one, in-is, is-in}
use Rattle.tree_shape.proofs.Turns.{prefix-all, prefix-stops, count-within}

-- ---- a row that lies in a directory begins with its name and a slash

pub too-short : (name : Bytes) (row : FileRow) → length row.path < length name → false ≡ is_in name row
too-short name row lt = by (is_in name row) refl
  where
    by : (t : Bool) → is_in name row ≡ t → false ≡ is_in name row
    by false t = sym t
    by true t =
        let u = is-in name row t in
        let n : length row.path ≡ length name + length (47 ∷ u.0) = ap length u.1.is ∙ length-append name (47 ∷ u.0) in
        absurd (omega (arith, n, lt))

pub by-front : (name front after : Bytes) (row : FileRow) → Lacks 47 name → front ≡ take (length name) row.path → after ≡ drop (length name) row.path → (begins_with_slash after && bytes_eq front name) ≡ is_in name row
by-front name front after row plain f a = bool-same (begins_with_slash after && bytes_eq front name) (is_in name row) to from
  where
    slash : (rest : Bytes) → begins_with_slash rest ≡ true → (more : Bytes) × (rest ≡ 47 ∷ more)
    slash [] h = absurd (clash (sym h))
    slash (b ∷ rest) h = (rest, (λ k. (Decides-eqb b 47).0 h k ∷ rest))

    to : (begins_with_slash after && bytes_eq front name) ≡ true → is_in name row ≡ true
    to h =
        let p = both (begins_with_slash after) (bytes_eq front name) h in
        let s = slash after p.0 in
        in-is name s.0 row plain (sym (take-append-drop (length name) row.path) ∙ (λ k. sym f k ++ sym a k) ∙ (λ k. (bytes_eq-Decides front name).0 p.1 k ++ s.1 k))

    from : is_in name row ≡ true → (begins_with_slash after && bytes_eq front name) ≡ true
    from h =
        let u = is-in name row h in
        let front_is : front ≡ name = f ∙ ap (take (length name)) u.1.is ∙ take-append_seam name (47 ∷ u.0) in
        let after_is : after ≡ 47 ∷ u.0 = a ∙ ap (drop (length name)) u.1.is ∙ drop-append_seam name (47 ∷ u.0) in
        and_from (begins_with_slash after) (bytes_eq front name) (ap begins_with_slash after_is) ((bytes_eq-Decides front name).1 front_is)

-- ---- the end of the group

others-out : (name : Bytes) (rows : List FileRow) → Each (NotFirst name) (map leaf_of rows) → Each (λ t. is_in name t ≡ false) rows
others-out name [] h = tt
others-out name (r ∷ rows) h = (by (is_in name r) refl, others-out name rows h.1)
  where
    by : (t : Bool) → is_in name r ≡ t → is_in name r ≡ false
    by false t = t
    by true t = absurd (h.0 (ap (λ (ns : List Bytes). elim ns as (λ _. Option Bytes) [ [] ↦ None | x ∷ more ↦ Some x ]) (is-in name r t).1.parts))

unmapped : (b : Bool) (name : Bytes) (skip : ℕ) (rows : List FileRow) → Each (λ t. is_in name t ≡ b) (shorts skip rows) → Each (λ r. is_in name (short skip r) ≡ b) rows
unmapped b name skip [] h = tt
unmapped b name skip (r ∷ rows) h = (h.0, unmapped b name skip rows h.1)

module _ (p : FileRow → Bool) where
  front-true : (front back : List FileRow) (k : ℕ) (d : FileRow) → Each (λ r. p r ≡ true) front → k < length front → p (get_or (front ++ back) k d) ≡ true
  front-true [] back k d h lt = absurd (omega (arith, lt))
  front-true (r ∷ front) back zero d h lt = h.0
  front-true (r ∷ front) back (suc k) d h lt = front-true front back k d h.1 (omega (arith, lt))

  back-false : (front back : List FileRow) (k : ℕ) (d : FileRow) → Each (λ r. p r ≡ false) back → length front ≤ k → k < length (front ++ back) → p (get_or (front ++ back) k d) ≡ false
  back-false [] [] k d h le lt = absurd (omega (arith, lt))
  back-false [] (r ∷ back) zero d h le lt = h.0
  back-false [] (r ∷ back) (suc k) d h le lt = back-false [] back k d h.1 (omega arith) (omega (arith, lt))
  back-false (r ∷ front) back zero d h le lt = absurd (omega (arith, le))
  back-false (r ∷ front) back (suc k) d h le lt = back-false front back k d h (omega (arith, le)) (omega (arith, lt))

  pub in-two : (front back : List FileRow) → Each (λ r. p r ≡ true) front → Each (λ r. p r ≡ false) back → (i j : ℕ) (d : FileRow) → i ≤ j → j < length (front ++ back) → p (get_or (front ++ back) j d) ≡ true → p (get_or (front ++ back) i d) ≡ true
  in-two front back f b i j d le lt h = elim (cases_lt j (length front)) [
    | inl less ↦ front-true front back i d f (omega (arith, le, less))
    | inr more ↦ absurd (clash (sym h ∙ back-false front back j d b (omega (arith, more)) lt))
  ]

  pub the-end : (front back : List FileRow) (place : ℕ) (d : FileRow) → Each (λ r. p r ≡ true) front → Each (λ r. p r ≡ false) back → place ≤ length (front ++ back)
      → ((k : ℕ) → k < place → p (get_or (front ++ back) k d) ≡ true) → ((k : ℕ) → place ≤ k → k < length (front ++ back) → p (get_or (front ++ back) k d) ≡ false) → place ≡ length front
  the-end front back place d f b within before behind =
      let all = length-append front back in
      elim (cases_lt place (length front)) [
        | inl less ↦ absurd (clash (sym (front-true front back place d f less) ∙ behind place (omega arith) (omega (arith, less, all))))
        | inr le ↦ elim (cases_lt (length front) place) [
          | inl more ↦ absurd (clash (sym (before (length front) more) ∙ back-false front back (length front) d b (omega arith) (omega (arith, more, within))))
          | inr here ↦ omega (arith, le, here)
        ]
      ]

-- the rows of the group, and those behind it
pub record Ends (skip : ℕ) (name : Bytes) (rows : List FileRow) : Type 0 where
  pub count : ℕ
  pub is : count ≡ prefix_len (is_in name) (shorts skip rows)
  pub within : count ≤ length rows
  pub front : Each (λ r. is_in name (short skip r) ≡ true) (take count rows)
  pub back : Each (λ r. is_in name (short skip r) ≡ false) (drop count rows)

pub ends : (skip : ℕ) (name : Bytes) (rows : List FileRow) → Good (shorts skip rows) → ((first : FileRow) → slice_get rows 0 ≡ Some first → is_in name (short skip first) ≡ true) → Ends skip name rows
ends skip name rows good first =
    let m = prefix_len (is_in name) (shorts skip rows) in
    record {
      count = m;
      is = refl;
      within = count-within name skip m rows refl;
      front = unmapped true name skip (take m rows) (subst (Each (λ t. is_in name t ≡ true)) (take-map (short skip) m rows) (prefix-all (is_in name) (shorts skip rows)));
      back = unmapped false name skip (drop m rows) (by rows good first);
    }
  where
    by : (rows : List FileRow) → Good (shorts skip rows) → ((first : FileRow) → slice_get rows 0 ≡ Some first → is_in name (short skip first) ≡ true) → Each (λ t. is_in name t ≡ false) (shorts skip (drop (prefix_len (is_in name) (shorts skip rows)) rows))
    by [] good first = tt
    by (r ∷ rows) good first =
        let yes_in : is_in name (short skip r) ≡ true = first r refl in
        let m : ℕ = prefix_len (is_in name) (shorts skip rows) in
        let one : prefix_len (is_in name) (shorts skip (r ∷ rows)) ≡ suc m = ap (λ (b : Bool). if b then 1 + m else 0) yes_in ∙ omega arith in
        let G : List FileRow = shorts skip (take m rows) in
        let R : List FileRow = shorts skip (drop m rows) in
        let whole : shorts skip rows ≡ G ++ R = ap (shorts skip) (sym (take-append-drop m rows)) ∙ map-append (short skip) (take m rows) (drop m rows) in
        let parted : Good (short skip r ∷ (G ++ R)) = subst (λ (s : List FileRow). Good (short skip r ∷ s)) whole good in
        let splits : Splits name (short skip r) G R = record {
          all = (yes_in, subst (λ (s : List FileRow). Each (λ t. is_in name t ≡ true) s) (take-map (short skip) m rows) (prefix-all (is_in name) (shorts skip rows)));
          stops = λ t more e. prefix-stops (is_in name) (shorts skip rows) t more (drop-map (short skip) m rows ∙ e);
        } in
        subst (λ (k : ℕ). Each (λ t. is_in name t ≡ false) (shorts skip (drop k (r ∷ rows)))) (sym one) (others-out name R (dir-one name (short skip r) G R parted splits).others)

pub group-end : (skip : ℕ) (name : Bytes) (rows : List FileRow) (place : ℕ) (e : Ends skip name rows) → place ≤ length rows
    → ((k : ℕ) (d : FileRow) → k < place → is_in name (short skip (get_or rows k d)) ≡ true) → ((k : ℕ) (d : FileRow) → place ≤ k → k < length rows → is_in name (short skip (get_or rows k d)) ≡ false) → place ≡ prefix_len (is_in name) (shorts skip rows)
group-end skip name [] place e within before behind = omega (arith, within)
group-end skip name (r ∷ rows) place e within before behind =
    let whole : r ∷ rows ≡ take e.count (r ∷ rows) ++ drop e.count (r ∷ rows) = sym (take-append-drop e.count (r ∷ rows)) in
    let p : FileRow → Bool = λ t. is_in name (short skip t) in
    the-end p (take e.count (r ∷ rows)) (drop e.count (r ∷ rows)) place r e.front e.back (subst (λ (l : List FileRow). place ≤ length l) whole within)
    (λ k lt. subst (λ (l : List FileRow). p (get_or l k r) ≡ true) whole (before k r lt))
    (subst (λ (l : List FileRow). (k : ℕ) → place ≤ k → k < length l → p (get_or l k r) ≡ false) whole (λ k le lt. behind k r le lt))
    ∙ length-take-le e.count (r ∷ rows) e.within ∙ e.is

pub group-parted : (skip : ℕ) (name : Bytes) (rows : List FileRow) (e : Ends skip name rows) → (i j : ℕ) (d : FileRow) → i ≤ j → j < length rows → is_in name (short skip (get_or rows j d)) ≡ true → is_in name (short skip (get_or rows i d)) ≡ true
group-parted skip name rows e i j d le = subst (λ (l : List FileRow). j < length l → is_in name (short skip (get_or l j d)) ≡ true → is_in name (short skip (get_or l i d)) ≡ true) (take-append-drop e.count rows) (λ lt h. in-two (λ t. is_in name (short skip t)) (take e.count rows) (drop e.count rows) e.front e.back i j d le lt h)
