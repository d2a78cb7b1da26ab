-- Sets of files: their order and their clashes.
use Rattle.std.proofs.Common.{◌≡◌, ◌≢◌, ◌<◌, ◌+◌, ℕ, suc, Bool, true, false, not, ◌&&◌, ◌||◌, ◌==◌, List, [], ◌∷◌, ◌++◌, length, take, drop, get_or, map, Option, Some, None, refl, sym, ap, ◌∙◌, inl, inr, arith}
use Rattle.std.specs.Prelude.{if◌then◌else◌, nat_le}
use Rattle.std.specs.List.{list_any, list_all, onto_first}
use Rattle.std.proofs.lemmas.Bool.{eqb-true}
use Rattle.std.proofs.Math.Seq.{take-suc, drop-cons}
use Rattle.text_model.specs.Lists.{In, Each, rises}
use Rattle.text_model.specs.Text.{Bytes, is_below, has_byte}
use Rattle.text_model.specs.Id.{tree, object_id}
use Rattle.text_model.specs.Path.{components, is_fit_path, is_fit_component, lies_below}
use Rattle.git_model.specs.Tree.{is_directory}
use Rattle.git_model.specs.Unfold.{FileRow}
use Rattle.git_model.specs.Shape.{first_clash, clash_from}
use Rattle.tree_shape.specs.Shapes.{IsFile}
use Rattle.text_model.proofs.OrderLemmas.{is_below-chain}
use Rattle.text_model.proofs.TestLemmas.{both}
use Rattle.text_model.proofs.Elements.{in_left}

-- ---- the test of one path below another

pub lies-true : (path d : Bytes) → lies_below path d ≡ true → (s : Bytes) × (path ≡ d ++ 47 ∷ s)
lies-true [] [] h = absurd cc
lies-true (x ∷ p) [] h = (p, (λ k. sym (eqb-true 47 x (both (47 == x) true h).0) k ∷ p))
lies-true [] (y ∷ d) h = absurd cc
lies-true (x ∷ p) (y ∷ d) h =
    let parts = both (y == x) (lies_below p d) h in
    let r = lies-true p d parts.1 in
    (r.0, (λ k. sym (eqb-true y x parts.0) k ∷ r.1 k))

pub bool-same : (n t : Bool) → (n ≡ true → t ≡ true) → (t ≡ true → n ≡ true) → n ≡ t
bool-same true t f g = sym (f refl)
bool-same false true f g = g refl
bool-same false false f g = refl

-- ---- the first clash

pub clash-here : (rows : List FileRow) (k : ℕ) (row : FileRow) → k < length rows → row ≡ get_or rows k row → first_clash rows ≡ clash_from k (take k rows) (drop k rows)
    → true ≡ list_any (λ b. lies_below row.path b.path) (take k rows) → Some k ≡ first_clash rows
unfolding clash_from
clash-here rows k row lt is h any =
    let front : drop k rows ≡ row ∷ drop (suc k) rows = drop-cons rows k row lt ∙ ap (λ (r : FileRow). r ∷ drop (suc k) rows) (sym is) in
    sym (h ∙ ap (clash_from k (take k rows)) front ∙ ap (λ (b : Bool). if b then Some k else clash_from (k + 1) (take k rows ++ row ∷ []) (drop (suc k) rows)) (sym any))

pub clash-on : (rows : List FileRow) (k : ℕ) (row : FileRow) → k < length rows → row ≡ get_or rows k row → first_clash rows ≡ clash_from k (take k rows) (drop k rows)
    → false ≡ list_any (λ b. lies_below row.path b.path) (take k rows) → first_clash rows ≡ clash_from (k + 1) (take (k + 1) rows) (drop (k + 1) rows)
unfolding clash_from
clash-on rows k row lt is h any =
    let one : suc k ≡ k + 1 = omega arith in
    let front : drop k rows ≡ row ∷ drop (suc k) rows = drop-cons rows k row lt ∙ ap (λ (r : FileRow). r ∷ drop (suc k) rows) (sym is) in
    let more : take k rows ++ row ∷ [] ≡ take (suc k) rows = ap (λ (r : FileRow). take k rows ++ r ∷ []) is ∙ sym (take-suc rows k row lt) in
    h ∙ ap (clash_from k (take k rows)) front ∙ ap (λ (b : Bool). if b then Some k else clash_from (k + 1) (take k rows ++ row ∷ []) (drop (suc k) rows)) (sym any)
    ∙ ap (λ (f : List FileRow). clash_from (k + 1) f (drop (suc k) rows)) more ∙ ap (λ (n : ℕ). clash_from (k + 1) (take n rows) (drop n rows)) one

pub either-false2 : (b : Bool) (k : ℕ) (o : Option ℕ) → (if b then Some k else o) ≡ None → (b ≡ false) × (o ≡ None)
either-false2 true k o h = absurd cc
either-false2 false k o h = (refl, h)

any-false : (row : FileRow) (before : List FileRow) → list_any (λ b. lies_below row.path b.path) before ≡ false → (b : FileRow) → In b before → lies_below row.path b.path ≡ false
any-false row [] h b i = absurd i
any-false row (x ∷ before) h b i = by (lies_below row.path x.path) refl h (any-false row before)
  where
    by : (t : Bool) → lies_below row.path x.path ≡ t → (t || list_any (λ b. lies_below row.path b.path) before) ≡ false
        → (list_any (λ b. lies_below row.path b.path) before ≡ false → (b : FileRow) → In b before → lies_below row.path b.path ≡ false) → lies_below row.path b.path ≡ false
    by true e h rec = absurd cc
    by false e h rec = elim i [ inl q ↦ ap (λ (z : FileRow). lies_below row.path z.path) q ∙ e | inr j ↦ rec h b j ]

pub no-clash : (at : ℕ) (before rows : List FileRow) → clash_from at before rows ≡ None → (b t : FileRow) → In b before → In t rows → lies_below t.path b.path ≡ false
unfolding clash_from
no-clash at before [] h b t i j = absurd j
no-clash at before (row ∷ rows) h b t i j =
    let parts = either-false2 (list_any (λ b. lies_below row.path b.path) before) at (clash_from (at + 1) (before ++ row ∷ []) rows) h in
    elim j [
      | inl q ↦ ap (λ (z : FileRow). lies_below z.path b.path) q ∙ any-false row before parts.0 b i
      | inr k ↦ no-clash (at + 1) (before ++ row ∷ []) rows parts.1 b t (in_left b before (row ∷ []) i) k
    ]

pub clash-rest : (at : ℕ) (before : List FileRow) (row : FileRow) (rows : List FileRow) → clash_from at before (row ∷ rows) ≡ None → clash_from (at + 1) (before ++ row ∷ []) rows ≡ None
unfolding clash_from
clash-rest at before row rows h = (either-false2 (list_any (λ b. lies_below row.path b.path) before) at (clash_from (at + 1) (before ++ row ∷ []) rows) h).1

-- ---- names of fit paths

plain-onto : (b : ℕ) (parts : List Bytes) → (b == 47) ≡ false → Each (λ n. has_byte 47 n ≡ false) parts → Each (λ n. has_byte 47 n ≡ false) (onto_first b parts)
plain-onto b [] e h = (ap (λ (t : Bool). t || false) e, tt)
plain-onto b (p ∷ parts) e h = (ap (λ (t : Bool). t || has_byte 47 p) e ∙ h.0, h.1)

pub plain-components : (path : Bytes) → Each (λ n. has_byte 47 n ≡ false) (components path)
plain-components [] = (refl, tt)
plain-components (b ∷ path) = by (b == 47) refl (plain-components path)
  where
    by : (t : Bool) → (b == 47) ≡ t → Each (λ n. has_byte 47 n ≡ false) (components path) → Each (λ n. has_byte 47 n ≡ false) (if t then [] ∷ components path else onto_first b (components path))
    by true e h = (refl, h)
    by false e h = plain-onto b (components path) e h

names-fit : (names : List Bytes) → list_all is_fit_component names ≡ true → Each (λ n. has_byte 47 n ≡ false) names → Each (λ n. (n ≢ []) × (has_byte 47 n ≡ false)) names
names-fit [] h p = tt
names-fit (n ∷ names) h p =
    let parts = both (is_fit_component n) (list_all is_fit_component names) h in
    ((some n parts.0, p.0), names-fit names parts.1 p.1)
  where
    some : (n : Bytes) → is_fit_component n ≡ true → n ≢ []
    some [] h e = absurd cc
    some (b ∷ n) h e = cc

pub fit-file : (row : FileRow) → is_fit_path row.path ≡ true → (is_directory row.mode ≡ true → row.id ≡ object_id tree []) → IsFile row
unfolding is_fit_path
fit-file row h d = record {
  names = names-fit (components row.path)
      (both (not (length row.path == 0) && nat_le (length row.path) 4096 && nat_le (length (components row.path)) 256 && not (has_byte 0 row.path) && not (has_byte 10 row.path) && not (has_byte 13 row.path)) (list_all is_fit_component (components row.path)) h).1
      (plain-components row.path);
  empty = d;
}

-- ---- rows that stand in order

pub later : (a : FileRow) (rows : List FileRow) (t : FileRow) → rises is_below (map (λ r. r.path) (a ∷ rows)) ≡ true → In t rows → is_below a.path t.path ≡ true
later a [] t h i = absurd i
later a (b ∷ rows) t h i =
    let parts = both (is_below a.path b.path) (rises is_below (map (λ r. r.path) (b ∷ rows))) h in
    elim i [
      | inl q ↦ ap (λ (z : FileRow). is_below a.path z.path) q ∙ parts.0
      | inr j ↦ is_below-chain a.path b.path t.path parts.0 (later b rows t parts.1 j)
    ]

pub rises-rest : (a : FileRow) (rows : List FileRow) → rises is_below (map (λ r. r.path) (a ∷ rows)) ≡ true → rises is_below (map (λ r. r.path) rows) ≡ true
rises-rest a [] h = refl
rises-rest a (b ∷ rows) h = (both (is_below a.path b.path) (rises is_below (map (λ r. r.path) (b ∷ rows))) h).1
