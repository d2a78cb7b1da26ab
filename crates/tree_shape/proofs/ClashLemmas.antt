-- A row lies below an earlier one exactly where its path goes on with a slash behind what it shares with the row before it, and a row has that front.
use Rattle.std.proofs.Common.{◌≡◌, ◌≢◌, ◌≤◌, ◌<◌, ◌+◌, ◌-◌, ℕ, zero, suc, Bool, true, false, ◌&&◌, ◌||◌, ◌==◌, List, [], ◌∷◌, ◌++◌, length, take, drop, get_or, map, Some, None, refl, sym, ap, subst, ◌∙◌, inl, inr, ◌⊎◌, arith}
use Rattle.std.specs.Prelude.{if◌then◌else◌, bytes_eq, slice_get}
use Rattle.std.specs.List.{list_any}
use Rattle.std.proofs.lemmas.Bool.{eqb-true, eq-eqb, cases_lt}
use Rattle.std.proofs.lemmas.List.{append-nil, take-append-drop, drop_all}
use Rattle.std.proofs.Math.Seq.{take-suc}
use Rattle.std.proofs.lemmas.Slice.Eq.{bytes_eq-Decides}
use Rattle.text_model.specs.Lists.{In, rises}
use Rattle.text_model.specs.Text.{Bytes, is_below}
use Rattle.text_model.specs.Path.{lies_below}
use Rattle.text_model.proofs.OrderLemmas.{is_below-chain, is_below-irreflexive, is_below-one_way, is_below-same}
use Rattle.text_model.proofs.TestLemmas.{both, differs, or_true}
use Rattle.text_model.proofs.Elements.{in_right, drop_front}
use Rattle.git_model.specs.Unfold.{FileRow}
use Rattle.git_model.specs.Shape.{first_clash, clash_from}
use Rattle.tree_shape.specs.Clashes.{shared, begins_with_slash}
use Rattle.tree_shape.proofs.Rows.{clash, in-lies, between, above}
use Rattle.tree_shape.proofs.FileSets.{lies-true, later, rises-rest, no-clash, clash-rest, bool-same}

abbrev pub paths : List FileRow → List Bytes
paths rows = map (λ r. r.path) rows

abbrev pub rise : List FileRow → Type 0
rise rows = rises is_below (paths rows) ≡ true

-- ---- what two paths share

shared-next : (x y : ℕ) (xs ys : Bytes) → x ≡ y → shared (x ∷ xs) (y ∷ ys) ≡ 1 + shared xs ys
shared-next x y xs ys h = ap (λ (b : Bool). if b then 1 + shared xs ys else 0) (eq-eqb x y h)

shared-stops : (x y : ℕ) (xs ys : Bytes) → x ≢ y → shared (x ∷ xs) (y ∷ ys) ≡ 0
shared-stops x y xs ys h = ap (λ (b : Bool). if b then 1 + shared xs ys else 0) (differs x y h)

-- the front is all that these share
front-shared : (front : Bytes) (c : Bytes) (y : ℕ) (s : Bytes) → ((z : ℕ) (more : Bytes) → c ≡ z ∷ more → z ≢ y) → shared (front ++ c) (front ++ y ∷ s) ≡ length front
front-shared [] [] y s h = refl
front-shared [] (z ∷ c) y s h = shared-stops z y c s (h z c refl)
front-shared (x ∷ front) c y s h = shared-next x x (front ++ c) (front ++ y ∷ s) refl ∙ (let rec = front-shared front c y s h in omega (arith, rec))

pub shared-within : (xs ys : Bytes) → shared xs ys ≤ length ys
shared-within [] ys = omega arith
shared-within (x ∷ xs) [] = omega arith
shared-within (x ∷ xs) (y ∷ ys) = by (x == y) (shared-within xs ys)
  where
    by : (b : Bool) → shared xs ys ≤ length ys → (if b then 1 + shared xs ys else 0) ≤ suc (length ys)
    by true h = omega (arith, h)
    by false h = omega arith

-- ---- a row lies below one of those before it

lies-above : (path front : Bytes) → lies_below path front ≡ true → is_below front path ≡ true
lies-above path front h = let l = lies-true path front h in ap (is_below front) l.1 ∙ above front 47 l.0

-- in rows without a clash no path lies below another
pub none-below : (at : ℕ) (before rows : List FileRow) → clash_from at before rows ≡ None → rise rows → (b t : FileRow) → In b rows → In t rows → lies_below t.path b.path ≡ false
none-below at before [] h o b t i j = absurd i
none-below at before (a ∷ rows) h o b t i j = by (λ u v. none-below (at + 1) (before ++ a ∷ []) rows (clash-rest at before a rows h) (rises-rest a rows o) b t u v) (lies_below t.path b.path) refl
  where
    by : (In b rows → In t rows → lies_below t.path b.path ≡ false) → (x : Bool) → lies_below t.path b.path ≡ x → lies_below t.path b.path ≡ false
    by rec false e = e
    by rec true e =
        let up = lies-above t.path b.path e in
        elim i [
          | inl p ↦ elim j [
            | inl q ↦ absurd (clash (sym up ∙ ap (λ (z : FileRow). is_below z.path t.path) (p ∙ sym q) ∙ is_below-irreflexive t.path))
            | inr v ↦ no-clash (at + 1) (before ++ a ∷ []) rows (clash-rest at before a rows h) b t (subst (λ (z : FileRow). In z (before ++ a ∷ [])) (sym p) (in_right a before (a ∷ []) (inl refl))) v
          ]
          | inr u ↦ elim j [
            | inl q ↦ absurd (clash (sym up ∙ ap (λ (z : FileRow). is_below b.path z.path) q ∙ is_below-one_way a.path b.path (later a rows b o u)))
            | inr v ↦ rec u v
          ]
        ]

-- ---- tests over rows

pub any-in : (p : FileRow → Bool) (rows : List FileRow) → list_any p rows ≡ true → (b : FileRow) × In b rows × (p b ≡ true)
any-in p [] h = absurd (clash (sym h))
any-in p (a ∷ rows) h = by (p a) refl h (any-in p rows)
  where
    by : (t : Bool) → p a ≡ t → (t || list_any p rows) ≡ true → (list_any p rows ≡ true → (b : FileRow) × In b rows × (p b ≡ true)) → (b : FileRow) × In b (a ∷ rows) × (p b ≡ true)
    by true e i rec = (a, inl refl, e)
    by false e i rec = let r = rec i in (r.0, inr r.1, r.2)

pub in-any : (p : FileRow → Bool) (rows : List FileRow) (b : FileRow) → In b rows → p b ≡ true → list_any p rows ≡ true
in-any p [] b i h = absurd i
in-any p (a ∷ rows) b i h = elim i [
  | inl q ↦ ap (λ (t : Bool). t || list_any p rows) (sym (ap p q) ∙ h)
  | inr j ↦ ap (λ (t : Bool). p a || t) (in-any p rows b j h) ∙ or_true (p a)
]

-- ---- the last of the rows before

pub rises-take : (n : ℕ) (rows : List FileRow) → rise rows → rise (take n rows)
rises-take zero rows h = refl
rises-take (suc n) [] h = refl
rises-take (suc zero) (a ∷ rows) h = refl
rises-take (suc (suc n)) (a ∷ []) h = refl
rises-take (suc (suc n)) (a ∷ b ∷ rows) h =
    let parts = both (is_below a.path b.path) (rises is_below (paths (b ∷ rows))) h in
    ap (λ (t : Bool). t && rises is_below (paths (b ∷ take n rows))) parts.0 ∙ rises-take (suc n) (b ∷ rows) parts.1

-- the last row, where there is one
abbrev pub IsLast : List FileRow → FileRow → Type 0
IsLast rows last = (front : List FileRow) × (rows ≡ front ++ last ∷ [])

-- each row is the last or stands below it
up-to-last : (front : List FileRow) (last : FileRow) → rise (front ++ last ∷ []) → (b : FileRow) → In b (front ++ last ∷ []) → (b ≡ last) ⊎ (is_below b.path last.path ≡ true)
up-to-last [] last o b i = elim i [ inl q ↦ inl q | inr j ↦ absurd j ]
up-to-last (a ∷ front) last o b i = elim i [
  | inl q ↦ inr (ap (λ (z : FileRow). is_below z.path last.path) q ∙ later a (front ++ last ∷ []) last o (in_right last front (last ∷ []) (inl refl)))
  | inr j ↦ up-to-last front last (rises-rest a (front ++ last ∷ []) o) b j
]

pub rises-front : (rows : List FileRow) (row : FileRow) → rise (rows ++ row ∷ []) → rise rows
rises-front [] row h = refl
rises-front (a ∷ []) row h = refl
rises-front (a ∷ b ∷ rows) row h =
    let parts = both (is_below a.path b.path) (rises is_below (paths (b ∷ (rows ++ row ∷ [])))) h in
    ap (λ (t : Bool). t && rises is_below (paths (b ∷ rows))) parts.0 ∙ rises-front (b ∷ rows) row parts.1

below-row : (rows : List FileRow) (row b : FileRow) → rise (rows ++ row ∷ []) → In b rows → is_below b.path row.path ≡ true
below-row [] row b o i = absurd i
below-row (a ∷ rows) row b o i = elim i [
  | inl q ↦ ap (λ (z : FileRow). is_below z.path row.path) q ∙ later a (rows ++ row ∷ []) row o (in_right row rows (row ∷ []) (inl refl))
  | inr j ↦ below-row rows row b (rises-rest a (rows ++ row ∷ []) o) j
]

pub take-front : (d s : Bytes) → take (length d) (d ++ s) ≡ d
take-front [] s = refl
take-front (x ∷ d) s = (λ k. x ∷ take-front d s k)

pub slash-first : (s : Bytes) → begins_with_slash s ≡ true → (more : Bytes) × (s ≡ 47 ∷ more)
slash-first [] h = absurd (clash (sym h))
slash-first (b ∷ s) h = (s, (λ k. eqb-true b 47 h k ∷ s))

-- what the last row before shares with the path decides
module _ (before : List FileRow) (row last : FileRow) (o : rise (before ++ row ∷ [])) (none : first_clash before ≡ None) (l : IsLast before last) where
  abbrev count : ℕ
  count = shared last.path row.path

  abbrev has : Bytes → Bool
  has front = list_any (λ r. bytes_eq r.path front) before

  -- the front of a clash is all that the last row shares with the path
  all-shared : (b : FileRow) → In b before → (s : Bytes) → row.path ≡ b.path ++ 47 ∷ s → count ≡ length b.path
  all-shared b i s is =
      let c : (c : Bytes) × (last.path ≡ b.path ++ c) = elim (up-to-last l.0 last (subst rise l.1 (rises-front before row o)) b (subst (λ (rows : List FileRow). In b rows) l.1 i)) [
        | inl q ↦ ([], ap (λ (z : FileRow). z.path) (sym q) ∙ sym (append-nil b.path))
        | inr low ↦ between b.path [] last.path (47 ∷ s)
            (ap (λ (p : Bytes). is_below p last.path) (append-nil b.path) ∙ low)
            (sym (ap (is_below last.path) is) ∙ below-row before row last o (subst (λ (rows : List FileRow). In last rows) (sym l.1) (in_right last l.0 (last ∷ []) (inl refl))))
      ] in
      (λ k. shared (c.1 k) (is k)) ∙ front-shared b.path c.0 47 s (λ z more e q. clash (
      sym (ap (λ (p : Bytes). lies_below p b.path) (c.1 ∙ ap (λ (x : Bytes). b.path ++ x) e ∙ ap (λ (y : ℕ). b.path ++ y ∷ more) q) ∙ in-lies b.path more)
      ∙ none-below 0 [] before none (rises-front before row o) b last i (subst (λ (rows : List FileRow). In last rows) (sym l.1) (in_right last l.0 (last ∷ []) (inl refl)))))

  pub decides : (begins_with_slash (drop count row.path) && has (take count row.path)) ≡ list_any (λ b. lies_below row.path b.path) before
  decides = bool-same (begins_with_slash (drop count row.path) && has (take count row.path)) (list_any (λ b. lies_below row.path b.path) before)
      (λ e.
      let parts = both (begins_with_slash (drop count row.path)) (has (take count row.path)) e in
      let s = slash-first (drop count row.path) parts.0 in
      let b = any-in (λ r. bytes_eq r.path (take count row.path)) before parts.1 in
      let equal : b.0.path ≡ take count row.path = (bytes_eq-Decides b.0.path (take count row.path)).0 b.2 in
      let is : row.path ≡ b.0.path ++ 47 ∷ s.0 = sym (take-append-drop count row.path) ∙ (λ k. sym equal k ++ s.1 k) in
      in-any (λ b. lies_below row.path b.path) before b.0 b.1 (ap (λ (p : Bytes). lies_below p b.0.path) is ∙ in-lies b.0.path s.0))
      (λ e.
      let b = any-in (λ b. lies_below row.path b.path) before e in
      let t = lies-true row.path b.0.path b.2 in
      let n : count ≡ length b.0.path = all-shared b.0 b.1 t.0 t.1 in
      let front : take count row.path ≡ b.0.path = (λ k. take (n k) (t.1 k)) ∙ take-front b.0.path (47 ∷ t.0) in
      let rest : drop count row.path ≡ 47 ∷ t.0 = (λ k. drop (n k) (t.1 k)) ∙ drop_front b.0.path (47 ∷ t.0) in
      rw (rest, front) (in-any (λ r. bytes_eq r.path b.0.path) before b.0 b.1 ((bytes_eq-Decides b.0.path b.0.path).1 refl)))

-- ---- the first clash, row by row

pub clash-snoc : (at : ℕ) (before rows : List FileRow) (row : FileRow) → clash_from at before rows ≡ None → list_any (λ b. lies_below row.path b.path) (before ++ rows) ≡ false → clash_from at before (rows ++ row ∷ []) ≡ None
unfolding clash_from
clash-snoc at before [] row h any = ap (λ (b : Bool). if b then Some at else None) (sym (ap (list_any (λ b. lies_below row.path b.path)) (append-nil before)) ∙ any)
clash-snoc at before (a ∷ rows) row h any = by (list_any (λ b. lies_below a.path b.path) before) h
    (clash-snoc (at + 1) (before ++ a ∷ []) rows row (clash-rest at before a rows h) (ap (list_any (λ b. lies_below row.path b.path)) (assoc before) ∙ any))
  where
    assoc : (xs : List FileRow) → (xs ++ a ∷ []) ++ rows ≡ xs ++ a ∷ rows
    assoc [] = refl
    assoc (x ∷ xs) = (λ k. x ∷ assoc xs k)

    by : (t : Bool) → (if t then Some at else clash_from (at + 1) (before ++ a ∷ []) rows) ≡ None → clash_from (at + 1) (before ++ a ∷ []) (rows ++ row ∷ []) ≡ None
        → (if t then Some at else clash_from (at + 1) (before ++ a ∷ []) (rows ++ row ∷ [])) ≡ None
    by true h rec = h
    by false h rec = rec

pub no-rows : first_clash [] ≡ None
unfolding clash_from
no-rows = refl

-- ---- where the counting of shared bytes ends

pub none-shared : (xs : Bytes) → shared xs [] ≡ 0
none-shared [] = refl
none-shared (x ∷ xs) = refl

pub other-ends : (path other : Bytes) (count : ℕ) → length other ≤ count → shared path other ≡ count + shared (drop count path) (drop count other) → count ≡ shared path other
other-ends path other count le all =
    omega (arith, all, ap (shared (drop count path)) (drop_all count other le) ∙ none-shared (drop count path))

-- ---- the last row

abbrev end : List FileRow → ℕ
end rows = length rows - 1

pub last-of : (rows : List FileRow) (last : FileRow) → Some last ≡ slice_get rows (end rows) → IsLast rows last
last-of [] last h = absurd cc
last-of (a ∷ []) last h = let is : last ≡ a = cc in ([], (λ k. sym is k ∷ []))
last-of (a ∷ b ∷ rows) last h =
    let less : length (a ∷ b ∷ rows) - 1 ≡ suc (length (b ∷ rows) - 1) = omega arith in
    let r = last-of (b ∷ rows) last (h ∙ ap (slice_get (a ∷ b ∷ rows)) less) in
    (a ∷ r.0, (λ k. a ∷ r.1 k))

-- ---- a row of one path among rows that rise

abbrev pub is_before : Bytes → FileRow → Bool
is_before path row = is_below row.path path

in-at : (rows : List FileRow) (i : ℕ) (d : FileRow) → i < length rows → In (get_or rows i d) rows
in-at [] i d lt = absurd (omega (arith, lt))
in-at (a ∷ rows) zero d lt = inl refl
in-at (a ∷ rows) (suc i) d lt = inr (in-at rows i d (omega (arith, lt)))

rising-at : (rows : List FileRow) → rise rows → (i j : ℕ) (d : FileRow) → i < j → j < length rows → is_below (get_or rows i d).path (get_or rows j d).path ≡ true
rising-at [] o i j d lt within = absurd (omega (arith, within))
rising-at (a ∷ rows) o i zero d lt within = absurd (omega (arith, lt))
rising-at (a ∷ rows) o zero (suc j) d lt within = later a rows (get_or rows j d) o (in-at rows j d (omega (arith, within)))
rising-at (a ∷ rows) o (suc i) (suc j) d lt within = rising-at rows (rises-rest a rows o) i j d (omega (arith, lt)) (omega (arith, within))

-- the rows that stand before a path come first
pub parted : (rows : List FileRow) (path : Bytes) → rise rows → (i j : ℕ) (d : FileRow) → i ≤ j → j < length rows → is_before path (get_or rows j d) ≡ true → is_before path (get_or rows i d) ≡ true
parted rows path o i j d le within h = elim (cases_lt i j) [
  | inl lt ↦ is_below-chain (get_or rows i d).path (get_or rows j d).path path (rising-at rows o i j d lt within) h
  | inr ge ↦
      let same : j ≡ i = omega (arith, le, ge) in
      subst (λ (k : ℕ). is_before path (get_or rows k d) ≡ true) same h
]

-- the rows are parted at this place: those before it stand before the path, and no other does
pub record IsParted (rows : List FileRow) (path : Bytes) (place : ℕ) : Type 0 where
  pub before : (k : ℕ) (d : FileRow) → k < place → is_before path (get_or rows k d) ≡ true
  pub behind : (k : ℕ) (d : FileRow) → place ≤ k → k < length rows → is_before path (get_or rows k d) ≡ false

parted-rest : (a : FileRow) (rows : List FileRow) (path : Bytes) (place : ℕ) → IsParted (a ∷ rows) path (suc place) → IsParted rows path place
parted-rest a rows path place p = record {
  before = λ k d lt. p.before (suc k) d (omega (arith, lt));
  behind = λ k d le lt. p.behind (suc k) d (omega (arith, le)) (omega (arith, lt));
}

none-of : (p : FileRow → Bool) (rows : List FileRow) → ((t : FileRow) → In t rows → p t ≡ false) → list_any p rows ≡ false
none-of p [] h = refl
none-of p (a ∷ rows) h = ap (λ (t : Bool). t || list_any p rows) (h a (inl refl)) ∙ none-of p rows (λ t i. h t (inr i))

not-same : (row : FileRow) (path : Bytes) → row.path ≢ path → bytes_eq row.path path ≡ false
not-same row path h = by (bytes_eq row.path path) refl
  where
    by : (t : Bool) → bytes_eq row.path path ≡ t → bytes_eq row.path path ≡ false
    by false e = e
    by true e = absurd (h ((bytes_eq-Decides row.path path).0 e))

below-not-same : (row : FileRow) (path : Bytes) → is_below row.path path ≡ true → bytes_eq row.path path ≡ false
below-not-same row path h = not-same row path (λ e. clash (sym h ∙ ap (λ (p : Bytes). is_below p path) e ∙ is_below-irreflexive path))

above-not-same : (row : FileRow) (path : Bytes) → is_below path row.path ≡ true → bytes_eq row.path path ≡ false
above-not-same row path h = not-same row path (λ e. clash (sym h ∙ ap (is_below path) e ∙ is_below-irreflexive path))

pub path-at : (rows : List FileRow) (path : Bytes) (place : ℕ) (x : FileRow) → rise rows → IsParted rows path place → place < length rows → x ≡ get_or rows place x → bytes_eq x.path path ≡ list_any (λ r. bytes_eq r.path path) rows
path-at [] path place x o p lt is = absurd (omega (arith, lt))
path-at (a ∷ rows) path zero x o p lt is = ap (λ (r : FileRow). bytes_eq r.path path) is ∙ by (bytes_eq a.path path) refl
  where
    by : (t : Bool) → bytes_eq a.path path ≡ t → bytes_eq a.path path ≡ (bytes_eq a.path path || list_any (λ r. bytes_eq r.path path) rows)
    by true e = rw e refl
    by false e =
        let low : is_below path a.path ≡ true = over (is_below path a.path) refl in
        rw e (sym (none-of (λ r. bytes_eq r.path path) rows (λ t i. above-not-same t path (is_below-chain path a.path t.path low (later a rows t o i)))))
      where
        over : (t : Bool) → is_below path a.path ≡ t → is_below path a.path ≡ true
        over true f = f
        over false f = absurd (clash (sym ((bytes_eq-Decides a.path path).1 (is_below-same a.path path (p.behind 0 a (omega arith) (omega arith)) f)) ∙ e))
path-at (a ∷ rows) path (suc place) x o p lt is =
    path-at rows path place x (rises-rest a rows o) (parted-rest a rows path place p) (omega (arith, lt)) is
    ∙ sym (ap (λ (t : Bool). t || list_any (λ r. bytes_eq r.path path) rows) (below-not-same a path (p.before 0 a (omega arith))))

pub path-past : (rows : List FileRow) (path : Bytes) (place : ℕ) → IsParted rows path place → length rows ≤ place → false ≡ list_any (λ r. bytes_eq r.path path) rows
path-past [] path place p le = refl
path-past (a ∷ rows) path zero p le = absurd (omega (arith, le))
path-past (a ∷ rows) path (suc place) p le =
    path-past rows path place (parted-rest a rows path place p) (omega (arith, le))
    ∙ sym (ap (λ (t : Bool). t || list_any (λ r. bytes_eq r.path path) rows) (below-not-same a path (p.before 0 a (omega arith))))

-- ---- a turn over the rows

-- the row at a place behind those before it
pub row-behind : (rows : List FileRow) (k : ℕ) (row : FileRow) → k < length rows → row ≡ get_or rows k row → take k rows ++ row ∷ [] ≡ take (k + 1) rows
row-behind rows k row lt is =
    let one : suc k ≡ k + 1 = omega arith in
    ap (λ (r : FileRow). take k rows ++ r ∷ []) is ∙ sym (take-suc rows k row lt) ∙ ap (λ (n : ℕ). take n rows) one

pub none-so-far : (rows : List FileRow) (k : ℕ) (row : FileRow) → k < length rows → row ≡ get_or rows k row → first_clash (take k rows) ≡ None → list_any (λ b. lies_below row.path b.path) (take k rows) ≡ false → first_clash (take (k + 1) rows) ≡ None
none-so-far rows k row lt is none any = sym (ap first_clash (row-behind rows k row lt is)) ∙ clash-snoc 0 [] (take k rows) row none any
