-- The paths of three lists of entries that rise, path by path.
use Rattle.std.proofs.Common.{◌≡◌, ℕ, zero, suc, ◌+◌, Bool, true, false, true≢false, List, [], ◌∷◌, ◌++◌, map, Option, Some, None, refl, sym, ap, subst, ◌∙◌, bytes_eq, inl, inr, arith}
use Rattle.std.proofs.lemmas.Option.{none-some}
use Rattle.std.specs.Prelude.{◌⊎◌, ◌||◌, drop, if◌then◌else◌, filter, is_some, slice_get}
use Rattle.std.specs.List.{find}
use Rattle.std.proofs.lemmas.Slice.Eq.{bytes_eq-Decides}
use Rattle.text_model.specs.Lists.{Each, first_of_each, in_order}
use Rattle.text_model.specs.Text.{Bytes, is_below}
use Rattle.text_model.proofs.EachLemmas.{Each-weaker}
use Rattle.text_model.proofs.OrderLemmas.{is_below-same, is_below-chain, below-other as other, above-other}
use Rattle.text_model.proofs.TestLemmas.{bytes_eq-is, bytes_eq-self as same}
use Rattle.hg_model.specs.Manifest.{ManifestEntry}
use Rattle.path_law.proofs.Order.{has, IsUp, same-rising, up-in_order, has-in_order, apart-first, has-first}
use Rattle.manifest_rule.specs.Merged.{is_listed, with_path, IsAtFront}

-- ---- one list of entries, whose paths rise

abbrev pub entry_paths : List ManifestEntry → List Bytes
entry_paths es = map (λ e. e.path) es

abbrev pub at_path : List ManifestEntry → Bytes → Option ManifestEntry
at_path es p = find (λ e. bytes_eq e.path p) es

abbrev pub head : List ManifestEntry → Option ManifestEntry
head [] = None
head (e ∷ es) = Some e

-- the list without its head, where that has the path
abbrev pub pop : Bytes → List ManifestEntry → List ManifestEntry
pop p [] = []
pop p (e ∷ es) = if bytes_eq e.path p then es else e ∷ es

-- a head that hasn't the path stands above it
head-above : (e : ManifestEntry) (p : Bytes) → is_below e.path p ≡ false → bytes_eq e.path p ≡ false → is_below p e.path ≡ true
head-above e p h apart = by (is_below p e.path) refl
  where
    by : (t : Bool) → is_below p e.path ≡ t → is_below p e.path ≡ true
    by true t = t
    by false t = absurd (true≢false (sym ((bytes_eq-Decides e.path p).1 (is_below-same e.path p h t)) ∙ apart))

above-chain : (p x : Bytes) (ys : List Bytes) → is_below p x ≡ true → Each (λ y. is_below x y ≡ true) ys → Each (λ y. is_below p y ≡ true) ys
above-chain p x ys h k = Each-weaker (λ y. is_below x y ≡ true) (λ y. is_below p y ≡ true) (λ y less. is_below-chain p x y h less) ys k

module _ (p : Bytes) where
  pub above : (es : List ManifestEntry) → IsUp (entry_paths es) → IsAtFront p (head es) → Each (λ y. is_below p y ≡ true) (entry_paths (pop p es))
  above [] up front = tt
  above (e ∷ es) up front = by (bytes_eq e.path p) refl
    where
      by : (t : Bool) → bytes_eq e.path p ≡ t → Each (λ y. is_below p y ≡ true) (entry_paths (pop p (e ∷ es)))
      by true t = rw t (subst (λ (x : Bytes). Each (λ y. is_below x y ≡ true) (entry_paths es)) (bytes_eq-is e.path p t) up.0)
      by false t = let less = head-above e p front t in rw t (less, above-chain p e.path (entry_paths es) less up.0)

  pub up-pop : (es : List ManifestEntry) → IsUp (entry_paths es) → IsUp (entry_paths (pop p es))
  up-pop [] up = tt
  up-pop (e ∷ es) up = by (bytes_eq e.path p) refl
    where
      by : (t : Bool) → bytes_eq e.path p ≡ t → IsUp (entry_paths (pop p (e ∷ es)))
      by true t = rw t (up.1)
      by false t = rw t up

  has-pop : (es : List ManifestEntry) (q : Bytes) → bytes_eq q p ≡ false → has (entry_paths es) q ≡ has (entry_paths (pop p es)) q
  has-pop [] q apart = refl
  has-pop (e ∷ es) q apart = by (bytes_eq e.path p) refl
    where
      by : (t : Bool) → bytes_eq e.path p ≡ t → has (entry_paths (e ∷ es)) q ≡ has (entry_paths (pop p (e ∷ es))) q
      by true t = rw t (ap (λ (b : Bool). b || has (entry_paths es) q) (ap (bytes_eq q) (bytes_eq-is e.path p t) ∙ apart))
      by false t = rw t refl

  has_head : (es : List ManifestEntry) → is_some (with_path p (head es)) ≡ true → has (entry_paths es) p ≡ true
  has_head [] h = absurd (true≢false (sym h))
  has_head (e ∷ es) h = by (bytes_eq e.path p) refl
    where
      by : (t : Bool) → bytes_eq e.path p ≡ t → has (entry_paths (e ∷ es)) p ≡ true
      by true t = ap (λ (b : Bool). b || has (entry_paths es) p) (ap (bytes_eq p) (bytes_eq-is e.path p t) ∙ same p)
      by false t = absurd (true≢false (sym h ∙ rw t refl))

  none_at : (es : List ManifestEntry) → Each (λ y. is_below p y ≡ true) (entry_paths es) → at_path es p ≡ None
  none_at [] h = refl
  none_at (e ∷ es) h = rw (above-other p e.path h.0) (none_at es h.1)

  -- the entry of the path is the head, or none
  pub at-head : (es : List ManifestEntry) → IsUp (entry_paths es) → IsAtFront p (head es) → at_path es p ≡ with_path p (head es)
  at-head [] up front = refl
  at-head (e ∷ es) up front = by (bytes_eq e.path p) refl
    where
      by : (t : Bool) → bytes_eq e.path p ≡ t → at_path (e ∷ es) p ≡ with_path p (Some e)
      by true t = rw t refl
      by false t = rw t (none_at es (above-chain p e.path (entry_paths es) (head-above e p front t) up.0))

  -- of a path above it the entry is still there
  pub at-later : (es : List ManifestEntry) (q : Bytes) → is_below p q ≡ true → at_path es q ≡ at_path (pop p es) q
  at-later [] q less = refl
  at-later (e ∷ es) q less = by (bytes_eq e.path p) refl
    where
      by : (t : Bool) → bytes_eq e.path p ≡ t → at_path (e ∷ es) q ≡ at_path (pop p (e ∷ es)) q
      by true t = rw t (rw (ap (λ (x : Bytes). bytes_eq x q) (bytes_eq-is e.path p t) ∙ other p q less) refl)
      by false t = rw t refl

-- ---- three lists

abbrev pub all_paths : List ManifestEntry → List ManifestEntry → List ManifestEntry → List Bytes
all_paths es fs gs = in_order is_below (first_of_each bytes_eq (entry_paths es ++ entry_paths fs ++ entry_paths gs))

abbrev pub is_listed_at : Bool → Bool → List ManifestEntry → List ManifestEntry → List ManifestEntry → Bytes → Bool
is_listed_at first second es fs gs p = is_listed first second (at_path es p) (at_path fs p) (at_path gs p)

abbrev pub listed_among : Bool → Bool → List ManifestEntry → List ManifestEntry → List ManifestEntry → List Bytes
listed_among first second es fs gs = filter (is_listed_at first second es fs gs) (all_paths es fs gs)

has-append : (xs ys : List Bytes) (q : Bytes) → has (xs ++ ys) q ≡ (has xs q || has ys q)
has-append [] ys q = refl
has-append (x ∷ xs) ys q = by (bytes_eq q x) (has-append xs ys q)
  where
    by : (b : Bool) → has (xs ++ ys) q ≡ (has xs q || has ys q) → (b || has (xs ++ ys) q) ≡ (b || has xs q || has ys q)
    by true e = refl
    by false e = e

has-all : (es fs gs : List ManifestEntry) (q : Bytes) → has (all_paths es fs gs) q ≡ (has (entry_paths es) q || has (entry_paths fs) q || has (entry_paths gs) q)
has-all es fs gs q =
    has-in_order q (first_of_each bytes_eq (entry_paths es ++ entry_paths fs ++ entry_paths gs)) ∙ has-first q (entry_paths es ++ entry_paths fs ++ entry_paths gs)
    ∙ has-append (entry_paths es ++ entry_paths fs) (entry_paths gs) q ∙ ap (λ (b : Bool). b || has (entry_paths gs) q) (has-append (entry_paths es) (entry_paths fs) q)

has-above : (p q : Bytes) (ys : List Bytes) → Each (λ y. is_below p y ≡ true) ys → has ys q ≡ true → is_below p q ≡ true
has-above p q [] h e = absurd (true≢false (sym e))
has-above p q (y ∷ ys) h e = by (bytes_eq q y) refl (has-above p q ys h.1)
  where
    by : (b : Bool) → bytes_eq q y ≡ b → (has ys q ≡ true → is_below p q ≡ true) → is_below p q ≡ true
    by true t rest = ap (is_below p) (bytes_eq-is q y t) ∙ h.0
    by false t rest = rest (sym (rw t refl) ∙ e)

each-of_has : (P : Bytes → Type 0) (ys : List Bytes) → ((q : Bytes) → has ys q ≡ true → P q) → Each P ys
each-of_has P [] h = tt
each-of_has P (y ∷ ys) h = (h y (rw (same y) refl), each-of_has P ys (λ q is. h q (rw is (or-true (bytes_eq q y)))))
  where
    or-true : (b : Bool) → (b || true) ≡ true
    or-true true = refl
    or-true false = refl

one-of : (a b c : Bool) → (a || b || c) ≡ true → (a ≡ true) ⊎ ((b ≡ true) ⊎ (c ≡ true))
one-of true b c h = inl refl
one-of false true c h = inr (inl refl)
one-of false false c h = inr (inr h)

of-one : (a b c : Bool) → (a ≡ true) ⊎ ((b ≡ true) ⊎ (c ≡ true)) → (a || b || c) ≡ true
of-one true b c h = refl
of-one false true c h = refl
of-one false false true h = refl
of-one false false false (inl h) = h
of-one false false false (inr (inl h)) = h
of-one false false false (inr (inr h)) = h

filter-agree : (s t : Bytes → Bool) (xs : List Bytes) → Each (λ x. s x ≡ t x) xs → filter s xs ≡ filter t xs
filter-agree s t [] h = refl
filter-agree s t (x ∷ xs) h = by (t x) refl (filter-agree s t xs h.1)
  where
    by : (b : Bool) → t x ≡ b → filter s xs ≡ filter t xs → filter s (x ∷ xs) ≡ filter t (x ∷ xs)
    by true e rest = rw (e, h.0 ∙ e) (ap (λ (l : List Bytes). x ∷ l) rest)
    by false e rest = rw (e, h.0 ∙ e) rest

module _ (es fs gs : List ManifestEntry) (up_es : IsUp (entry_paths es)) (up_fs : IsUp (entry_paths fs)) (up_gs : IsUp (entry_paths gs)) (p : Bytes)
    (some : (is_some (with_path p (head es)) || is_some (with_path p (head fs)) || is_some (with_path p (head gs))) ≡ true)
    (before : IsAtFront p (head es) × IsAtFront p (head fs) × IsAtFront p (head gs)) where
  above-all : Each (λ y. is_below p y ≡ true) (all_paths (pop p es) (pop p fs) (pop p gs))
  above-all = each-of_has (λ y. is_below p y ≡ true) (all_paths (pop p es) (pop p fs) (pop p gs))
      (λ q h. cases q (one-of (has (entry_paths (pop p es)) q) (has (entry_paths (pop p fs)) q) (has (entry_paths (pop p gs)) q) (sym (has-all (pop p es) (pop p fs) (pop p gs) q) ∙ h)))
    where
      cases : (q : Bytes) → (has (entry_paths (pop p es)) q ≡ true) ⊎ ((has (entry_paths (pop p fs)) q ≡ true) ⊎ (has (entry_paths (pop p gs)) q ≡ true)) → is_below p q ≡ true
      cases q (inl h) = has-above p q (entry_paths (pop p es)) (above p es up_es before.0) h
      cases q (inr (inl h)) = has-above p q (entry_paths (pop p fs)) (above p fs up_fs before.1) h
      cases q (inr (inr h)) = has-above p q (entry_paths (pop p gs)) (above p gs up_gs before.2) h

  has-p : (has (entry_paths es) p || has (entry_paths fs) p || has (entry_paths gs) p) ≡ true
  has-p = of-one (has (entry_paths es) p) (has (entry_paths fs) p) (has (entry_paths gs) p) (cases (one-of (is_some (with_path p (head es))) (is_some (with_path p (head fs))) (is_some (with_path p (head gs))) some))
    where
      cases : (is_some (with_path p (head es)) ≡ true) ⊎ ((is_some (with_path p (head fs)) ≡ true) ⊎ (is_some (with_path p (head gs)) ≡ true))
          → (has (entry_paths es) p ≡ true) ⊎ ((has (entry_paths fs) p ≡ true) ⊎ (has (entry_paths gs) p ≡ true))
      cases (inl h) = inl (has_head p es h)
      cases (inr (inl h)) = inr (inl (has_head p fs h))
      cases (inr (inr h)) = inr (inr (has_head p gs h))

  same-members : (q : Bytes) → has (all_paths es fs gs) q ≡ has (p ∷ all_paths (pop p es) (pop p fs) (pop p gs)) q
  same-members q = by (bytes_eq q p) refl
    where
      by : (b : Bool) → bytes_eq q p ≡ b → has (all_paths es fs gs) q ≡ has (p ∷ all_paths (pop p es) (pop p fs) (pop p gs)) q
      by true e = rw e (ap (has (all_paths es fs gs)) (bytes_eq-is q p e) ∙ has-all es fs gs p ∙ has-p)
      by false e =
          rw e (has-all es fs gs q
          ∙ (λ i. has-pop p es q e i || has-pop p fs q e i || has-pop p gs q e i)
          ∙ sym (has-all (pop p es) (pop p fs) (pop p gs) q))

  pub all_paths-step : all_paths es fs gs ≡ p ∷ all_paths (pop p es) (pop p fs) (pop p gs)
  all_paths-step =
      same-rising (all_paths es fs gs) (p ∷ all_paths (pop p es) (pop p fs) (pop p gs))
      (up-in_order (first_of_each bytes_eq (entry_paths es ++ entry_paths fs ++ entry_paths gs)) (apart-first (entry_paths es ++ entry_paths fs ++ entry_paths gs)))
      (above-all, up-in_order (first_of_each bytes_eq (entry_paths (pop p es) ++ entry_paths (pop p fs) ++ entry_paths (pop p gs))) (apart-first (entry_paths (pop p es) ++ entry_paths (pop p fs) ++ entry_paths (pop p gs))))
      same-members

  -- one path, and what the lists still have behind it
  pub listed-step : (first second : Bool) → listed_among first second es fs gs
      ≡ (if is_listed first second (with_path p (head es)) (with_path p (head fs)) (with_path p (head gs)) then p ∷ [] else []) ++ listed_among first second (pop p es) (pop p fs) (pop p gs)
  listed-step first second =
      ap (filter (is_listed_at first second es fs gs)) all_paths-step
      ∙ by (is_listed first second (with_path p (head es)) (with_path p (head fs)) (with_path p (head gs))) refl
    where
      rest : filter (is_listed_at first second es fs gs) (all_paths (pop p es) (pop p fs) (pop p gs)) ≡ listed_among first second (pop p es) (pop p fs) (pop p gs)
      rest = filter-agree (is_listed_at first second es fs gs) (is_listed_at first second (pop p es) (pop p fs) (pop p gs)) (all_paths (pop p es) (pop p fs) (pop p gs))
          (Each-weaker (λ y. is_below p y ≡ true) (λ q. is_listed_at first second es fs gs q ≡ is_listed_at first second (pop p es) (pop p fs) (pop p gs) q)
          (λ q less i. is_listed first second (at-later p es q less i) (at-later p fs q less i) (at-later p gs q less i)) (all_paths (pop p es) (pop p fs) (pop p gs)) above-all)

      here : is_listed_at first second es fs gs p ≡ is_listed first second (with_path p (head es)) (with_path p (head fs)) (with_path p (head gs))
      here = λ i. is_listed first second (at-head p es up_es before.0 i) (at-head p fs up_fs before.1 i) (at-head p gs up_gs before.2 i)

      by : (b : Bool) → is_listed first second (with_path p (head es)) (with_path p (head fs)) (with_path p (head gs)) ≡ b
          → filter (is_listed_at first second es fs gs) (p ∷ all_paths (pop p es) (pop p fs) (pop p gs))
          ≡ (if is_listed first second (with_path p (head es)) (with_path p (head fs)) (with_path p (head gs)) then p ∷ [] else []) ++ listed_among first second (pop p es) (pop p fs) (pop p gs)
      by true e = rw (e, here ∙ e) (ap (λ (l : List Bytes). p ∷ l) rest)
      by false e = rw (e, here ∙ e) rest

-- ---- three lists, each from a place on

head-drop : (es : List ManifestEntry) (i : ℕ) → head (drop i es) ≡ slice_get es i
head-drop [] zero = refl
head-drop [] (suc i) = refl
head-drop (e ∷ es) zero = refl
head-drop (e ∷ es) (suc i) = head-drop es i

abbrev pub place_after : ℕ → Option ManifestEntry → ℕ
place_after i met = if is_some met then i + 1 else i

pop-drop : (p : Bytes) (es : List ManifestEntry) (i : ℕ) → pop p (drop i es) ≡ drop (place_after i (with_path p (slice_get es i))) es
pop-drop p [] zero = refl
pop-drop p [] (suc i) = refl
pop-drop p (e ∷ es) zero = by (bytes_eq e.path p) refl
  where
    by : (t : Bool) → bytes_eq e.path p ≡ t → pop p (e ∷ es) ≡ drop (place_after 0 (with_path p (Some e))) (e ∷ es)
    by true t = rw t refl
    by false t = rw t refl
pop-drop p (e ∷ es) (suc i) = pop-drop p es i ∙ by (is_some (with_path p (slice_get es i)))
  where
    by : (b : Bool) → drop (if b then i + 1 else i) es ≡ drop (if b then suc i + 1 else suc i) (e ∷ es)
    by true = let plus : suc i + 1 ≡ suc (i + 1) = omega arith in ap (λ (n : ℕ). drop n (e ∷ es)) (sym plus)
    by false = refl

up-drop : (es : List ManifestEntry) (i : ℕ) → IsUp (entry_paths es) → IsUp (entry_paths (drop i es))
up-drop [] zero up = up
up-drop [] (suc i) up = up
up-drop (e ∷ es) zero up = up
up-drop (e ∷ es) (suc i) up = up-drop es i up.1

pub listed-from : (es fs gs : List ManifestEntry) (i j k : ℕ) → IsUp (entry_paths es) → IsUp (entry_paths fs) → IsUp (entry_paths gs) → (p : Bytes)
    → (is_some (with_path p (slice_get es i)) || is_some (with_path p (slice_get fs j)) || is_some (with_path p (slice_get gs k))) ≡ true
    → IsAtFront p (slice_get es i) × IsAtFront p (slice_get fs j) × IsAtFront p (slice_get gs k) → (first second : Bool)
    → listed_among first second (drop i es) (drop j fs) (drop k gs)
    ≡ (if is_listed first second (with_path p (slice_get es i)) (with_path p (slice_get fs j)) (with_path p (slice_get gs k)) then p ∷ [] else [])
    ++ listed_among first second (drop (place_after i (with_path p (slice_get es i))) es) (drop (place_after j (with_path p (slice_get fs j))) fs) (drop (place_after k (with_path p (slice_get gs k))) gs)
listed-from es fs gs i j k up_es up_fs up_gs p some before first second =
    let e = head-drop es i in
    let f = head-drop fs j in
    let g = head-drop gs k in
    let some' : (is_some (with_path p (head (drop i es))) || is_some (with_path p (head (drop j fs))) || is_some (with_path p (head (drop k gs)))) ≡ true =
    (λ n. is_some (with_path p (e n)) || is_some (with_path p (f n)) || is_some (with_path p (g n))) ∙ some in
    let before' : IsAtFront p (head (drop i es)) × IsAtFront p (head (drop j fs)) × IsAtFront p (head (drop k gs)) =
    (subst (IsAtFront p) (sym e) before.0, subst (IsAtFront p) (sym f) before.1, subst (IsAtFront p) (sym g) before.2) in
    listed-step (drop i es) (drop j fs) (drop k gs) (up-drop es i up_es) (up-drop fs j up_fs) (up-drop gs k up_gs) p some' before' first second
    ∙ (λ n. (if is_listed first second (with_path p (e n)) (with_path p (f n)) (with_path p (g n)) then p ∷ [] else [])
    ++ listed_among first second (pop-drop p es i n) (pop-drop p fs j n) (pop-drop p gs k n))

-- past the ends nothing is left
pub listed-end : (es fs gs : List ManifestEntry) (i j k : ℕ) → slice_get es i ≡ None → slice_get fs j ≡ None → slice_get gs k ≡ None → (first second : Bool)
    → listed_among first second (drop i es) (drop j fs) (drop k gs) ≡ []
listed-end es fs gs i j k e f g first second = λ n. listed_among first second (past es i e n) (past fs j f n) (past gs k g n)
  where
    past : (es : List ManifestEntry) (i : ℕ) → slice_get es i ≡ None → drop i es ≡ []
    past [] zero h = refl
    past [] (suc i) h = refl
    past (e ∷ es) zero h = absurd (none-some _ (sym h))
    past (e ∷ es) (suc i) h = past es i h
