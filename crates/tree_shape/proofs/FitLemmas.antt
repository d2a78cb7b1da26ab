-- Fit paths, one name after the other.
use Rattle.std.proofs.Common.{◌≡◌, ◌<◌, ◌+◌, ◌-◌, ℕ, zero, suc, Bool, true, false, not, ◌&&◌, ◌||◌, ◌==◌, List, [], ◌∷◌, ◌++◌, length, take, get_or, inl, inr, refl, sym, ap, subst, ◌∙◌, arith}
use Rattle.std.specs.Prelude.{nat_le, nat_lt}
use Rattle.std.specs.List.{list_all, list_any}
use Rattle.std.proofs.lemmas.Bool.Decides.{nat_tests}
use Rattle.std.proofs.lemmas.List.{length-append}
use Rattle.text_model.specs.Lists.{In}
use Rattle.text_model.specs.Text.{Bytes, has_byte}
use Rattle.text_model.specs.Path.{components, is_fit_component, is_fit_path, is_fit_name}
use Rattle.text_model.proofs.TestLemmas.{both, differs}
use Rattle.text_model.proofs.Options.{not_true}
use Rattle.text_model.proofs.Elements.{each_in}
use Rattle.git_model.specs.Tree.{TreeEntry, IsTree}
use Rattle.git_model.specs.Unfold.{joined_path}
use Rattle.tree_shape.specs.Walks.{IsFront}
use Rattle.tree_shape.proofs.WalkLemmas.{Turn}
use Rattle.tree_shape.proofs.Names.{components-append, components-one}

-- what a fit path is
pub record Fit (path : Bytes) : Type 0 where
  pub some : not (length path == 0) ≡ true
  pub short : nat_le (length path) 4096 ≡ true
  pub few : nat_le (length (components path)) 256 ≡ true
  pub no_nul : not (has_byte 0 path) ≡ true
  pub no_lf : not (has_byte 10 path) ≡ true
  pub no_cr : not (has_byte 13 path) ≡ true
  pub names : list_all is_fit_component (components path) ≡ true

seven : (a b c d e f g : Bool) → (a && b && c && d && e && f && g) ≡ true → (a ≡ true) × (b ≡ true) × (c ≡ true) × (d ≡ true) × (e ≡ true) × (f ≡ true) × (g ≡ true)
seven true true true true true true true h = (refl, refl, refl, refl, refl, refl, refl)
seven true true true true true true false h = absurd cc
seven true true true true true false g h = absurd cc
seven true true true true false f g h = absurd cc
seven true true true false e f g h = absurd cc
seven true true false d e f g h = absurd cc
seven true false c d e f g h = absurd cc
seven false b c d e f g h = absurd cc

pub fit-parts : (path : Bytes) → is_fit_path path ≡ true → Fit path
unfolding is_fit_path
fit-parts path h =
    let s = seven (not (length path == 0)) (nat_le (length path) 4096) (nat_le (length (components path)) 256) (not (has_byte 0 path)) (not (has_byte 10 path)) (not (has_byte 13 path)) (list_all is_fit_component (components path)) h in
    record { some = s.0; short = s.1; few = s.2; no_nul = s.3; no_lf = s.4; no_cr = s.5; names = s.6 }

pub parts-fit : (path : Bytes) → Fit path → is_fit_path path ≡ true
unfolding is_fit_path
parts-fit path f = rw (f.some, f.short, f.few, f.no_nul, f.no_lf, f.no_cr, f.names) refl

-- ---- a name behind a path

any-append : {X : Type 0} (p : X → Bool) (xs ys : List X) → list_any p (xs ++ ys) ≡ (list_any p xs || list_any p ys)
any-append p [] ys = refl
any-append p (x ∷ xs) ys = ap (λ (b : Bool). p x || b) (any-append p xs ys) ∙ assoc (p x) (list_any p xs) (list_any p ys)
  where
    assoc : (a b c : Bool) → (a || (b || c)) ≡ ((a || b) || c)
    assoc true b c = refl
    assoc false b c = refl

pub all-append : {X : Type 0} (p : X → Bool) (xs ys : List X) → list_all p (xs ++ ys) ≡ (list_all p xs && list_all p ys)
all-append p [] ys = refl
all-append p (x ∷ xs) ys = ap (λ (b : Bool). p x && b) (all-append p xs ys) ∙ assoc (p x) (list_all p xs) (list_all p ys)
  where
    assoc : (a b c : Bool) → (a && (b && c)) ≡ ((a && b) && c)
    assoc true b c = refl
    assoc false b c = refl

-- a byte other than the slash stands in neither part
pub lacks-both : (b : ℕ) (path name : Bytes) → (47 == b) ≡ false → not (has_byte b path) ≡ true → not (has_byte b name) ≡ true → not (has_byte b (path ++ 47 ∷ name)) ≡ true
lacks-both b path name other p n =
    ap not (any-append (λ c. c == b) path (47 ∷ name))
    ∙ rw (not_true (has_byte b path) p, other, not_true (has_byte b name) n) refl

pub lacks-parts : (b : ℕ) (path name : Bytes) → not (has_byte b (path ++ 47 ∷ name)) ≡ true → (not (has_byte b path) ≡ true) × (not (has_byte b name) ≡ true)
lacks-parts b path name h = by (has_byte b path) (47 == b) (has_byte b name) (sym (ap not (any-append (λ c. c == b) path (47 ∷ name))) ∙ h)
  where
    by : (s t u : Bool) → not (s || (t || u)) ≡ true → (not s ≡ true) × (not u ≡ true)
    by true t u h = absurd cc
    by false true u h = absurd cc
    by false false u h = (refl, h)

one-more : (count levels : ℕ) → count + levels ≡ 256 → nat_le (count + 1) 256 ≡ nat_lt 0 levels
one-more count levels h = grind (arith, h, nat_tests)

rearranged : (s a c d e f g : Bool) → s ≡ true → d ≡ true → e ≡ true → f ≡ true → g ≡ true → (s && a && c && d && e && f && g) ≡ (c && a)
rearranged s a c d e f g p q r t u = rw (p, q, r, t, u) (by a c)
  where
    by : (a c : Bool) → (true && a && c && true && true && true && true) ≡ (c && a)
    by true true = refl
    by true false = refl
    by false true = refl
    by false false = refl

nonempty : (b : ℕ) (bytes : Bytes) → not (length (b ∷ bytes) == 0) ≡ true
nonempty b bytes = ap not (differs (length (b ∷ bytes)) 0 (λ e. omega (arith, e)))

-- ---- the path of an entry on a walk

-- a whole path is fit where its length is, and its names are not too many
pub fit-joined : (levels : ℕ) (path name : Bytes) → IsFront levels path → is_fit_name name ≡ true → is_fit_path (joined_path path name) ≡ (nat_lt 0 levels && nat_le (length (joined_path path name)) 4096)
unfolding is_fit_path
fit-joined levels [] name front n =
    let fit = (both (is_fit_path name) (not (has_byte 47 name)) n).0 in
    fit ∙ sym (rw (front, (fit-parts name fit).short) refl)
fit-joined levels (b ∷ path) name front n =
    let parts = both (is_fit_path name) (not (has_byte 47 name)) n in
    let f = fit-parts name parts.0 in
    let g = fit-parts (b ∷ path) front.0 in
    let whole : Bytes = (b ∷ path) ++ 47 ∷ name in
    let comps : components whole ≡ components (b ∷ path) ++ name ∷ [] =
    components-append (b ∷ path) name ∙ ap (λ (c : List Bytes). components (b ∷ path) ++ c) (components-one name (not_true (has_byte 47 name) parts.1)) in
    let one_name : list_all is_fit_component (name ∷ []) ≡ true = sym (ap (list_all is_fit_component) (components-one name (not_true (has_byte 47 name) parts.1))) ∙ f.names in
    let count : length (components whole) ≡ length (components (b ∷ path)) + 1 = ap (λ (c : List Bytes). length c) comps ∙ length-append (components (b ∷ path)) (name ∷ []) in
    rearranged (not (length whole == 0)) (nat_le (length whole) 4096) (nat_le (length (components whole)) 256) (not (has_byte 0 whole)) (not (has_byte 10 whole)) (not (has_byte 13 whole)) (list_all is_fit_component (components whole))
    (nonempty b (path ++ 47 ∷ name)) (lacks-both 0 (b ∷ path) name refl g.no_nul f.no_nul) (lacks-both 10 (b ∷ path) name refl g.no_lf f.no_lf) (lacks-both 13 (b ∷ path) name refl g.no_cr f.no_cr)
    (ap (list_all is_fit_component) comps ∙ all-append is_fit_component (components (b ∷ path)) (name ∷ []) ∙ rw (g.names, one_name) refl)
    ∙ ap (λ (t : Bool). t && nat_le (length whole) 4096) (ap (λ (k : ℕ). nat_le k 256) count ∙ one-more (length (components (b ∷ path))) levels front.1)

-- the path of a directory in which the walk goes on
pub front-deeper : (levels : ℕ) (path name : Bytes) → IsFront levels path → is_fit_name name ≡ true → 0 < levels → is_fit_path (joined_path path name) ≡ true → IsFront (levels - 1) (joined_path path name)
front-deeper levels [] name front n pos fit = by name (both (is_fit_path name) (not (has_byte 47 name)) n).1 fit
  where
    by : (name : Bytes) → not (has_byte 47 name) ≡ true → is_fit_path name ≡ true → IsFront (levels - 1) name
    by [] plain fit = let none = (fit-parts [] fit).some in absurd cc
    by (b ∷ name) plain fit = (fit, omega (arith, ap (λ (c : List Bytes). length c) (components-one (b ∷ name) (not_true (has_byte 47 (b ∷ name)) plain)), front))
front-deeper levels (b ∷ path) name front n pos fit =
    let plain = not_true (has_byte 47 name) (both (is_fit_path name) (not (has_byte 47 name)) n).1 in
    let comps : components ((b ∷ path) ++ 47 ∷ name) ≡ components (b ∷ path) ++ name ∷ [] = components-append (b ∷ path) name ∙ ap (λ (c : List Bytes). components (b ∷ path) ++ c) (components-one name plain) in
    (fit, omega (arith, ap (λ (c : List Bytes). length c) comps, length-append (components (b ∷ path)) (name ∷ []), front.1))

-- ---- the path of an entry in a turn

in-at : (entries : List TreeEntry) (i : ℕ) (e : TreeEntry) → i < length entries → e ≡ get_or entries i e → In e entries
in-at [] i e lt is = absurd (omega (arith, lt))
in-at (x ∷ entries) zero e lt is = inl is
in-at (x ∷ entries) (suc i) e lt is = inr (in-at entries i e (omega (arith, lt)) is)

pub name-fits : (path : Bytes) (entries : List TreeEntry) (i : ℕ) (e : TreeEntry) (whole : Bytes) → IsTree entries → Turn path entries i e whole → is_fit_name e.name ≡ true
name-fits path entries i e whole tree t = (each_in _ entries e tree.0 (in-at entries i e t.within t.is)).0

pub fit-turn : (levels : ℕ) (path : Bytes) (entries : List TreeEntry) (i : ℕ) (e : TreeEntry) (whole : Bytes) (len : ℕ) (short : Bool) → IsFront levels path → IsTree entries → Turn path entries i e whole
    → short ≡ (nat_lt 0 levels && nat_le len 4096) → len ≡ length whole → is_fit_path whole ≡ short
fit-turn levels path entries i e whole len short front tree t s n =
    ap is_fit_path t.joins ∙ fit-joined levels path e.name front (name-fits path entries i e whole tree t)
    ∙ ap (λ (p : Bytes). nat_lt 0 levels && nat_le (length p) 4096) (sym t.joins) ∙ ap (λ (k : ℕ). nat_lt 0 levels && nat_le k 4096) (sym n) ∙ sym s

pub levels-left : (levels len : ℕ) (short : Bool) → short ≡ (nat_lt 0 levels && nat_le len 4096) → short ≡ true → 0 < levels
levels-left levels len short s h = by (both (nat_lt 0 levels) (nat_le len 4096) (sym s ∙ h)).0
  where
    by : nat_lt 0 levels ≡ true → 0 < levels
    by e = grind (arith, e, nat_tests)

pub front-turn : (levels : ℕ) (path : Bytes) (entries : List TreeEntry) (i : ℕ) (e : TreeEntry) (whole : Bytes) → IsFront levels path → IsTree entries → Turn path entries i e whole → 0 < levels → is_fit_path whole ≡ true → IsFront (levels - 1) whole
front-turn levels path entries i e whole front tree t pos fit =
    subst (IsFront (levels - 1)) (sym t.joins) (front-deeper levels path e.name front (name-fits path entries i e whole tree t) pos (sym (ap is_fit_path t.joins) ∙ fit))

pub cut-back : (path name : Bytes) → take (length path) (joined_path path name) ≡ path
cut-back [] name = refl
cut-back (b ∷ path) name = take-front (b ∷ path) (47 ∷ name)
  where
    take-front : (xs ys : Bytes) → take (length xs) (xs ++ ys) ≡ xs
    take-front [] ys = refl
    take-front (x ∷ xs) ys = (λ k. x ∷ take-front xs ys k)
