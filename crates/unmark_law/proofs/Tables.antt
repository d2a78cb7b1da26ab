-- What a table of blocks gives: its partners are one to one.
use Rattle.std.proofs.Common.{◌≡◌, ◌≢◌, ℕ, Bool, true, false, List, [], ◌∷◌, map, Some, refl, sym, ap, subst, ◌∙◌, inl, inr}
use Rattle.std.specs.Prelude.{not, bytes_eq, is_some, option_map, unwrap_or, IsTrue}
use Rattle.std.specs.List.{find, list_any}
use Rattle.std.proofs.lemmas.Bool.{and_parts, not-true, or_parts, true≢false}
use Rattle.std.proofs.lemmas.Slice.Eq.{bytes_eq-Decides}
use Rattle.text_model.proofs.Elements.{each_in}
use Rattle.text_model.specs.Lists.{Each, In}
use Rattle.text_model.specs.Text.{Bytes}
use Rattle.text_model.specs.Id.{Id, null, is_null}
use Rattle.git_model.specs.Tree.{has_distinct}
use Rattle.pair_model.specs.Block.{Block, node_of, id_of, block_of_node, block_of_id, git_partner, hg_partner, not_null}
use Rattle.partner_model.specs.Table.{IsTable}

pub eq_true : (x y : List ℕ) → bytes_eq x y ≡ true → x ≡ y
eq_true x y h = (bytes_eq-Decides x y).0 h

pub eq_false : (x y : List ℕ) → bytes_eq x y ≡ false → x ≢ y
eq_false x y h e = true≢false (sym ((bytes_eq-Decides x y).1 e) ∙ h)

-- what a search finds
pub record Found {X : Type 0} (f : X → Bytes) (n : Bytes) (xs : List X) : Type 0 where
  pub it : X
  pub found : find (λ x. bytes_eq (f x) n) xs ≡ Some it
  pub among : In it xs
  pub is : f it ≡ n

pub finds : {X : Type 0} (f : X → Bytes) (n : Bytes) (xs : List X) → IsTrue (is_some (find (λ x. bytes_eq (f x) n) xs)) → Found f n xs
finds f n [] h = absurd cc
finds f n (x ∷ xs) h = by (bytes_eq (f x) n) refl (finds f n xs)
  where
    by : (t : Bool) → bytes_eq (f x) n ≡ t → (IsTrue (is_some (find (λ x. bytes_eq (f x) n) xs)) → Found f n xs) → Found f n (x ∷ xs)
    by true e more = record { it = x; found = rw e refl; among = inl refl; is = eq_true (f x) n e }
    by false e more =
        let r = more (rw e at h) in
        record { it = r.it; found = rw e r.found; among = inr r.among; is = r.is }

absent : {X : Type 0} (f : X → Bytes) (n : Bytes) (xs : List X) (a : X) → list_any (bytes_eq n) (map f xs) ≡ false → In a xs → n ≢ f a
absent f n [] a h i e = absurd i
absent f n (x ∷ xs) a h (inl i) e = absurd (eq_false n (f x) (or_parts (bytes_eq n (f x)) (list_any (bytes_eq n) (map f xs)) h).0 (e ∙ ap f i))
absent f n (x ∷ xs) a h (inr i) e = absent f n xs a (or_parts (bytes_eq n (f x)) (list_any (bytes_eq n) (map f xs)) h).1 i e

-- one element for a value of f
pub one_for : {X : Type 0} (f : X → Bytes) (xs : List X) → IsTrue (has_distinct (map f xs)) → (a b : X) → In a xs → In b xs → f a ≡ f b → a ≡ b
one_for f [] d a b i j e = absurd i
one_for f (x ∷ xs) d a b (inl i) (inl j) e = i ∙ sym j
one_for f (x ∷ xs) d a b (inl i) (inr j) e =
    let p = and_parts (not (list_any (bytes_eq (f x)) (map f xs))) (has_distinct (map f xs)) d in
    absurd (absent f (f x) xs b (not-true (list_any (bytes_eq (f x)) (map f xs)) p.0) j (sym (ap f i) ∙ e))
one_for f (x ∷ xs) d a b (inr i) (inl j) e =
    let p = and_parts (not (list_any (bytes_eq (f x)) (map f xs))) (has_distinct (map f xs)) d in
    absurd (absent f (f x) xs a (not-true (list_any (bytes_eq (f x)) (map f xs)) p.0) i (sym (e ∙ ap f j)))
one_for f (x ∷ xs) d a b (inr i) (inr j) e = one_for f xs (and_parts (not (list_any (bytes_eq (f x)) (map f xs))) (has_distinct (map f xs)) d).1 a b i j e

abbrev pub HasNode : List Block → Id → Type 0
HasNode blocks n = IsTrue (is_some (block_of_node blocks n))

abbrev pub HasId : List Block → Id → Type 0
HasId blocks i = IsTrue (is_some (block_of_id blocks i))

pub git_one : (blocks : List Block) → IsTable blocks → (n m : Id) → HasNode blocks n → HasNode blocks m → git_partner blocks n ≡ git_partner blocks m → n ≡ m
git_one blocks t n m h k e =
    let a = finds node_of n blocks h in
    let b = finds node_of m blocks k in
    let x : git_partner blocks n ≡ id_of a.it = ap (λ o. unwrap_or (option_map id_of o) null) a.found in
    let y : git_partner blocks m ≡ id_of b.it = ap (λ o. unwrap_or (option_map id_of o) null) b.found in
    let z = one_for id_of blocks t.ids a.it b.it a.among b.among (sym x ∙ e ∙ y) in
    sym a.is ∙ ap node_of z ∙ b.is

pub hg_one : (blocks : List Block) → IsTable blocks → (n m : Id) → HasId blocks n → HasId blocks m → hg_partner blocks n ≡ hg_partner blocks m → n ≡ m
hg_one blocks t n m h k e =
    let a = finds id_of n blocks h in
    let b = finds id_of m blocks k in
    let x : hg_partner blocks n ≡ node_of a.it = ap (λ o. unwrap_or (option_map node_of o) null) a.found in
    let y : hg_partner blocks m ≡ node_of b.it = ap (λ o. unwrap_or (option_map node_of o) null) b.found in
    let z = one_for node_of blocks t.nodes a.it b.it a.among b.among (sym x ∙ e ∙ y) in
    sym a.is ∙ ap id_of z ∙ b.is

pub hg_there : (blocks : List Block) → IsTable blocks → (n : Id) → HasId blocks n → hg_partner blocks n ≢ null
hg_there blocks t n h e =
    let a = finds id_of n blocks h in
    let x : hg_partner blocks n ≡ node_of a.it = ap (λ o. unwrap_or (option_map node_of o) null) a.found in
    each_in (λ b. node_of b ≢ null) blocks a.it t.there a.among (sym x ∙ e)

-- ---- lists of partners

pub map_one : {X : Type 0} (f : X → Bytes) (P : X → Type 0) → ((x y : X) → P x → P y → f x ≡ f y → x ≡ y) → (xs ys : List X) → Each P xs → Each P ys → map f xs ≡ map f ys → xs ≡ ys
map_one f P one [] [] h k e = refl
map_one f P one [] (y ∷ ys) h k e = absurd cc
map_one f P one (x ∷ xs) [] h k e = absurd cc
map_one f P one (x ∷ xs) (y ∷ ys) h k e =
    let a : f x ≡ f y = cc in
    let b : map f xs ≡ map f ys = cc in
    let c = one x y h.0 k.0 a in
    let d = map_one f P one xs ys h.1 k.1 b in
    cc

-- the parents of a changeset are read from those that aren't null
abbrev first_two : List Id → Id × Id
first_two [] = (null, null)
first_two (p ∷ []) = (p, null)
first_two (p ∷ q ∷ rest) = (p, q)

two_again : (p q : Id) → (p ≡ null → q ≡ null) → first_two (not_null (p ∷ q ∷ [])) ≡ (p, q)
two_again p q h = by (is_null p) (is_null q) refl refl
  where
    by : (s t : Bool) → is_null p ≡ s → is_null q ≡ t → first_two (not_null (p ∷ q ∷ [])) ≡ (p, q)
    by true t e f =
        let a = eq_true p null e in
        let b = h a in
        let g : is_null q ≡ true = (bytes_eq-Decides q null).1 b in
        rw (e, g) (λ i. (sym a i, sym b i))
    by false true e f = rw (e, f) (ap (λ (x : Id). (p, x)) (sym (eq_true q null f)))
    by false false e f = rw (e, f) refl

pub parents_one : (p q r s : Id) → (p ≡ null → q ≡ null) → (r ≡ null → s ≡ null) → not_null (p ∷ q ∷ []) ≡ not_null (r ∷ s ∷ []) → (p ≡ r) × (q ≡ s)
parents_one p q r s h k e =
    let x = sym (two_again p q h) ∙ ap first_two e ∙ two_again r s k in
    (ap (λ x. x.0) x, ap (λ x. x.1) x)

-- ---- there and back

pub found_there : {X : Type 0} (f : X → Bytes) (xs : List X) (a : X) → In a xs → IsTrue (is_some (find (λ x. bytes_eq (f x) (f a)) xs))
found_there f [] a i = absurd i
found_there f (x ∷ xs) a i = by (bytes_eq (f x) (f a)) refl i (found_there f xs a)
  where
    by : (t : Bool) → bytes_eq (f x) (f a) ≡ t → In a (x ∷ xs) → (In a xs → IsTrue (is_some (find (λ x. bytes_eq (f x) (f a)) xs))) → IsTrue (is_some (find (λ x. bytes_eq (f x) (f a)) (x ∷ xs)))
    by true e i go = rw e refl
    by false e (inl j) go = absurd (eq_false (f x) (f a) e (ap f (sym j)))
    by false e (inr j) go = rw e (go j)

pub git_has : (blocks : List Block) (n : Id) → HasNode blocks n → HasId blocks (git_partner blocks n)
git_has blocks n h =
    let a = finds node_of n blocks h in
    let x : git_partner blocks n ≡ id_of a.it = ap (λ o. unwrap_or (option_map id_of o) null) a.found in
    subst (λ (i : Id). HasId blocks i) (sym x) (found_there id_of blocks a.it a.among)

pub hg_has : (blocks : List Block) (n : Id) → HasId blocks n → HasNode blocks (hg_partner blocks n)
hg_has blocks n h =
    let a = finds id_of n blocks h in
    let x : hg_partner blocks n ≡ node_of a.it = ap (λ o. unwrap_or (option_map node_of o) null) a.found in
    subst (λ (i : Id). HasNode blocks i) (sym x) (found_there node_of blocks a.it a.among)

pub hg_git : (blocks : List Block) → IsTable blocks → (n : Id) → HasNode blocks n → hg_partner blocks (git_partner blocks n) ≡ n
hg_git blocks t n h =
    let a = finds node_of n blocks h in
    let x : git_partner blocks n ≡ id_of a.it = ap (λ o. unwrap_or (option_map id_of o) null) a.found in
    let b = finds id_of (git_partner blocks n) blocks (git_has blocks n h) in
    let y : hg_partner blocks (git_partner blocks n) ≡ node_of b.it = ap (λ o. unwrap_or (option_map node_of o) null) b.found in
    let z = one_for id_of blocks t.ids b.it a.it b.among a.among (b.is ∙ x) in
    y ∙ ap node_of z ∙ a.is

pub git_hg : (blocks : List Block) → IsTable blocks → (n : Id) → HasId blocks n → git_partner blocks (hg_partner blocks n) ≡ n
git_hg blocks t n h =
    let a = finds id_of n blocks h in
    let x : hg_partner blocks n ≡ node_of a.it = ap (λ o. unwrap_or (option_map node_of o) null) a.found in
    let b = finds node_of (hg_partner blocks n) blocks (hg_has blocks n h) in
    let y : git_partner blocks (hg_partner blocks n) ≡ id_of b.it = ap (λ o. unwrap_or (option_map id_of o) null) b.found in
    let z = one_for node_of blocks t.nodes b.it a.it b.among a.among (b.is ∙ x) in
    y ∙ ap id_of z ∙ a.is

pub map_back : (f g : Id → Id) (P : Id → Type 0) → ((x : Id) → P x → g (f x) ≡ x) → (xs : List Id) → Each P xs → map g (map f xs) ≡ xs
map_back f g P back [] h = refl
map_back f g P back (x ∷ xs) h =
    let a = back x h.0 in
    let b = map_back f g P back xs h.1 in
    λ i. a i ∷ b i

pub each_map : (f : Id → Id) (P Q : Id → Type 0) → ((x : Id) → P x → Q (f x)) → (xs : List Id) → Each P xs → Each Q (map f xs)
each_map f P Q go [] h = tt
each_map f P Q go (x ∷ xs) h = (go x h.0, each_map f P Q go xs h.1)
