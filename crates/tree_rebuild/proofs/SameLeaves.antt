-- Tests of leaves that say whether they are one.
use Rattle.tree_shape.proofs.Rows.{clash}
use Rattle.std.proofs.Common.{◌≡◌, Bool, true, false, ◌&&◌, List, [], ◌∷◌, ◌++◌, map, Some, refl, sym, ap, ◌∙◌}
use Rattle.std.specs.Prelude.{bytes_eq}
use Rattle.std.proofs.lemmas.Slice.Eq.{bytes_eq-Decides}
use Rattle.std.proofs.lemmas.Bool.{and_from}
use Rattle.text_model.proofs.Options.{some_is}
use Rattle.text_model.specs.Lists.{Each}
use Rattle.text_model.specs.Text.{Bytes}
use Rattle.text_model.proofs.TestLemmas.{both, bytes_eq-self}
use Rattle.git_model.specs.Tree.{Mode, File, GroupFile, Exec, Link, Directory, Gitlink, mode_text, mode_of}
use Rattle.git_model.specs.Shape.{Leaf}
use Rattle.tree_shape.specs.Wholes.{put_name}
use Rattle.tree_rebuild.specs.News.{same_names, same_leaf, same_leaves}

pub names-one : (a b : List Bytes) → same_names a b ≡ true → a ≡ b
names-one [] [] h = refl
names-one [] (y ∷ b) h = absurd (clash (sym h))
names-one (x ∷ a) [] h = absurd (clash (sym h))
names-one (x ∷ a) (y ∷ b) h = let p = both (bytes_eq x y) (same_names a b) h in (λ k. (bytes_eq-Decides x y).0 p.0 k ∷ names-one a b p.1 k)

pub names-same : (a : List Bytes) → same_names a a ≡ true
names-same [] = refl
names-same (x ∷ a) = and_from (bytes_eq x x) (same_names a a) (bytes_eq-self x) (names-same a)

mode-back : (m : Mode) → mode_of (mode_text m) ≡ Some m
mode-back File = refl
mode-back GroupFile = refl
mode-back Exec = refl
mode-back Link = refl
mode-back Directory = refl
mode-back Gitlink = refl

pub mode-one : (a b : Mode) → mode_text a ≡ mode_text b → a ≡ b
mode-one a b h = some_is (sym (mode-back a) ∙ ap mode_of h ∙ mode-back b)

pub leaf-one : (a b : Leaf) → same_leaf a b ≡ true → a ≡ b
leaf-one a b h =
    let p = both (same_names a.names b.names) (bytes_eq (mode_text a.mode) (mode_text b.mode) && (bytes_eq a.id b.id && bytes_eq a.content b.content)) h in
    let q = both (bytes_eq (mode_text a.mode) (mode_text b.mode)) (bytes_eq a.id b.id && bytes_eq a.content b.content) p.1 in
    let r = both (bytes_eq a.id b.id) (bytes_eq a.content b.content) q.1 in
    (λ k. record {
      names = names-one a.names b.names p.0 k;
      mode = mode-one a.mode b.mode ((bytes_eq-Decides (mode_text a.mode) (mode_text b.mode)).0 q.0) k;
      id = (bytes_eq-Decides a.id b.id).0 r.0 k;
      content = (bytes_eq-Decides a.content b.content).0 r.1 k;
    })

pub leaf-self : (a : Leaf) → same_leaf a a ≡ true
leaf-self a =
    and_from (same_names a.names a.names) _ (names-same a.names)
    (and_from (bytes_eq (mode_text a.mode) (mode_text a.mode)) _ (bytes_eq-self (mode_text a.mode))
    (and_from (bytes_eq a.id a.id) (bytes_eq a.content a.content) (bytes_eq-self a.id) (bytes_eq-self a.content)))

pub leaf-other : (a b : Leaf) → (a ≡ b → ⊥) → same_leaf a b ≡ false
leaf-other a b h = by (same_leaf a b) refl
  where
    by : (t : Bool) → same_leaf a b ≡ t → same_leaf a b ≡ false
    by true t = absurd (h (leaf-one a b t))
    by false t = t

pub leaves-one : (as' bs : List Leaf) → same_leaves as' bs ≡ true → as' ≡ bs
leaves-one [] [] h = refl
leaves-one [] (b ∷ bs) h = absurd (clash (sym h))
leaves-one (a ∷ as') [] h = absurd (clash (sym h))
leaves-one (a ∷ as') (b ∷ bs) h = let p = both (same_leaf a b) (same_leaves as' bs) h in (λ k. leaf-one a b p.0 k ∷ leaves-one as' bs p.1 k)

pub leaves-self : (as' : List Leaf) → same_leaves as' as' ≡ true
leaves-self [] = refl
leaves-self (a ∷ as') = and_from (same_leaf a a) (same_leaves as' as') (leaf-self a) (leaves-self as')

-- a name in front of all leaves makes no difference
leaf-put : (name : Bytes) (a b : Leaf) → same_leaf (put_name name a) (put_name name b) ≡ same_leaf a b
leaf-put name a b = ap (λ (t : Bool). (t && same_names a.names b.names) && (bytes_eq (mode_text a.mode) (mode_text b.mode) && (bytes_eq a.id b.id && bytes_eq a.content b.content))) (bytes_eq-self name)

pub leaves-put : (name : Bytes) (as' bs : List Leaf) → same_leaves (map (put_name name) as') (map (put_name name) bs) ≡ same_leaves as' bs
leaves-put name [] [] = refl
leaves-put name [] (b ∷ bs) = refl
leaves-put name (a ∷ as') [] = refl
leaves-put name (a ∷ as') (b ∷ bs) = (λ k. leaf-put name a b k && leaves-put name as' bs k)

-- ---- lists that begin with leaves that pass a test, behind which none comes that does

-- the first leaf doesn't pass
abbrev pub Stops : (Leaf → Bool) → List Leaf → Type 0
Stops p [] = Unit {0}
Stops p (a ∷ as') = p a ≡ false

and-all : (a b c : Bool) → (a && (b && c)) ≡ ((a && b) && c)
and-all true b c = refl
and-all false b c = refl

apart : (p : Leaf → Bool) (a b : Leaf) → p a ≡ true → p b ≡ false → same_leaf a b ≡ false
apart p a b h k = leaf-other a b (λ q. clash (sym h ∙ ap p q ∙ k))

trapa : (p : Leaf → Bool) (a b : Leaf) → p a ≡ false → p b ≡ true → same_leaf a b ≡ false
trapa p a b h k = leaf-other a b (λ q. clash (sym k ∙ ap p (sym q) ∙ h))

pub parts-same : (p : Leaf → Bool) (xs ys rest more : List Leaf) → Each (λ a. p a ≡ true) xs → Each (λ a. p a ≡ true) ys → Stops p rest → Stops p more
    → same_leaves (xs ++ rest) (ys ++ more) ≡ (same_leaves xs ys && same_leaves rest more)
parts-same p [] [] rest more h k s t = refl
parts-same p [] (y ∷ ys) [] more h k s t = refl
parts-same p [] (y ∷ ys) (r ∷ rest) more h k s t = ap (λ (b : Bool). b && same_leaves rest (ys ++ more)) (trapa p r y s k.0)
parts-same p (x ∷ xs) [] rest [] h k s t = refl
parts-same p (x ∷ xs) [] rest (m ∷ more) h k s t = ap (λ (b : Bool). b && same_leaves (xs ++ rest) more) (apart p x m h.0 t)
parts-same p (x ∷ xs) (y ∷ ys) rest more h k s t =
    ap (λ (b : Bool). same_leaf x y && b) (parts-same p xs ys rest more h.1 k.1 s t) ∙ and-all (same_leaf x y) (same_leaves xs ys) (same_leaves rest more)
