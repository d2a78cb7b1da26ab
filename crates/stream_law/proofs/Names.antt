-- The names on a fit path are fit, and each name stands once among the first names of leaves.
use Rattle.std.proofs.Common.{◌≡◌, ◌≢◌, ◌≤◌, ◌+◌, ℕ, zero, suc, true, true≢false, List, [], ◌∷◌, length, map, refl, sym, ap, subst, ◌∙◌, inl, inr, arith, length-append}
use Rattle.std.specs.Prelude.{bytes_eq}
use Rattle.text_model.specs.Lists.{Each, In, first_of_each}
use Rattle.text_model.specs.Text.{Bytes}
use Rattle.text_model.specs.Path.{components, is_fit_path, is_fit_name}
use Rattle.text_model.proofs.Elements.{none_in}
use Rattle.text_model.proofs.LackLemmas.{has_byte-lacks}
use Rattle.text_model.proofs.TestLemmas.{bytes_eq-self}
use Rattle.git_model.proofs.SortLemmas.{Distinct}
use Rattle.path_law.proofs.Order.{AreApart, apart-first}
use Rattle.tree_shape.proofs.FitPieces.{fit-pieces, fit-name}
use Rattle.tree_shape.proofs.Rows.{goes_on, ends, shape}

abbrev IsFitName : Bytes → Type 0
IsFitName name = is_fit_name name ≡ true

split-fit : (path : Bytes) → is_fit_path path ≡ true → ((rest : Bytes) → suc (length rest) ≤ length path → is_fit_path rest ≡ true → Each IsFitName (components rest)) → Each IsFitName (components path)
split-fit path h less = elim (shape path) [
  | ends f ↦ subst (Each IsFitName) (sym f.parts) (fit-name path h (has_byte-lacks 47 path f.plain), tt)
  | goes_on name rest d ↦
      let pieces = fit-pieces name rest (sym (ap is_fit_path d.is) ∙ h) in
      let size : length path ≡ length name + suc (length rest) = ap (λ (l : Bytes). length l) d.is ∙ length-append name (47 ∷ rest) in
      subst (Each IsFitName) (sym d.parts) (fit-name name pieces.first (has_byte-lacks 47 name d.plain), less rest (omega (arith, size)) pieces.second)
]

names-fit : (fuel : ℕ) (path : Bytes) → length path ≤ fuel → is_fit_path path ≡ true → Each IsFitName (components path)
names-fit zero path le h = split-fit path h (λ rest short fit. absurd (omega (arith, le, short)))
names-fit (suc fuel) path le h = split-fit path h (λ rest short fit. names-fit fuel rest (omega (arith, le, short)) fit)

-- each component of a fit path is a fit name
pub fit-components : (path : Bytes) → is_fit_path path ≡ true → Each IsFitName (components path)
fit-components path h = names-fit (length path) path (omega arith) h

-- what has one key for each of distinct names has distinct keys
distinct-map : {X : Type 0} (f : Bytes → X) (key : X → Bytes) (xs : List Bytes) → AreApart xs → ((x y : Bytes) → In x xs → In y xs → key (f x) ≡ key (f y) → x ≡ y) → Distinct key (map f xs)
distinct-map f key [] a h = tt
distinct-map {X = X} f key (x ∷ xs) a h = (others xs (λ y i. i), distinct-map f key xs a.1 (λ y z i j e. h y z (inr i) (inr j) e))
  where
    others : (ys : List Bytes) → ((y : Bytes) → In y ys → In y xs) → Each (λ y. key (f x) ≢ key y) (map f ys)
    others [] in_all = tt
    others (y ∷ ys) in_all = (
      (λ e. let same : x ≡ y = h x y (inl refl) (inr (in_all y (inl refl))) e in
          true≢false (sym (ap (bytes_eq x) (sym same) ∙ bytes_eq-self x) ∙ none_in (bytes_eq x) xs y a.0 (in_all y (inl refl)))),
      others ys (λ z i. in_all z (inr i)),
    )

pub distinct-first : {X : Type 0} (f : Bytes → X) (key : X → Bytes) (xs : List Bytes) → ((x y : Bytes) → In x (first_of_each bytes_eq xs) → In y (first_of_each bytes_eq xs) → key (f x) ≡ key (f y) → x ≡ y) → Distinct key (map f (first_of_each bytes_eq xs))
distinct-first f key xs h = distinct-map f key (first_of_each bytes_eq xs) (apart-first xs) h
