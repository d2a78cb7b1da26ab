-- Two names in the order of entries, where one may begin with the other.
use Rattle.std.proofs.Common.{◌≡◌, Bool, true, false, ◌++◌, length, drop, refl, sym, ap, ◌∙◌, append-nil, append_assoc}
use Rattle.text_model.specs.Text.{Bytes, is_below}
use Rattle.git_model.specs.Tree.{order_name}
use Rattle.git_model.proofs.NameOrderLemmas.{below-front, below-apart, goes_on, fronts}
use Rattle.git_object.specs.Values.{order_end}

-- a name and its end
ended : (directory : Bool) (name : Bytes) → name ++ order_end directory ≡ order_name directory name
ended true name = refl
ended false name = append-nil name

module _ (a b : Bool) (name other : Bytes) where
  pub other_goes_on : (rest : Bytes) → fronts name other ≡ true → rest ≡ drop (length name) other → is_below (order_end a) (rest ++ order_end b) ≡ is_below (order_name a name) (order_name b other)
  other_goes_on rest front is =
      let whole : other ≡ name ++ rest = goes_on name other front ∙ ap (λ (l : Bytes). name ++ l) (sym is) in
      sym (below-front name (order_end a) (rest ++ order_end b))
      ∙ (λ i. is_below (ended a name i) ((sym (append_assoc name rest (order_end b)) ∙ ap (λ (l : Bytes). l ++ order_end b) (sym whole) ∙ ended b other) i))

  pub name_goes_on : (rest : Bytes) → fronts other name ≡ true → rest ≡ drop (length other) name → is_below (rest ++ order_end a) (order_end b) ≡ is_below (order_name a name) (order_name b other)
  name_goes_on rest front is =
      let whole : name ≡ other ++ rest = goes_on other name front ∙ ap (λ (l : Bytes). other ++ l) (sym is) in
      sym (below-front other (rest ++ order_end a) (order_end b))
      ∙ (λ i. is_below ((sym (append_assoc other rest (order_end a)) ∙ ap (λ (l : Bytes). l ++ order_end a) (sym whole) ∙ ended a name) i) (ended b other i))

  pub apart : fronts name other ≡ false → fronts other name ≡ false → is_below name other ≡ is_below (order_name a name) (order_name b other)
  apart h k = below-apart name other (order_end a) (order_end b) h k ∙ (λ i. is_below (ended a name i) (ended b other i))
