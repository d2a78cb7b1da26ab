-- The links over the ids of a list.
use Rattle.std.proofs.Common.{◌≡◌, ◌+◌, ◌-◌, ◌<◌, ◌≤◌, ℕ, suc, List, [], ◌∷◌, ◌++◌, length, get_or, take, drop, Some, refl, sym, ap, subst, ◌∙◌, append_assoc, append-nil, arith}
use Rattle.std.specs.Prelude.{slice_get}
use Rattle.std.specs.List.{AllZip}
use Rattle.std.proofs.lemmas.Option.{slice_get-get_or}
use Rattle.std.proofs.Math.ListN.{drop_of_length-le}
use Rattle.text_model.specs.Id.{Id}
use Rattle.text_model.proofs.Elements.{drop_next}
use Rattle.view_model.specs.View.{ChangesetView, changeset_node}
use Rattle.pair_model.specs.Octopus.{link_view, links_over}
use Rattle.link_rule.specs.Links.{IsLinkOf, links_along}
use Rattle.link_rule.specs.declared.link.Link.{Link}

pub zip-push : {A B : Type 0} (R : A → B → Type 0) (xs : List A) (ys : List B) (x : A) (y : B) → AllZip R xs ys → R x y → AllZip R (xs ++ x ∷ []) (ys ++ y ∷ [])
zip-push R [] [] x y h r = (r, tt)
zip-push R [] (b ∷ ys) x y h r = absurd h
zip-push R (a ∷ xs) [] x y h r = absurd h
zip-push R (a ∷ xs) (b ∷ ys) x y h r = (h.0, zip-push R xs ys x y h.1 r)

module _ (id : Id) (base : ChangesetView) (n : ℕ) where
  -- links k and up, over what came before and each of the ids
  abbrev pub chain : ℕ → Id → List Id → List ChangesetView
  chain k before [] = []
  chain k before (x ∷ xs) = link_view id base n k before x ∷ chain (k + 1) (changeset_node (link_view id base n k before x)) xs

  links_over-chain : (k : ℕ) (before : Id) (xs : List Id) → 1 ≤ length xs → links_over id base n k before xs ≡ chain k before (take (length xs - 1) xs)
  unfolding links_over
  links_over-chain k before [] some = absurd (omega (arith, some))
  links_over-chain k before (x ∷ []) some = refl
  links_over-chain k before (x ∷ y ∷ xs) some =
      let next = changeset_node (link_view id base n k before x) in
      let long : length (x ∷ y ∷ xs) - 1 ≡ suc (length (y ∷ xs) - 1) = omega arith in
      ap (λ (l : List ChangesetView). link_view id base n k before x ∷ l) (links_over-chain (k + 1) next (y ∷ xs) (omega arith))
      ∙ ap (λ (m : ℕ). chain k before (take m (x ∷ y ∷ xs))) (sym long)

  pub links-none : (xs : List Id) → length xs < 2 → links_along id base n xs ≡ []
  unfolding links_over
  links-none [] few = refl
  links-none (x ∷ []) few = refl
  links-none (x ∷ y ∷ xs) few = absurd (omega (arith, few))

  pub links-some : (xs : List Id) (first : Id) → 2 ≤ length xs → first ≡ get_or xs 0 first → links_along id base n xs ≡ chain 1 first (take (length xs - 1 - 1) (drop 1 xs))
  links-some [] first some is = absurd (omega (arith, some))
  links-some (x ∷ xs) first some is =
      let long : length xs - 1 ≡ length (x ∷ xs) - 1 - 1 = omega arith in
      links_over-chain 1 x xs (omega (arith, some)) ∙ (λ i. chain 1 (sym is i) (take (long i) xs))

  -- a link more
  pub record IsSoFar (links : List Link) (k : ℕ) (before : Id) (rest : List Id) (whole : List ChangesetView) : Type 0 where
    pub done : List ChangesetView
    pub are : AllZip IsLinkOf links done
    pub left : done ++ chain k before rest ≡ whole

  pub more : (links next : List Link) (link : Link) (i : ℕ) (before second : Id) (seconds : List Id) (whole : List ChangesetView) → next ≡ links ++ link ∷ []
      → IsSoFar links (i + 1) before (drop i seconds) whole → i < length seconds → second ≡ get_or seconds i second → IsLinkOf link (link_view id base n (i + 1) before second)
      → IsSoFar next (i + 1 + 1) link.node (drop (i + 1) seconds) whole
  more links next link i before second seconds whole pushed so_far below is link-is =
      let view = link_view id base n (i + 1) before second in
      let at : slice_get seconds i ≡ Some second = slice_get-get_or seconds i second below ∙ ap Some (sym is) in
      let step : chain (i + 1) before (drop i seconds) ≡ view ∷ chain (i + 1 + 1) link.node (drop (i + 1) seconds) =
      ap (chain (i + 1) before) (drop_next seconds i second at) ∙ (λ j. view ∷ chain (i + 1 + 1) (sym link-is.node j) (drop (i + 1) seconds)) in
      record {
        done = so_far.done ++ view ∷ [];
        are = subst (λ (l : List Link). AllZip IsLinkOf l (so_far.done ++ view ∷ [])) (sym pushed) (zip-push IsLinkOf links so_far.done link view so_far.are link-is);
        left = append_assoc so_far.done (view ∷ []) (chain (i + 1 + 1) link.node (drop (i + 1) seconds)) ∙ ap (λ (l : List ChangesetView). so_far.done ++ l) (sym step) ∙ so_far.left;
      }

  -- none is left
  pub all : (links : List Link) (k : ℕ) (before : Id) (i : ℕ) (seconds : List Id) (whole : List ChangesetView) → IsSoFar links k before (drop i seconds) whole → length seconds ≤ i → AllZip IsLinkOf links whole
  all links k before i seconds whole so_far over =
      let left : so_far.done ≡ whole =
      sym (append-nil so_far.done) ∙ ap (λ (l : List Id). so_far.done ++ chain k before l) (sym (drop_of_length-le seconds over)) ∙ so_far.left in
      subst (AllZip IsLinkOf links) left so_far.are
