-- The tags that came, each once.
use Rattle.std.proofs.Common.{◌≡◌, Bool, true, false, not, ◌||◌, List, [], ◌∷◌, ◌++◌, map, refl, sym, ap, ◌∙◌, bytes_eq}
use Rattle.std.specs.Prelude.{filter, if◌then◌else◌}
use Rattle.std.proofs.lemmas.List.Elements.{filter-append}
use Rattle.text_model.specs.Lists.{first_of_each}
use Rattle.text_model.specs.Id.{Id, has_id, tag}
use Rattle.text_model.proofs.Elements.{map_append}
use Rattle.text_model.proofs.TestLemmas.{bytes_eq-is, bytes_eq-sym}
use Rattle.git_batch.specs.declared.arrival.ObjectArrival.{ObjectArrival}
use Rattle.git_batch.specs.Arrivals.{is_of}
use Rattle.tag_rule.specs.Rows.{tag_ids, with_id}

abbrev others : Id → Id → Bool
others y z = not (bytes_eq y z)

-- what passes is as present as before
has-filter : (y x : Id) (ids : List Id) → bytes_eq x y ≡ false → has_id (filter (others y) ids) x ≡ has_id ids x
has-filter y x [] apart = refl
has-filter y x (z ∷ ids) apart = by (bytes_eq y z) refl (has-filter y x ids apart)
  where
    by : (t : Bool) → bytes_eq y z ≡ t → has_id (filter (others y) ids) x ≡ has_id ids x → has_id (filter (others y) (z ∷ ids)) x ≡ has_id (z ∷ ids) x
    by true t rest =
        let other : bytes_eq x z ≡ false = ap (bytes_eq x) (sym (bytes_eq-is y z t)) ∙ apart in
        rw (t, other) rest
    by false t rest = rw t (ap (λ (b : Bool). bytes_eq x z || b) rest)

filter-last : (y x : Id) (ids : List Id) (b : Bool) → bytes_eq y x ≡ b → filter (others y) (ids ++ x ∷ []) ≡ filter (others y) ids ++ (if b then [] else x ∷ [])
filter-last y x ids b is = filter-append (others y) ids (x ∷ []) ∙ ap (λ (l : List Id). filter (others y) ids ++ l) (last b is)
  where
    last : (b : Bool) → bytes_eq y x ≡ b → filter (others y) (x ∷ []) ≡ (if b then [] else x ∷ [])
    last true is = rw is refl
    last false is = rw is refl

no_more : (ids : List Id) → ids ++ [] ≡ ids
no_more [] = refl
no_more (x ∷ ids) = ap (λ (l : List Id). x ∷ l) (no_more ids)

first-push : (ids : List Id) (x : Id) → first_of_each bytes_eq (ids ++ x ∷ []) ≡ with_id (first_of_each bytes_eq ids) x
first-push [] x = refl
first-push (y ∷ ids) x = ap (λ (l : List Id). y ∷ filter (others y) l) (first-push ids x) ∙ by (bytes_eq x y) (has_id (first_of_each bytes_eq ids) x) refl refl
  where
    by : (s t : Bool) → bytes_eq x y ≡ s → has_id (first_of_each bytes_eq ids) x ≡ t
        → y ∷ filter (others y) (with_id (first_of_each bytes_eq ids) x) ≡ with_id (y ∷ filter (others y) (first_of_each bytes_eq ids)) x
    by true true e f = rw (e, f) refl
    by true false e f =
        rw (e, f) (ap (λ (l : List Id). y ∷ l) (filter-last y x (first_of_each bytes_eq ids) true (bytes_eq-sym y x ∙ e) ∙ no_more (filter (others y) (first_of_each bytes_eq ids))))
    by false true e f = rw (e, has-filter y x (first_of_each bytes_eq ids) e, f) refl
    by false false e f =
        rw (e, has-filter y x (first_of_each bytes_eq ids) e, f) (ap (λ (l : List Id). y ∷ l) (filter-last y x (first_of_each bytes_eq ids) false (bytes_eq-sym y x ∙ e)))

-- ---- one object more

module _ (came : List ObjectArrival) (a : ObjectArrival) where
  pub tag-push : is_of tag a ≡ true → tag_ids (came ++ a ∷ []) ≡ with_id (tag_ids came) a.id
  tag-push is =
      ap (λ (l : List ObjectArrival). first_of_each bytes_eq (map (λ x. x.id) l)) (filter-append (is_of tag) came (a ∷ []) ∙ rw is refl)
      ∙ ap (first_of_each bytes_eq) (map_append (λ (x : ObjectArrival). x.id) (filter (is_of tag) came) (a ∷ []))
      ∙ first-push (map (λ (x : ObjectArrival). x.id) (filter (is_of tag) came)) a.id

  pub other-push : is_of tag a ≡ false → tag_ids (came ++ a ∷ []) ≡ tag_ids came
  other-push is =
      ap (λ (l : List ObjectArrival). first_of_each bytes_eq (map (λ x. x.id) l))
      (filter-append (is_of tag) came (a ∷ []) ∙ rw is (all (filter (is_of tag) came)))
    where
      all : (l : List ObjectArrival) → l ++ [] ≡ l
      all [] = refl
      all (x ∷ l) = ap (λ (r : List ObjectArrival). x ∷ r) (all l)
