-- No tag stands twice.
use Rattle.std.proofs.Common.{◌≡◌, Bool, true, false, not, ◌&&◌, List, [], ◌∷◌, ◌++◌, filter, refl, sym, ap, subst, ◌∙◌, if◌then◌else◌}
use Rattle.std.specs.Prelude.{bytes_eq}
use Rattle.std.specs.List.{list_any}
use Rattle.text_model.specs.Lists.{In, first_of_each}
use Rattle.text_model.specs.Id.{Id}
use Rattle.text_model.proofs.Elements.{map_append, none_all, none_in, in_map, each_from}
use Rattle.text_model.proofs.Options.{not_true}
use Rattle.text_model.proofs.TestLemmas.{both}
use Rattle.git_model.specs.Tree.{has_distinct}
use Rattle.git_model.specs.Object.{Object, same_object}
use Rattle.git_model.specs.Order.{has}
use Rattle.git_model.specs.Stream.{Placed}
use Rattle.history_model.specs.Pull.{objects_among}
use Rattle.state_model.specs.Kept.{kept_of, is_tag, ids_of}
use Rattle.state_model.specs.Tags.{leads}
use Rattle.saved_model.specs.Step.{tags_came, new_tags}
use Rattle.dump_law.proofs.Elements.{of-map, of-filter, passes}
use Rattle.next_law.specs.Next.{IsLeft}
use Rattle.next_law.proofs.Known.{saved-of}
use Rattle.next_law.proofs.Distinct.{distinct-both}
use Rattle.tag_law.specs.Tags.{HasDistinctTags}
use Rattle.tag_law.proofs.Comes.{comes}

none-filter : (p : Object → Bool) (x : Object) (xs : List Object) → list_any (bytes_eq x.id) (ids_of xs) ≡ false → list_any (bytes_eq x.id) (ids_of (filter p xs)) ≡ false
none-filter p x xs none = none_all (bytes_eq x.id) (ids_of (filter p xs)) (λ id i.
    let r = of-map (λ (o : Object). o.id) id (filter p xs) i in
    ap (bytes_eq x.id) r.2 ∙ none_in (bytes_eq x.id) (ids_of xs) (r.0).id none (in_map (λ (o : Object). o.id) r.0 xs (of-filter p r.0 xs r.1)))

distinct-filter : (p : Object → Bool) (xs : List Object) → has_distinct (ids_of xs) ≡ true → has_distinct (ids_of (filter p xs)) ≡ true
distinct-filter p [] h = refl
distinct-filter p (x ∷ xs) h =
    let parts = both (not (list_any (bytes_eq x.id) (ids_of xs))) (has_distinct (ids_of xs)) h in
    by (p x) (not_true (list_any (bytes_eq x.id) (ids_of xs)) parts.0) (distinct-filter p xs parts.1)
  where
    by : (t : Bool) → list_any (bytes_eq x.id) (ids_of xs) ≡ false → has_distinct (ids_of (filter p xs)) ≡ true → has_distinct (ids_of (if t then x ∷ filter p xs else filter p xs)) ≡ true
    by true none rest = rw (none-filter p x xs none, rest) refl
    by false none rest = rest

distinct-first : (xs : List Object) → has_distinct (ids_of (first_of_each same_object xs)) ≡ true
distinct-first [] = refl
distinct-first (x ∷ xs) =
    let rest = filter (λ y. not (same_object x y)) (first_of_each same_object xs) in
    rw (
      none_all (bytes_eq x.id) (ids_of rest) (λ id i.
          let r = of-map (λ (o : Object). o.id) id rest i in
          ap (bytes_eq x.id) r.2 ∙ not_true (same_object x r.0) (passes (λ y. not (same_object x y)) r.0 (first_of_each same_object xs) r.1)),
      distinct-filter (λ y. not (same_object x y)) (first_of_each same_object xs) (distinct-first xs),
    ) refl

-- a new tag isn't kept
pub not-kept : (kept : List Object) (came : List Placed) (o : Object) → In o (new_tags kept came) → has (ids_of kept) o.id ≡ false
not-kept kept came o i =
    not_true (has (ids_of kept) o.id) (both (not (has (ids_of kept) o.id)) (leads (ids_of kept) (tags_came came) o)
    (passes (λ o. not (has (ids_of kept) o.id) && leads (ids_of kept) (tags_came came) o) o (tags_came came) i)).0

distinct-new : (kept : List Object) (came : List Placed) → has_distinct (ids_of kept) ≡ true → has_distinct (ids_of (kept ++ new_tags kept came)) ≡ true
distinct-new kept came old =
    let new = new_tags kept came in
    let own = distinct-filter (λ o. not (has (ids_of kept) o.id) && leads (ids_of kept) (tags_came came) o) (tags_came came) (distinct-first (filter is_tag (objects_among came))) in
    ap has_distinct (map_append (λ (o : Object). o.id) kept new)
    ∙ distinct-both (ids_of kept) (ids_of new) old own (each_from (λ id. list_any (bytes_eq id) (ids_of kept) ≡ false) (ids_of new) (λ id i.
    let r = of-map (λ (o : Object). o.id) id new i in
    ap (λ (x : Id). list_any (bytes_eq x) (ids_of kept)) r.2 ∙ not-kept kept came r.0 r.1))

pub distinct-left : IsLeft HasDistinctTags
distinct-left s pull k made is (new, added, accepts, next, wrote) =
    let c = comes (kept_of s) pull new added accepts in
    let all = distinct-new s.tags c.came ((saved-of s is).tags).distinct in
    subst HasDistinctTags (sym next) (ap (λ (l : List Object). has_distinct (ids_of (s.tags ++ l))) c.added_are ∙ all)
