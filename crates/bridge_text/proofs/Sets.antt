-- A set of the ids of a list, with one id more.
use Rattle.std.proofs.Common.{◌≡◌, ◌<◌, ◌+◌, ◌++◌, ◌||◌, ℕ, Bool, true, false, not, List, [], ◌∷◌, length, take, get_or, refl, sym, ap, ◌∙◌}
use Rattle.std.specs.Prelude.{if◌then◌else◌, bytes_eq}
use Rattle.std.proofs.lemmas.List.{take_more}
use Rattle.std.proofs.lemmas.List.Folds.{list_any-append}
use Rattle.text_model.specs.Id.{Id, has_id}
use Rattle.text_model.proofs.Options.{or_false}
use Rattle.text_model.proofs.TestLemmas.{or_true, bytes_eq-is}

abbrev pub IsSetOf : List Id → List Id → Type 0
IsSetOf set ids = (id : Id) → has_id set id ≡ has_id ids id

module _ (set ids : List Id) (x : Id) (same : IsSetOf set ids) where
  -- an id that is there already adds nothing
  there : (y : Id) → has_id set x ≡ true → has_id set y ≡ (has_id ids y || (bytes_eq y x || false))
  there y h = by (bytes_eq y x) refl
    where
      by : (t : Bool) → bytes_eq y x ≡ t → has_id set y ≡ (has_id ids y || (bytes_eq y x || false))
      by true t = ap (has_id set) (bytes_eq-is y x t) ∙ h ∙ sym (or_true (has_id ids y)) ∙ ap (λ (b : Bool). has_id ids y || (b || false)) (sym t)
      by false t = same y ∙ sym (or_false (has_id ids y)) ∙ ap (λ (b : Bool). has_id ids y || (b || false)) (sym t)

  with_one : (next : List Id) (new : Bool) → new ≡ not (has_id set x) → next ≡ (if new then set ++ x ∷ [] else set) → IsSetOf next (ids ++ x ∷ [])
  with_one next new is after y =
      ap (λ (l : List Id). has_id l y) (after ∙ ap (λ (b : Bool). if b then set ++ x ∷ [] else set) is)
      ∙ by (has_id set x) refl ∙ sym (list_any-append (bytes_eq y) ids (x ∷ []))
    where
      by : (t : Bool) → has_id set x ≡ t → has_id (if not t then set ++ x ∷ [] else set) y ≡ (has_id ids y || (bytes_eq y x || false))
      by true t = there y t
      by false t = list_any-append (bytes_eq y) set (x ∷ []) ∙ ap (λ (b : Bool). b || (bytes_eq y x || false)) (same y)

pub one-more : (set ids : List Id) (i : ℕ) (x : Id) → IsSetOf set (take i ids) → i < length ids → x ≡ get_or ids i x
    → (next : List Id) (new : Bool) → new ≡ not (has_id set x) → next ≡ (if new then set ++ x ∷ [] else set) → IsSetOf next (take (i + 1) ids)
one-more set ids i x same below is next new fresh after y =
    with_one set (take i ids) x same next new fresh after y
    ∙ ap (λ (l : List Id). has_id l y) (sym (take_more ids i x below ∙ ap (λ (z : Id). take i ids ++ z ∷ []) (sym is)))
