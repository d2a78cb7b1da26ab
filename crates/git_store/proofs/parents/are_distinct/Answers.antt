use Rattle.std.proofs.Common.{◌≡◌, ℕ, ◌<◌, ◌+◌, Bool, true, false, not, ◌&&◌, List, [], ◌∷◌, ◌++◌, length, take, drop, get_or, refl, sym, ap, ◌∙◌, arith}
use Rattle.std.specs.Prelude.{if◌then◌else◌}
use Rattle.std.proofs.lemmas.List.{take_more, take-append-drop}
use Rattle.text_model.specs.Id.{Id, has_id}
use Rattle.git_model.specs.Tree.{has_distinct}
use Rattle.git_store.proofs.DistinctLemmas.{fresh, again, has_distinct-push, has_distinct-front}
use Rattle.git_store.proofs.parents.are_distinct.Goals as goal

module _ (ids seen : List Id) (i : ℕ) (x : Id) (below : i < length ids) (is : x ≡ get_or ids i x) (so_far : seen ≡ take i ids) where
  one_more : seen ++ x ∷ [] ≡ take (i + 1) ids
  one_more = sym (take_more ids i x below ∙ (λ j. sym so_far j ++ sym is j ∷ []))

  twice : has_id seen x ≡ true → false ≡ has_distinct ids
  twice h =
      let front : has_distinct (take (i + 1) ids) ≡ false =
      ap has_distinct (sym one_more) ∙ has_distinct-push seen x ∙ ap (λ (t : Bool). has_distinct seen && not t) h ∙ and_false (has_distinct seen) in
      sym (ap has_distinct (sym (take-append-drop (i + 1) ids)) ∙ has_distinct-front (take (i + 1) ids) (drop (i + 1) ids) front)
    where
      and_false : (b : Bool) → (b && false) ≡ false
      and_false true = refl
      and_false false = refl

pub returns-then-not-new : goal.returns-then-not-new
returns-then-not-new c =
    twice c.args.ids.now c.loop-id.seen c.loop-id.id-index c.id-item.result (omega arith) c.id-item.is c.loop-id.invariant.seen
    (again c.in_ok-new.new (has_id c.loop-id.seen c.id-item.result) c.in_ok-new.ensures.new c.if-not-new.true)

pub loop-id-preserved : goal.loop-id-preserved
loop-id-preserved c =
    let x = c.id-item.result in
    let seen = c.loop-id.seen in
    let absent = fresh c.in_ok-new.new (has_id seen x) c.in_ok-new.ensures.new c.if-not-new.false in
    let is : c.insert.new.self ≡ seen ++ x ∷ [] = c.in_ok-new.ensures.ok ∙ ap (λ (t : Bool). if t then seen ++ x ∷ [] else seen) c.if-not-new.false in
    record {
      seen = is ∙ one_more c.args.ids.now seen c.loop-id.id-index x (omega arith) c.id-item.is c.loop-id.invariant.seen;
      distinct = ap has_distinct is ∙ has_distinct-push seen x ∙ rw (c.loop-id.invariant.distinct, absent) refl;
    }
