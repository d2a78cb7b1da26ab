use Rattle.std.proofs.Common.{◌≡◌, ◌<◌, ◌+◌, ℕ, true, false, List, [], ◌∷◌, ◌++◌, length, take, get_or, refl, sym, ap, ◌∙◌, arith}
use Rattle.std.specs.List.{find}
use Rattle.std.proofs.lemmas.List.{take_more}
use Rattle.text_model.specs.Id.{Id, has_id}
use Rattle.git_model.specs.Tree.{has_distinct}
use Rattle.git_store.proofs.DistinctLemmas.{has_distinct-push}
use Rattle.git_store.proofs.DistinctLemmas.{fresh, again}
use Rattle.git_store.proofs.OnceLemmas.{finds-new, finds-again}
use Rattle.git_store.proofs.order.came.once_each.Goals as goal
use Rattle.git_store.proofs.order.came.once_each.Goals.{then-new+in_ok-push, else-new}

front : (came : List Id) (i : ℕ) (x : Id) → i < length came → x ≡ get_or came i x → take (i + 1) came ≡ take i came ++ x ∷ []
front came i x below is = take_more came i x below ∙ ap (λ (y : Id). take i came ++ y ∷ []) (sym is)

pub loop-id-preserved : goal.loop-id-preserved
loop-id-preserved c =
    let came = c.args.came.now in
    let i = c.loop-id.id-index in
    let x = c.id-item.result in
    let ids = c.loop-id.ids in
    let next : take (i + 1) came ≡ take i came ++ x ∷ [] = front came i x (omega arith) c.id-item.is in
    let there : has_id c.loop-id.seen x ≡ has_id ids x = ap (λ (l : List Id). has_id l x) c.loop-id.invariant.seen in
    elim c.if-new.branch [
      | then-new+in_ok-push w ↦
          let absent : has_id ids x ≡ false = sym there ∙ fresh c.in_ok-new.new (has_id c.loop-id.seen x) c.in_ok-new.ensures.new w.if-new.true in
          let is : c.if-new.ids ≡ ids ++ x ∷ [] = w.ids-is ∙ w.in_ok-push.ensures.ok in
          record {
            seen = c.in_ok-new.ensures.ok ∙ rw w.if-new.true (ap (λ (l : List Id). l ++ x ∷ []) c.loop-id.invariant.seen) ∙ sym is;
            distinct = ap has_distinct is ∙ has_distinct-push ids x ∙ rw (c.loop-id.invariant.distinct, absent) refl;
            finds = λ test. ap (find test) is ∙ finds-new test ids (take i came) x (c.loop-id.invariant.finds test) ∙ ap (find test) (sym next);
          }
      | else-new w ↦
          let held : has_id ids x ≡ true = sym there ∙ again c.in_ok-new.new (has_id c.loop-id.seen x) c.in_ok-new.ensures.new w.if-new.false in
          record {
            seen = c.in_ok-new.ensures.ok ∙ rw w.if-new.false c.loop-id.invariant.seen ∙ sym w.ids-is;
            distinct = ap has_distinct w.ids-is ∙ c.loop-id.invariant.distinct;
            finds = λ test. ap (find test) w.ids-is ∙ finds-again test ids (take i came) x (c.loop-id.invariant.finds test) held ∙ ap (find test) (sym next);
          }
    ]
