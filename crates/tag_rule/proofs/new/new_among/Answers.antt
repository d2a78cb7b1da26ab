use Rattle.std.proofs.Common.{◌≡◌, ◌<◌, ◌++◌, true, false, List, [], ◌∷◌, length, take, sym, ap, subst, ◌∙◌, arith, append-nil}
use Rattle.std.specs.Prelude.{filter}
use Rattle.text_model.specs.Id.{Id}
use Rattle.git_model.specs.Order.{has}
use Rattle.tag_rule.specs.Named.{names}
use Rattle.tag_rule.specs.Fates.{AreRight, is_new}
use Rattle.tag_rule.proofs.FollowLemmas.{has-at, is_new-kept, is_new-by, new-step}
use Rattle.tag_rule.proofs.new.new_among.Goals as goal
use Rattle.tag_rule.proofs.new.new_among.Goals.{then-not-contains+in_ok-leads+then-branch+in_ok-push, else-not-contains, else-not-contains-via-then-not-contains+in_ok-leads+else-branch, else-not-contains-via-else-not-contains}

pub leads-requires-clause-came : goal.leads-requires-clause-came
leads-requires-clause-came c =
    ap (λ (l : List Id). has l c.id-item.result) c.requires ∙ has-at c.args.came.now c.loop-id.id-index c.id-item.result (omega arith) c.id-item.is

pub loop-id-preserved : goal.loop-id-preserved
loop-id-preserved c =
    let t = c.args.targets.now in
    let came = c.args.came.now in
    let i = c.loop-id.id-index in
    let x = c.id-item.result in
    let below : i < length came = omega arith in
    let there : has t.came.now x ≡ true = ap (λ (l : List Id). has l x) c.requires ∙ has-at came i x below c.id-item.is in
    let before : c.loop-id.new ≡ filter (is_new t) (take i came) = c.loop-id.invariant.new in
    let right = AreRight (names t) in
    elim c.if-not-contains.branch [
      | then-not-contains+in_ok-leads+then-branch+in_ok-push w ↦
          let new : is_new t x ≡ true = is_new-by t x w.in_ok-leads.field-0 (sym c.contains.ensures ∙ w.if-not-contains.true) there w.in_ok-leads.ensures.fate ∙ w.if-branch.true in
          record {
            new = w.new-is ∙ w.in_ok-push.ensures.ok ∙ ap (λ (l : List Id). l ++ x ∷ []) before ∙ sym (new-step t came i x true below c.id-item.is new);
            right = subst right (sym w.fates-is) w.in_ok-leads.ensures.right;
          }
      | else-not-contains w ↦ elim w.else-not-contains.branch [
        | else-not-contains-via-then-not-contains+in_ok-leads+else-branch v ↦
            let new : is_new t x ≡ false = is_new-by t x v.in_ok-leads.field-0 (sym c.contains.ensures ∙ v.if-not-contains.true) there v.in_ok-leads.ensures.fate ∙ v.if-branch.false in
            record {
              new = w.new-is ∙ before ∙ sym (new-step t came i x false below c.id-item.is new ∙ append-nil (filter (is_new t) (take i came)));
              right = subst right (sym (w.fates-is ∙ v.fates-is)) v.in_ok-leads.ensures.right;
            }
        | else-not-contains-via-else-not-contains v ↦
            let new : is_new t x ≡ false = is_new-kept t x (sym c.contains.ensures ∙ v.if-not-contains.false) in
            record {
              new = w.new-is ∙ before ∙ sym (new-step t came i x false below c.id-item.is new ∙ append-nil (filter (is_new t) (take i came)));
              right = subst right (sym (w.fates-is ∙ v.fates-is)) c.loop-id.invariant.right;
            }
      ]
    ]
