use Rattle.std.proofs.Common.{◌≡◌, ◌-◌, ℕ, List, [], ◌∷◌, ◌++◌, sym, ap, subst, ◌∙◌, arith}
use Rattle.std.specs.Prelude.{Option, MatchOption}
use Rattle.text_model.specs.Id.{Id}
use Rattle.hg_model.specs.Revision.{Revision}
use Rattle.partner_model.specs.Filled.{Walks}
use Rattle.link_rule.proofs.WalkLemmas.{walks-none, next, none-here, none-before}
use Rattle.link_rule.proofs.walk.+walk_down.Goals as goal

abbrev NoWalk : List Revision → ℕ → ℕ → Id → Type 0
NoWalk known n k node = (ids : List Id) → ¬ Walks known n k node ids

pub returns-then-number-eq0 : goal.returns-then-number-eq0
returns-then-number-eq0 t c =
    let ids : c.push.new.self ≡ c.args.node.now ∷ [] = c.in_ok-push.ensures.ok ∙ ap (λ (l : List Id). l ++ c.args.node.now ∷ []) c.new-ids.ensures in
    subst (λ (l : List Id). Walks c.args.store.now c.args.count c.args.number c.args.node.now l) (sym ids)
    (subst (λ (k : ℕ). Walks c.args.store.now c.args.count k c.args.node.now (c.args.node.now ∷ [])) (sym c.if-number-eq0.true) (walks-none c.args.store.now c.args.count c.args.node.now))

pub returns-in_default : goal.returns-in_default
returns-in_default t c =
    none-here c.args.store.now c.args.count c.args.number (c.args.number - 1) (omega (arith, c.if-number-eq0.false)) c.args.node.now c.in_default.ensures

pub returns-in_default-2 : goal.returns-in_default-2
returns-in_default-2 t c =
    none-before c.args.store.now c.args.count c.args.number (c.args.number - 1) (omega (arith, c.if-number-eq0.false)) c.args.node.now c.in-Some.parents.0 c.in-Some.parents.1 c.in-Some.ensures (subst (λ (o : Option (List Id)). MatchOption o (NoWalk c.args.store.now c.args.count (c.args.number - 1) c.in-Some.parents.0) (Walks c.args.store.now c.args.count (c.args.number - 1) c.in-Some.parents.0)) c.in_default-2.is c.in_ok-ids.ensures)

pub returns : goal.returns
returns t c =
    subst (λ (l : List Id). Walks c.args.store.now c.args.count c.args.number c.args.node.now l) (sym c.in_ok-push-2.ensures.ok)
    (next c.args.store.now c.args.count c.args.number (c.args.number - 1) (omega (arith, c.if-number-eq0.false)) c.args.node.now c.in-Some.parents.0 c.in-Some.parents.1 c.in-Some-2.ids c.in-Some.ensures (subst (λ (o : Option (List Id)). MatchOption o (NoWalk c.args.store.now c.args.count (c.args.number - 1) c.in-Some.parents.0) (Walks c.args.store.now c.args.count (c.args.number - 1) c.in-Some.parents.0)) c.in-Some-2.is c.in_ok-ids.ensures))
