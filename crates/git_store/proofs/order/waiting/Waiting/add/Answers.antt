use Rattle.std.proofs.Common.{◌≡◌, Bool, true, false, List, [], ◌∷◌, ◌++◌, Option, Some, cond, refl, sym, ap, ◌∙◌, bytes_eq}
use Rattle.std.specs.Prelude.{if◌then◌else◌}
use Rattle.std.specs.Map.{lookup}
use Rattle.git_store.specs.declared.order.waiting.Wait.{Wait}
use Rattle.git_store.specs.Waiting.{or_none, waits_for}
use Rattle.git_store.proofs.order.waiting.Waiting.add.Goals as goal

split : (b : Bool) (own other : Option (List Wait)) (list : List Wait) → or_none own ≡ list → or_none (cond b own other) ≡ (if b then list else or_none other)
split true own other list e = e
split false own other list e = refl

pub returns-in_ok-insert-in-None : goal.returns-in_ok-insert-in-None
returns-in_ok-insert-in-None c = λ id.
    let pushed : c.push-in-None.new.self ≡ c.args.wait ∷ [] = c.in_ok-push-in-None.ensures.ok ∙ ap (λ (l : List Wait). l ++ c.args.wait ∷ []) c.new-list.ensures in
    let empty : waits_for c.args.self.now c.args.parent ≡ [] = ap or_none (sym c.in-None.ensures.value) in
    ap or_none (c.in_ok-insert-in-None.ensures.updates.0 id)
    ∙ (λ k. or_none (cond (bytes_eq c.args.parent id) (Some c.push-in-None.new.self) (lookup (bytes_eq id) (c.get_mut.follows.holds-at-none k).entries)))
    ∙ split (bytes_eq c.args.parent id) (Some c.push-in-None.new.self) (lookup (bytes_eq id) c.args.self.now.lists.entries) (waits_for c.args.self.now c.args.parent ++ c.args.wait ∷ [])
    (pushed ∙ ap (λ (l : List Wait). l ++ c.args.wait ∷ []) (sym empty))
