use Rattle.std.proofs.Common.{◌≡◌, ◌<◌, ℕ, Some, true}
use Rattle.std.specs.Prelude.{slice_get}
use Rattle.git_model.specs.Order.{Ancestry, is_waiting}
use Rattle.git_store.specs.Ancestry.{ancestries}
use Rattle.git_store.proofs.order.came.Came.first_waiting.Given as goal

abbrev pub invariant-loop-id : goal.invariant-loop-id
invariant-loop-id l =
    (i : ℕ) (c : Ancestry) → i < l.id-index → slice_get (ancestries (l.self.store).now (l.self.ids).now) i ≡ Some c → is_waiting (l.self.saved).now l.placed c ≡ true → ⊥
