use Rattle.std.proofs.Common.{◌≡◌, ℕ, List, Some, refl, sym, ap, subst, ◌∙◌}
use Rattle.text_model.specs.Id.{Id}
use Rattle.git_model.specs.Stream.{Placed}
use Rattle.git_model.specs.Order.{Ancestry, is_waiting, IsOrder, IsStuckAt}
use Rattle.git_store.specs.Ancestry as order
use Rattle.git_store.specs.declared.order.fault.OrderFault.{OrderFault}
use Rattle.git_store.specs.declared.order.fault.OrderFault.TheVariants.{ParentUnknown, Memory}
use Rattle.git_store.specs.OrderFaults.{IsOrderFault}
use Rattle.git_store.proofs.FindLemmas.{find-among}
use Rattle.git_batch.specs.declared.arrival.ObjectArrival.{ObjectArrival}
use Rattle.history_model.specs.Pull as model
use Rattle.history_model.specs.Pull.{ancestries, saved_ids, place_of}
use Rattle.pair_state.specs.declared.state_parts.StateParts.{StateParts}
use Rattle.pull_outcome.specs.declared.refused.PullFault.{PullFault}
use Rattle.pull_stream.specs.Faults.{IsJudgement}
use Rattle.git_batch.specs.Arrivals.{commits_among}
use Rattle.pull_stream.specs.Ready.{IsReady, LacksParent, HasPlace, IsOrderRefusal, place_among}
use Rattle.pull_stream.proofs.Orders.{same-rows, same-place, commit-of, has-place}
use Rattle.pull_stream.proofs.ordering.order_commits.Goals as goal

module _ (s : StateParts) (arrivals : List ObjectArrival) (commits : List Id) (listed : commits ≡ commits_among arrivals) (m : model.State) (came : List Placed) (ready : IsReady s arrivals m came) where
  rows : order.ancestries s.known.git commits ≡ ancestries came
  rows = ap (order.ancestries s.known.git) (listed ∙ ap commits_among ready.listed) ∙ same-rows s.known.git came ready.held

  in-order : (ordered : List Id) → IsOrder (order.ancestries s.known.git commits) s.commits ordered → IsOrder (ancestries came) (saved_ids m) ordered
  in-order ordered o =
      subst (λ (saved : List Id). IsOrder (ancestries came) saved ordered) ready.state.state.commits (subst (λ (rs : List Ancestry). IsOrder rs s.commits ordered) rows o)

  stuck : (id : Id) → IsStuckAt (order.ancestries s.known.git commits) s.commits id → IsStuckAt (ancestries came) (saved_ids m) id
  stuck id o = subst (λ (saved : List Id). IsStuckAt (ancestries came) saved id) ready.state.state.commits (subst (λ (rs : List Ancestry). IsStuckAt rs s.commits id) rows o)

  place : (id : Id) → IsStuckAt (ancestries came) (saved_ids m) id → (at : ℕ) × (place_of came id ≡ Some at)
  place id o =
      let of = commit-of came (record { id = id; parents = o.parents }) (find-among (is_waiting (saved_ids m) o.placed) (ancestries came) (record { id = id; parents = o.parents }) o.first) in
      let at = has-place came of.placed of.among in
      (at.0, ap (place_of came) (ap (λ (a : Ancestry). a.id) of.is) ∙ at.1)

  among : (id : Id) (at : ℕ) → place_of came id ≡ Some at → place_among arrivals id ≡ Some at
  among id at h = ap (λ (l : List ObjectArrival). place_among l id) ready.listed ∙ same-place came id ∙ h

  -- the commit at which the order ends has its place
  placed : (e : OrderFault) → IsOrderFault (order.ancestries s.known.git commits) s.commits e → HasPlace arrivals e
  placed (ParentUnknown id) is = let at = place id (stuck id is) in (at.0, among id at.0 at.1)
  placed Memory is = tt

  refused : (e : OrderFault) (r : PullFault) → IsOrderFault (order.ancestries s.known.git commits) s.commits e → IsOrderRefusal arrivals e r → IsJudgement (LacksParent m came) r
  refused (ParentUnknown id) r is gives =
      let at = place id (stuck id is) in
      subst (IsJudgement (LacksParent m came)) (sym (gives at.0 (among id at.0 at.1))) (id, at.0, stuck id is, at.1, refl)
  refused Memory r is gives = subst (IsJudgement (LacksParent m came)) (sym gives) tt

pub returns-in-Ok-clause-order : goal.returns-in-Ok-clause-order
returns-in-Ok-clause-order c = λ m placed ready. record {
  ready = ready;
  order = in-order c.args.state.now c.args.came.now c.in_ok-commits.commits c.in_ok-commits.ensures m placed ready c.in-Ok.ordered c.in-Ok.ensures.order;
}

pub refusal_of-requires : goal.refusal_of-requires
refusal_of-requires c =
    let ready = c.requires.ready in
    placed c.args.state.now c.args.came.now c.in_ok-commits.commits c.in_ok-commits.ensures ready.0 ready.1 ready.2 c.in-Err.fault c.in-Err.ensures.fault

pub returns-clause-stuck : goal.returns-clause-stuck
returns-clause-stuck c = λ m came ready.
    refused c.args.state.now c.args.came.now c.in_ok-commits.commits c.in_ok-commits.ensures m came ready c.in-Err.fault c.refusal_of.result c.in-Err.ensures.fault c.refusal_of.ensures.refusal

pub returns-clause-names : goal.returns-clause-names
returns-clause-names c = c.refusal_of.ensures.names
