use Rattle.std.proofs.Common.{◌≡◌, List, Result, Ok, Err, IfOk, IfErr, ap, ◌∙◌}
use Rattle.text_model.specs.Id.{Id, has_id}
use Rattle.git_model.specs.Order.{Ancestry, IsOrder}
use Rattle.git_store.specs.declared.order.fault.OrderFault.{OrderFault}
use Rattle.git_store.specs.declared.order.fault.OrderFault.TheVariants.{ParentUnknown, Memory}
use Rattle.git_store.specs.Ancestry.{ancestries}
use Rattle.git_store.specs.OrderFaults.{IsOrderFault}
use Rattle.pull_stream.proofs.Orders.{order-same, stuck-same}
use Rattle.pull_stream.proofs.ordering.order_over.Goals as goal

module _ (rows : List Ancestry) (a b : List Id) (same : (id : Id) → has_id a id ≡ has_id b id) where
  ordered : (r : Result (List Id) OrderFault) → IfOk r (IsOrder rows a) → IfOk r (IsOrder rows b)
  ordered (Ok ids) h = order-same rows a b same ids h
  ordered (Err e) h = tt

  refused : (r : Result (List Id) OrderFault) → IfErr r (IsOrderFault rows a) → IfErr r (IsOrderFault rows b)
  refused (Ok ids) h = tt
  refused (Err (ParentUnknown id)) h = stuck-same rows a b same id h
  refused (Err Memory) h = tt

pub returns : goal.returns
returns c =
    let rows = ancestries c.args.store.now c.args.commits.now in
    let same : (id : Id) → has_id c.in_ok-saved.saved id ≡ has_id c.args.ids.now id = λ id. c.in_ok-saved.ensures id ∙ ap (λ (l : List Id). has_id l id) c.as_slice.ensures in record {
      order = ordered rows c.in_ok-saved.saved c.args.ids.now same c.order.result c.order.ensures.order;
      fault = refused rows c.in_ok-saved.saved c.args.ids.now same c.order.result c.order.ensures.fault;
    }
