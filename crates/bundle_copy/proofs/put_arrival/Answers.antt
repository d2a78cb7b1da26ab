use Rattle.std.proofs.Common.{List, [], ◌∷◌, ◌++◌, sym, subst}
use Rattle.std.specs.Prelude.{Result, Ok, Err, OnOk}
use Rattle.text_model.specs.Id.{Id}
use Rattle.view_model.specs.Held.{AreChangesetsHeld}
use Rattle.hg_view.proofs.Held.{view-is_held}
use Rattle.hg_dump.proofs.HeldLemmas.{held-push}
use Rattle.bundle_copy.proofs.put_arrival.Goals as goal

on_ok : {T E : Type 0} {P Q : Type 0} (r : Result T E) → OnOk r P → (P → Q) → OnOk r Q
on_ok (Ok x) p f = f p
on_ok (Err e) p f = tt

pub returns-in-Ok : goal.returns-in-Ok
returns-in-Ok c =
    let known = c.args.store.now in
    let hs = c.requires in
    let node = (c.args.arrival.now).node in
    let one = view-is_held known c.in-Ok.ensures.known node c.in-Ok.field-0 c.in-Ok.ensures.value in
    on_ok c.push.result c.push.ensures.ok (λ is. (
      hs.0 ++ one.0 ∷ [],
      subst (λ (l : List Id). AreChangesetsHeld known l (hs.0 ++ one.0 ∷ [])) (sym is) (held-push known c.args.order.now hs.0 node one.0 hs.1 one.1),
    ))
