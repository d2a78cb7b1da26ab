use Rattle.std.proofs.Common.{[], List, sym, subst}
use Rattle.text_model.specs.Id.{Id}
use Rattle.view_model.specs.Held.{AreChangesetsHeld}
use Rattle.view_model.specs.Dump.{brought_by}
use Rattle.hg_dump.proofs.bundle.read_is_dump.Goals as goal

pub is_bundle-requires-clause-brought : goal.is_bundle-requires-clause-brought
is_bundle-requires-clause-brought c =
    let hs = c.requires.held.0 in
    let are = c.requires.held.1 in
    (brought_by [] hs, c.in_ok-brought.ensures.brought hs (subst (λ (l : List Id). AreChangesetsHeld c.args.store.now l hs) (sym c.as_slice.ensures) are))

pub returns : goal.returns
returns c = λ hs are.
    let brought = c.in_ok-brought.ensures.brought hs (subst (λ (l : List Id). AreChangesetsHeld c.args.store.now l hs) (sym c.as_slice.ensures) are) in
    (c.is_bundle.ensures.yes (brought_by [] hs) brought, c.is_bundle.ensures.no (brought_by [] hs) brought)
