use Rattle.std.proofs.Common.{◌≡◌, ◌<◌, ◌-◌, ℕ, List, [], length, take, drop, refl, sym, subst, arith, length-drop}
use Rattle.std.specs.Prelude.{false}
use Rattle.text_model.specs.Lists.{Each}
use Rattle.hg_model.specs.Manifest.{ManifestEntry}
use Rattle.hg_dump.specs.State.{IsLineMet}
use Rattle.std.proofs.lemmas.List.{take_all}
use Rattle.text_model.specs.Id.{Id}
use Rattle.hg_model.specs.Revision.{Revision}
use Rattle.hg_store.proofs.ViewLemmas.{null-has_none}
use Rattle.view_model.specs.View.{ChangesetView}
use Rattle.view_model.specs.Held.{AreChangesetsHeld}
use Rattle.hg_dump.specs.Marks.{Met, none, marks_in, meets}
use Rattle.hg_dump.proofs.HeldLemmas.{held-take, held-drop}
use Rattle.hg_dump.proofs.MeetLemmas.{none-is_met}
use Rattle.hg_dump.proofs.BroughtLemmas.{are-brought}
use Rattle.hg_store.specs.Known.{AreAdded}
use Rattle.hg_dump.proofs.brought.Brought.collect.Goals as goal

rest : (nodes : List Id) (from : ℕ) → take (length nodes - from) (drop from nodes) ≡ drop from nodes
rest nodes from = take_all (length nodes - from) (drop from nodes) (omega (arith, length-drop from nodes))

rest-held : (known : List Revision) (nodes : List Id) (from : ℕ) (hs : List ChangesetView) → AreChangesetsHeld known nodes hs → AreChangesetsHeld known (take (length nodes - from) (drop from nodes)) (drop from hs)
rest-held known nodes from hs are = subst (λ (l : List Id). AreChangesetsHeld known l (drop from hs)) (sym (rest nodes from)) (held-drop known nodes hs from are)

pub refer_all-requires : goal.refer_all-requires
refer_all-requires c = record {
  held = (take c.args.from c.requires.held.0, held-take c.args.store.now c.args.nodes.now c.requires.held.0 c.args.from c.requires.held.1);
  before = null-has_none c.args.store.now _ c.none.result refl c.none.ensures;
}

pub refer_all-requires-2 : goal.refer_all-requires-2
refer_all-requires-2 c = record {
  held = (drop c.args.from c.requires.held.0, rest-held c.args.store.now c.args.nodes.now c.args.from c.requires.held.0 c.requires.held.1);
  before = null-has_none c.args.store.now _ c.none-2.result refl c.none-2.ensures;
}

pub returns-clause-met : goal.returns-clause-met
returns-clause-met c = λ hs are.
    let no-lines : (s : Met) (es : List ManifestEntry) → es ≡ [] → Each (IsLineMet s) es = λ s es none. subst (λ (l : List ManifestEntry). Each (IsLineMet s) l) (sym none) tt in
    let known = c.args.store.now in
    let nodes = c.args.nodes.now in
    let from = c.args.from in
    c.in_ok-refer_all-2.ensures.steps (drop from hs) (rest-held known nodes from hs are) (meets false none (marks_in (take from hs)))
    (c.in_ok-refer_all.ensures.steps (take from hs) (held-take known nodes hs from are) none (none-is_met c.new-brought.ensures) (no-lines none c.none.result c.none.ensures))
    (no-lines (meets false none (marks_in (take from hs))) c.none-2.result c.none-2.ensures)

pub returns-clause-brought : goal.returns-clause-brought
returns-clause-brought c = λ hs are.
    let known = c.args.store.now in
    let nodes = c.args.nodes.now in
    let from = c.args.from in
    let added = subst (λ (l : List Id). 0 < length l → AreAdded known) (rest nodes from) c.in_ok-refer_all-2.ensures.known in
    are-brought known (drop from nodes) (take from hs) (drop from hs) c.refer_all-2.new.self added (held-drop known nodes hs from are) (returns-clause-met c hs are)
