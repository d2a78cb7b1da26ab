use Rattle.std.proofs.Common.{◌≡◌, Option, Some, None, sym, ap, subst, ◌∙◌}
use Rattle.std.specs.Prelude.{option_map}
use Rattle.text_model.specs.Fault.{FaultName}
use Rattle.text_model.proofs.Options.{none_some}
use Rattle.git_model.specs.Unfold.{WalkFault, walk_fault}
use Rattle.tree_shape.specs.Faults.{IsTreeFault}
use Rattle.tree_shape.specs.declared.fault.TreeFault.{TreeFault}
use Rattle.pair_known.proofs.HeldCommits.{held-at}
use Rattle.pair_known.proofs.git_draft.draft_of_commit.Goals as goal

none_name : (why : Option WalkFault) (name : FaultName) → why ≡ None → option_map (λ (w : WalkFault). w.name) why ≡ Some name → ⊥
none_name why name none is = none_some (sym (ap (option_map (λ (w : WalkFault). w.name)) none) ∙ is)

pub read_commit_draft-requires : goal.read_commit_draft-requires
read_commit_draft-requires c = let at = held-at _ _ c.requires.held.0 c.requires.held.1 in record { held = (at.content, at.held) }

pub unreachable-requires : goal.unreachable-requires
unreachable-requires c =
    let view = c.requires.held.0 in
    let fault = subst (λ (e : TreeFault). IsTreeFault (walk_fault c.args.known.now.git (view.value).tree_id) e) c.in-Err-ObjectUnknown.field-0-is (c.in-Err-ObjectUnknown.ensures.fault view.value (held-at _ _ view c.requires.held.1)) in
    none_some (sym c.requires.held.2 ∙ fault)

pub unreachable-requires-in-Err-PathUnfit : goal.unreachable-requires-in-Err-PathUnfit
unreachable-requires-in-Err-PathUnfit c =
    let view = c.requires.held.0 in
    let fault = subst (λ (e : TreeFault). IsTreeFault (walk_fault c.args.known.now.git (view.value).tree_id) e) c.in-Err-PathUnfit.field-0-is (c.in-Err-PathUnfit.ensures.fault view.value (held-at _ _ view c.requires.held.1)) in
    none_name _ _ c.requires.held.2 fault

pub unreachable-requires-in-Err-Limit : goal.unreachable-requires-in-Err-Limit
unreachable-requires-in-Err-Limit c =
    let view = c.requires.held.0 in
    let fault = subst (λ (e : TreeFault). IsTreeFault (walk_fault c.args.known.now.git (view.value).tree_id) e) c.in-Err-Limit.field-0-is (c.in-Err-Limit.ensures.fault view.value (held-at _ _ view c.requires.held.1)) in
    none_name _ _ c.requires.held.2 fault
