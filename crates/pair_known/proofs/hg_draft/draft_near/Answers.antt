use Rattle.std.proofs.Common.{subst}
use Rattle.pair_known.specs.Drafts.{IsDraftFault}
use Rattle.pair_known.specs.declared.draft_fault.DraftFault.{DraftFault}
use Rattle.pair_known.proofs.ViewFaults.{viewed-there}
use Rattle.pair_known.proofs.hg_draft.draft_near.Goals as goal

pub unreachable-requires : goal.unreachable-requires
unreachable-requires c =
    let known = c.args.known.now.hg in
    let node = c.args.node.now in
    let fault = subst (λ (e : DraftFault). IsDraftFault known node e) c.in-Err-Unknown.field-0-is c.in-Err-Unknown.ensures.fault in
    viewed-there known node c.requires.view.0 c.requires.view.1 _ fault
