use Rattle.std.proofs.Common.{subst}
use Rattle.hg_store.specs.declared.fault.ViewFault.{ViewFault}
use Rattle.hg_store.specs.Views.{IsViewFault}
use Rattle.pair_known.specs.Drafts.{IsDraftFault}
use Rattle.pair_known.specs.declared.draft_fault.DraftFault.{DraftFault}
use Rattle.pull_bundle.proofs.Lacks.{file-lacks}
use Rattle.pull_bundle.proofs.draft.draft_of.Goals as goal

pub returns-in-Err-Unknown-FileUnknown-clause-refused : goal.returns-in-Err-Unknown-FileUnknown-clause-refused
returns-in-Err-Unknown-FileUnknown-clause-refused c = λ r at.
    let known = c.args.known.now.hg in
    let node = c.args.node.now in
    let lacks = subst (λ (e : DraftFault). IsDraftFault known node e) c.in-Err-Unknown-FileUnknown.field-0-is c.in-Err-Unknown-FileUnknown.ensures.fault in
    file-lacks known node r at _ (subst (λ (e : ViewFault). IsViewFault known node e) c.in-Err-Unknown-FileUnknown.field-0-0-is lacks)
