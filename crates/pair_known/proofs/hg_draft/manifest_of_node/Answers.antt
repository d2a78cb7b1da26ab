use Rattle.pair_known.proofs.HeldViews.{manifest-some, manifest-none}
use Rattle.pair_known.proofs.hg_draft.manifest_of_node.Goals as goal

pub returns-in-Some : goal.returns-in-Some
returns-in-Some c = manifest-some c.args.store.now c.in-Some.ensures.known c.args.node.now _ c.in-Some.ensures.value

pub returns-in-None : goal.returns-in-None
returns-in-None c = manifest-none c.args.store.now c.in-None.ensures.known c.args.node.now c.in-None.ensures.value
