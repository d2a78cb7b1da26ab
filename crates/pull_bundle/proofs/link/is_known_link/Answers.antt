use Rattle.std.proofs.Common.{false, refl}
use Rattle.pull_bundle.proofs.LinkLemmas.{known-link, no-link}
use Rattle.pull_bundle.proofs.link.is_known_link.Goals as goal

pub returns-in-Some : goal.returns-in-Some
returns-in-Some c =
    known-link c.args.store.now c.args.node.now _ _ _ c.is_link.result c.in-Some.ensures.value c.is_link.ensures

pub returns-in-None : goal.returns-in-None
returns-in-None c = no-link c.args.store.now c.args.node.now false refl c.in-None.ensures.value
