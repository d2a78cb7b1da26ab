use Rattle.std.proofs.Common.{◌∙◌}
use Rattle.state_text.proofs.HeadLemmas.{same-link}
use Rattle.state_text.proofs.heads.is_link_of.Goals as goal

pub returns-in-Some : goal.returns-in-Some
returns-in-Some c = λ h held. c.is_link.ensures ∙ same-link c.args.store.now c.args.node.now _ _ _ h c.in-Some.ensures.value held
