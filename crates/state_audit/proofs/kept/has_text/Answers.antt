use Rattle.std.proofs.Common.{◌∙◌}
use Rattle.bridge_text.specs.Kinds.{object_kind}
use Rattle.state_audit.proofs.SameCommits.{text-is, text-there}
use Rattle.state_audit.proofs.kept.has_text.Goals as goal

pub returns-in-Some-clause-same : goal.returns-in-Some-clause-same
returns-in-Some-clause-same c = λ e held. c.eq.ensures ∙ text-is c.args.git.now c.args.id.now e (object_kind c.in-Some.field-0-0) c.in-Some.content.now c.args.text.now held c.in-Some.ensures.content

pub returns-in-None-clause-same : goal.returns-in-None-clause-same
returns-in-None-clause-same c = λ e held. absurd (text-there c.args.git.now c.args.id.now e held c.in-None.ensures.content)
