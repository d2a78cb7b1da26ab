use Rattle.std.proofs.Common.{refl}
use Rattle.git_model.proofs.TagLemmas.{tag_fault-text, tag_target-text, is_tag_of-text, one_tag}
use Rattle.git_object.proofs.laws.tag_laws.Goals as goal

pub returns-clause-one : goal.returns-clause-one
returns-clause-one c = one_tag

pub returns-clause-fits : goal.returns-clause-fits
returns-clause-fits c = tag_fault-text

pub returns-clause-written : goal.returns-clause-written
returns-clause-written c tag is = (is, refl)

pub returns-clause-target : goal.returns-clause-target
returns-clause-target c = tag_target-text

pub returns-clause-kind : goal.returns-clause-kind
returns-clause-kind c = is_tag_of-text
