use Rattle.std.proofs.Common.{ap, ◌∙◌}
use Rattle.hg_store.specs.Groups.{revision_value}
use Rattle.hg_store.specs.Known.{is_same_as}
use Rattle.hg_store.proofs.store.HgStore.knows_same.Goals as goal

pub returns-in-Some-clause-value : goal.returns-in-Some-clause-value
returns-in-Some-clause-value c = c.is_like.ensures ∙ ap (is_same_as (revision_value c.args.addition.now)) c.in-Some.ensures.revision
