use Rattle.std.proofs.Common.{sym, ◌∙◌}
use Rattle.hg_model.proofs.ExtrasLemmas.{extra_of-takes}
use Rattle.hg_changeset.proofs.extras.Extras.take.Goals as goal

pub push-requires-clause-some : goal.push-requires-clause-some
push-requires-clause-some c = (extra_of-takes c.args.text.now c.in-Some.item (sym c.in_ok-item.ensures ∙ c.in-Some.is)).some

pub push-requires-clause-plain : goal.push-requires-clause-plain
push-requires-clause-plain c = (extra_of-takes c.args.text.now c.in-Some.item (sym c.in_ok-item.ensures ∙ c.in-Some.is)).plain
