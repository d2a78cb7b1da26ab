use Rattle.std.proofs.Common.{List, ap, ◌∙◌}
use Rattle.text_model.specs.Id.{Id}
use Rattle.pair_known.specs.Partners.{git_at}
use Rattle.pair_known.proofs.PairLemmas.{git-lookup}
use Rattle.pair_known.proofs.partners.Partners.git_of.Goals as goal

pub returns-clause-partner : goal.returns-clause-partner
returns-clause-partner c =
    c.copied.ensures ∙ c.get.ensures.value ∙ git-lookup c.self.inside.git.entries c.args.node.now
    ∙ ap (λ (l : List (Id × Id)). git_at l c.args.node.now) c.self.view_is
