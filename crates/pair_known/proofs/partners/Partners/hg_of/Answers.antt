use Rattle.std.proofs.Common.{List, ap, ◌∙◌, bytes_eq}
use Rattle.std.specs.Map.{lookup}
use Rattle.text_model.specs.Id.{Id}
use Rattle.pair_known.specs.Partners.{hg_at}
use Rattle.pair_known.proofs.PairLemmas.{hg-lookup}
use Rattle.pair_known.proofs.partners.Partners.hg_of.Goals as goal

pub returns-clause-partner : goal.returns-clause-partner
returns-clause-partner c =
    c.copied.ensures ∙ c.get.ensures.value
    ∙ ap (λ (l : List (Id × Id)). lookup (bytes_eq c.args.id.now) l) c.self.invariant.turned
    ∙ hg-lookup c.self.inside.git.entries c.args.id.now
    ∙ ap (λ (l : List (Id × Id)). hg_at l c.args.id.now) c.self.view_is
