-- The partners of the parents that a changeset names.
use Rattle.std.specs.Prelude.{List, is_some, IsTrue}
use Rattle.text_model.specs.Lists.{Each}
use Rattle.text_model.specs.Id.{Id}
use Rattle.pair_model.specs.Block.{not_null}
use Rattle.pair_known.specs.Partners.{git_at}

-- each node that isn't null has a partner
abbrev pub HavePartners : List (Id × Id) → List Id → Type 0
HavePartners pairs nodes = Each (λ node. IsTrue (is_some (git_at pairs node))) (not_null nodes)
