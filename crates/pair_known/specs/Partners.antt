-- Pairs of a changeset's node and a commit's id that are partners.
use Rattle.std.specs.Prelude.{◌≡◌, List, map, Option, option_map, IsTrue, bytes_eq}
use Rattle.std.specs.List.{find}
use Rattle.text_model.specs.Id.{Id}
use Rattle.git_model.specs.Tree.{has_distinct}

-- the partner of a changeset and of a commit
abbrev pub git_at : List (Id × Id) → Id → Option Id
git_at pairs node = option_map (λ e. e.1) (find (λ e. bytes_eq e.0 node) pairs)

abbrev pub hg_at : List (Id × Id) → Id → Option Id
hg_at pairs id = option_map (λ e. e.0) (find (λ e. bytes_eq e.1 id) pairs)

-- no node and no id stands twice
pub record ArePartners (pairs : List (Id × Id)) : Type 0 where
  pub nodes : IsTrue (has_distinct (map (λ e. e.0) pairs))
  pub ids : IsTrue (has_distinct (map (λ e. e.1) pairs))

-- the pairs by nodes, and the same by ids
pub record IsTable (git hg : List (Id × Id)) : Type 0 where
  pub partners : ArePartners git
  pub turned : hg ≡ map (λ e. (e.1, e.0)) git
