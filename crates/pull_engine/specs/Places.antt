-- Where a changeset came first.
use Rattle.std.specs.Prelude.{ℕ, Bool, ◌&&◌, List, Option, option_map, bytes_eq}
use Rattle.std.specs.List.{find}
use Rattle.text_model.specs.Id.{Id}
use Rattle.hg_bundle.specs.declared.arrival.Arrival as listed
use Rattle.hg_bundle.specs.declared.arrival.RevKind.TheVariants.{Changeset}
use Rattle.hg_bundle.specs.Arrivals.{same_kind}

-- the entry is the changeset with this node
abbrev pub is_changeset : Id → listed.Arrival → Bool
is_changeset node a = same_kind a.kind Changeset && bytes_eq a.node node

abbrev pub node_place : List listed.Arrival → Id → Option ℕ
node_place arrivals node = option_map (λ a. a.at) (find (is_changeset node) arrivals)
