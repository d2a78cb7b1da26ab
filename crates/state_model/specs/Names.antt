-- The names that a state may keep: of its commits and of its kept tags. All of it is this project's own.
use Rattle.std.specs.Prelude.{◌≤◌, Bool, ◌||◌, is_some, List, length, map, Option, option_map, bytes_eq, IsTrue}
use Rattle.std.specs.List.{find, zip}
use Rattle.text_model.specs.Lists.{Each, rises}
use Rattle.text_model.specs.Text.{is_below}
use Rattle.text_model.specs.Id.{Id, has_id}
use Rattle.view_model.specs.View.{changeset_node, commit_id}
use Rattle.pair_model.specs.Block.{node_of, id_of}
use Rattle.state_model.specs.Limits.{name_limit}
use Rattle.state_model.specs.Kept.{Kept, NameRow, ids_of}
use Rattle.state_model.specs.Text.{Sections, no_links}
use Rattle.state_model.specs.Ref.{is_fit_ref}

-- what names may name: the nodes and ids of a history's pairs, and the ids of the kept tags
pub record Targets : Type 0 where
  pub pairs : List (Id × Id)
  pub tags : List Id

abbrev pub targets_in : Kept → Targets
targets_in k = record { pairs = map (λ b. (node_of b, id_of b)) k.blocks; tags = ids_of k.tags }

-- the same of the sections of a text, as section 3 pairs them
abbrev pub targets_of : Sections → Targets
targets_of s = record { pairs = map (λ p. (changeset_node p.1, commit_id p.0)) (zip s.commits (no_links s.changesets)); tags = ids_of s.tags }

-- the changeset whose partner the commit is
abbrev pub changeset_of : Targets → Id → Option Id
changeset_of t id = option_map (λ e. e.0) (find (λ e. bytes_eq e.1 id) t.pairs)

-- a saved commit or a kept tag
abbrev pub is_target : Targets → Id → Bool
is_target t id = is_some (changeset_of t id) || has_id t.tags id

-- the refs in the order of their names
abbrev pub is_name_below : NameRow → NameRow → Bool
is_name_below a b = is_below a.name b.name

-- the names that a state may keep
pub record AreNames (t : Targets) (names : List NameRow) : Type 0 where
  pub few : length names ≤ name_limit
  pub fit : Each (λ row. IsTrue (is_fit_ref row.name)) names
  pub targets : Each (λ row. IsTrue (is_target t row.id)) names
  pub rising : IsTrue (rises is_name_below names)
