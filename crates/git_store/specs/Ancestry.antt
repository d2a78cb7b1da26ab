-- The commits that a store holds, by their ids and their parents.
use Rattle.std.specs.Prelude.{List, [], map, Option, Some, None}
use Rattle.text_model.specs.Text.{Bytes}
use Rattle.text_model.specs.Id.{Id, commit}
use Rattle.git_model.specs.Commit.{parent_ids}
use Rattle.git_model.specs.Object.{Object}
use Rattle.git_model.specs.Order.{Ancestry}
use Rattle.git_store.specs.Known.{content_at}

abbrev pub parents_in : Option Bytes → List Id
parents_in None = []
parents_in (Some content) = parent_ids content

-- the parents of the commit with this id; none where no commit has it
abbrev pub parents_at : List Object → Id → List Id
parents_at known id = parents_in (content_at commit known id)

abbrev pub ancestry_at : List Object → Id → Ancestry
ancestry_at known id = record { id = id; parents = parents_at known id }

abbrev pub ancestries : List Object → List Id → List Ancestry
ancestries known ids = map (ancestry_at known) ids
