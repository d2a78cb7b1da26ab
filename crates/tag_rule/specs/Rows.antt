-- The tags among the objects of a stream.
use Rattle.std.specs.Prelude.{if◌then◌else◌, List, [], ◌∷◌, ◌++◌, map, filter, bytes_eq}
use Rattle.text_model.specs.Lists.{first_of_each}
use Rattle.text_model.specs.Id.{Id, has_id, tag}
use Rattle.git_batch.specs.declared.arrival.ObjectArrival.{ObjectArrival}
use Rattle.git_batch.specs.Arrivals.{is_of}

-- the ids of the tags, each once
abbrev pub tag_ids : List ObjectArrival → List Id
tag_ids arrivals = first_of_each bytes_eq (map (λ a. a.id) (filter (is_of tag) arrivals))

-- the ids with this one at the end, unless it is there
abbrev pub with_id : List Id → Id → List Id
with_id ids id = if has_id ids id then ids else ids ++ id ∷ []
