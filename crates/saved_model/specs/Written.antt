-- What the commands write of what they read: counts, and the pairs of a saved state. The forms are this project's own.
use Rattle.std.specs.Prelude.{ℕ, Bool, true, false, List, [], ◌∷◌, ◌++◌, codes, decimal, count_by}
use Rattle.std.specs.List.{flat_map}
use Rattle.text_model.specs.Lists.{in_order}
use Rattle.text_model.specs.Text.{Bytes, line, spaced, is_below}
use Rattle.text_model.specs.Id.{hex, blob, tree, commit, tag}
use Rattle.hg_model.specs.Revision.{Group, Manifests, FilesAt}
use Rattle.hg_model.specs.Reading.{Arrival}
use Rattle.git_model.specs.Stream.{Placed, count_of_kind}
use Rattle.pair_model.specs.Block.{Block, node_of, id_of}
use Rattle.history_model.specs.Pull.{is_changesets}

-- ---- counts

-- a word and a number, as a line
abbrev pub count_line : Bytes → ℕ → Bytes
count_line word n = line (spaced (word ∷ decimal n ∷ []))

abbrev pub is_manifests : Group → Bool
is_manifests Manifests = true
is_manifests _ = false

abbrev pub is_files : Group → Bool
is_files (FilesAt path) = true
is_files _ = false

-- how many entries of a bundle stand in groups of this kind
abbrev pub count_in : (Group → Bool) → List Arrival → ℕ
count_in is_kind arrivals = count_by (λ a. is_kind (a.revision).group) arrivals

-- how many entries of each kind a bundle has
abbrev pub revision_counts : List Arrival → Bytes
revision_counts arrivals =
    count_line (codes "changesets") (count_in is_changesets arrivals)
    ++ (count_line (codes "manifests") (count_in is_manifests arrivals)
    ++ count_line (codes "files") (count_in is_files arrivals))

-- how many objects of each kind a stream has
abbrev pub object_counts : List Placed → Bytes
object_counts objects =
    count_line (codes "commits") (count_of_kind commit objects)
    ++ (count_line (codes "trees") (count_of_kind tree objects)
    ++ (count_line (codes "blobs") (count_of_kind blob objects)
    ++ count_line (codes "tags") (count_of_kind tag objects)))

-- ---- what a saved state is written as

-- the node of the first block is below that of the second
abbrev pub has_node_below : Block → Block → Bool
has_node_below a b = is_below (node_of a) (node_of b)

-- `git-hex SP hg-hex LF` for each block, in rising order of the nodes
abbrev pub map_text : List Block → Bytes
map_text blocks = flat_map (λ b. line (spaced (hex (id_of b) ∷ hex (node_of b) ∷ []))) (in_order has_node_below blocks)
