-- The lengths of dumps as sums, and how they grow.
use Rattle.std.specs.Prelude.{◌≡◌, ℕ, ◌+◌, List, ◌++◌, length, IsTrue, sum_by, bytes_eq}
use Rattle.std.specs.List.{filter_map}
use Rattle.text_model.specs.Lists.{first_of_each, only_new}
use Rattle.text_model.specs.Text.{Bytes}
use Rattle.hg_model.specs.Revision.{Group, Changesets, Manifests, FilesAt, Revision}
use Rattle.hg_model.specs.Bundle.{BundleEntry, FileGroup, Bundle, bundle_text, entry_payload}
use Rattle.git_model.specs.Object.{Object}
use Rattle.git_model.specs.Stream.{object_text, stream_text}
use Rattle.view_model.specs.View.{ChangesetView}
use Rattle.view_model.specs.Dump.{brought_by, of_group, path_of_group, hg_increment}
use Rattle.pair_model.specs.Block.{Block}
use Rattle.state_model.specs.Kept.{Kept}
use Rattle.state_model.specs.Saved.{passes_limit}
use Rattle.dump_law.specs.Grown.{added_entries}

-- the bytes of the chunks of entries
abbrev pub entries_size : List BundleEntry → ℕ
entries_size es = sum_by (λ e. length (entry_payload e) + 4) es

abbrev pub file_size : FileGroup → ℕ
file_size f = (length f.path + 4) + (entries_size f.entries + 4)

abbrev pub BundleSize : Type 0
BundleSize = (b : Bundle) → length (bundle_text b) ≡ 6 + ((entries_size b.changesets + 4) + ((entries_size b.manifests + 4) + (sum_by file_size b.files + 4)))

abbrev pub StreamSize : Type 0
StreamSize = (objects : List Object) → length (stream_text objects) ≡ sum_by (λ o. length (object_text o)) objects

-- what new revisions add to a group of old ones
abbrev pub added_to : List Revision → List Revision → List Revision → Group → ℕ
added_to known old new group = entries_size (added_entries known group (of_group group old) (of_group group new))

abbrev pub paths_among : List Revision → List Bytes
paths_among rs = filter_map (λ r. path_of_group r.group) rs

-- the bytes that new revisions add to the bundle of old ones: to each group its entries, and for each new path a group of its own
abbrev pub added_size : List Revision → List Revision → List Revision → ℕ
added_size known old new =
    added_to known old new Changesets
    + (added_to known old new Manifests
    + (sum_by (λ path. added_to known old new (FilesAt path)) (first_of_each bytes_eq (paths_among old))
    + sum_by (λ path. (length path + 8) + added_to known old new (FilesAt path)) (only_new bytes_eq (paths_among old) (paths_among new))))

abbrev pub BundleGrows : Type 0
BundleGrows = (known : List Revision) (before old new : List ChangesetView)
    → length (hg_increment known before (old ++ new)) ≡ length (hg_increment known before old) + added_size known (brought_by before old) (brought_by (before ++ old) new)

abbrev pub LimitIsKept : Type 0
LimitIsKept = (k : Kept) (new : List Block) (tags : List Object) → IsTrue (passes_limit k) → IsTrue (passes_limit (record { blocks = k.blocks ++ new; tags = k.tags ++ tags }))
