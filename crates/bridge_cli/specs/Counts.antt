-- The lines of a check, over the entries and objects that the code lists.
use Rattle.std.specs.Prelude.{◌++◌, List, codes}
use Rattle.text_model.specs.Text.{Bytes}
use Rattle.text_model.specs.Id.{blob, tree, commit, tag}
use Rattle.saved_model.specs.Written.{count_line}
use Rattle.hg_bundle.specs.declared.arrival.Arrival.{Arrival}
use Rattle.hg_bundle.specs.declared.arrival.RevKind.TheVariants.{Changeset, Manifest, File}
use Rattle.hg_bundle.specs.Arrivals.{count_of_kind}
use Rattle.git_batch.specs.declared.arrival.ObjectArrival.{ObjectArrival}
use Rattle.git_batch.specs.Arrivals.{count_of}

abbrev pub arrival_counts : List Arrival → Bytes
arrival_counts arrivals =
    count_line (codes "changesets") (count_of_kind Changeset arrivals)
    ++ (count_line (codes "manifests") (count_of_kind Manifest arrivals)
    ++ count_line (codes "files") (count_of_kind File arrivals))

abbrev pub stream_counts : List ObjectArrival → Bytes
stream_counts arrivals =
    count_line (codes "commits") (count_of commit arrivals)
    ++ (count_line (codes "trees") (count_of tree arrivals)
    ++ (count_line (codes "blobs") (count_of blob arrivals)
    ++ count_line (codes "tags") (count_of tag arrivals)))
