-- What reading shows of revisions and objects: each has the id of what it says.
use Rattle.std.proofs.Common.{◌≡◌, List, [], Ok, sym, ◌∙◌, arith}
use Rattle.text_model.specs.Lists.{Each}
use Rattle.text_model.specs.Text.{Bytes}
use Rattle.hg_model.specs.Revision.{Revision, known_after_all}
use Rattle.hg_model.specs.Bundle.{bundle_framing}
use Rattle.hg_model.specs.Reading.{Arrival, bundle_reading}
use Rattle.hg_bundle.proofs.Reading.{reading_is}
use Rattle.hg_bundle.proofs.Taken.{all_taken}
use Rattle.git_model.specs.Object.{Object}
use Rattle.git_model.specs.Stream.{Placed, IsFitStream, IsChecked, stream_reading}
use Rattle.git_batch.proofs.StreamLaws.{brings_only}
use Rattle.history_model.specs.Pull.{revisions_among, objects_among}
use Rattle.pull_law.specs.Sound.{HasOwnNode}
use Rattle.pull_law.proofs.Known.{own-after}

-- the revisions that are known when a bundle is read
pub read-own : (known : List Revision) (bundle : Bytes) (arrivals : List Arrival) → Each HasOwnNode known → bundle_reading known bundle ≡ Ok arrivals
    → Each HasOwnNode (known_after_all known (revisions_among arrivals))
read-own known bundle arrivals own reads =
    let f = bundle_framing bundle in
    own-after known 0 (revisions_among arrivals) own
    (all_taken known [] 0 f.items f.bad arrivals (omega arith) (sym (reading_is known bundle) ∙ reads)).additions

-- the objects that a stream brings, and the stream is theirs
pub read-checked : (known : List Object) (stream : Bytes) (came : List Placed) → stream_reading known stream ≡ Ok came
    → IsFitStream stream (objects_among came) × IsChecked (objects_among came)
read-checked known stream came reads = let all = brings_only known stream came reads in (all.0, all.1)
