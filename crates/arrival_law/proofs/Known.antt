-- What a stream brought is known, and so is each object of a saved history.
use Rattle.std.proofs.Common.{◌≡◌, List, [], ◌++◌, Some, Ok, sym, subst, ◌∙◌}
use Rattle.text_model.specs.Lists.{Each, In}
use Rattle.text_model.specs.Text.{Bytes}
use Rattle.text_model.proofs.TestLemmas.{bytes_eq-is}
use Rattle.git_model.specs.Object.{Object, has_id, objects_after_all}
use Rattle.git_model.specs.Stream.{Placed, stream_reading}
use Rattle.git_batch.proofs.StreamLaws.{brings_only}
use Rattle.tree_shape.specs.Laws.{IsKnown}
use Rattle.pair_model.specs.Block.{commits_in}
use Rattle.history_model.specs.Pull.{objects_among}
use Rattle.state_model.specs.Kept.{Kept}
use Rattle.saved_model.specs.Step.{dump_objects, known_of}
use Rattle.next_law.proofs.Known.{IsSaved}
use Rattle.next_law.proofs.LikeNew.{find-in}
use Rattle.next_law.proofs.ObjectLike.{IsKnownAs}
use Rattle.tag_law.proofs.Adds.{adds-known}
use Rattle.arrival_law.proofs.Arrivals.{arrives}

pub read-known : (known : List Object) (bytes : Bytes) (came : List Placed) → stream_reading known bytes ≡ Ok came → Each (IsKnownAs (objects_after_all known (objects_among came))) (objects_among came)
read-known known bytes came reads = adds-known known (objects_among came) (brings_only known bytes came reads).2

-- those of the commits, and the tags
pub state-known : (k : Kept) → IsSaved k → Each (IsKnownAs (known_of k).objects) (dump_objects (commits_in k.blocks) ++ k.tags)
state-known k saved =
    let a = arrives k saved in
    subst (λ (os : List Object). Each (IsKnownAs (objects_after_all [] os)) os) a.objects (read-known [] _ a.came a.reads)

-- what is known with its kind and content is known as it is, and is among what is known
pub as-is : (known : List Object) (o : Object) → IsKnownAs known o → IsKnown known o
as-is known o x =
    let id : o.id ≡ (x.it).id = bytes_eq-is o.id (x.it).id (find-in (has_id o.id) known x.it x.found).1 in
    x.found ∙ (λ i. Some (record { id = sym id i; kind = sym x.kind i; content = sym x.content i }))

pub in-known : (known : List Object) (o : Object) → IsKnown known o → In o known
in-known known o h = (find-in (has_id o.id) known o h).0
