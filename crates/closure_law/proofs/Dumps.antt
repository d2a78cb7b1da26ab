-- Both dumps of a right history that is saved are accepted where nothing is saved, and refused for nothing.
use Rattle.std.proofs.Common.{◌++◌, refl}
use Rattle.git_model.specs.Stream.{stream_text}
use Rattle.pair_model.specs.Block.{commits_in}
use Rattle.state_model.specs.Kept.{kept_of, git_dump}
use Rattle.closure_model.specs.Closure.{Closure, nothing}
use Rattle.arrival_law.proofs.Whole.{read-again}
use Rattle.right_law.proofs.Closed.{bundle_accepted, no_bundle_fault}
use Rattle.stream_return_law.proofs.Accepted.{accepted, nothing_sound}
use Rattle.stream_return_law.proofs.Outcome.{not_refused}

pub dumps-return : Closure
dumps-return s is h =
    let k = kept_of s in
    let read = read-again s is in
    let stream = accepted k h read.shaped read.blobs read.tags read.small read.stream in
    record {
      bundle = (bundle_accepted k read.shaped read.small read.bundle h, refl);
      bundle_faults = no_bundle_fault k read.shaped read.small read.bundle h;
      stream = stream;
      stream_faults = not_refused nothing nothing_sound (git_dump (commits_in k.blocks) ++ stream_text k.tags) k.blocks k.tags stream;
    }
