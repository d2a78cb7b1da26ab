-- What a pull over a saved state leaves is one.
use Rattle.std.proofs.Common.{◌≡◌, length, sym, subst}
use Rattle.pair_model.specs.Block.{changesets_in, commits_in}
use Rattle.state_model.specs.Kept.{Kept, kept_of, with_kept}
use Rattle.state_model.specs.Names.{Targets, targets_in, targets_of, AreNames}
use Rattle.state_model.specs.Text.{sections_of}
use Rattle.name_model.specs.Targets.{AreTargets}
use Rattle.dump_law.proofs.Names.{targets-same, targets-are, names-saved}
use Rattle.next_law.proofs.Blocks.{blocks-left}
use Rattle.next_law.proofs.DumpLeft.{dump-left}
use Rattle.next_law.proofs.Room.{room-left}
use Rattle.stream_law.proofs.StreamLeft.{stream-left}
use Rattle.view_law.proofs.Left.{changesets-left, commits-left, commits_fit-left}
use Rattle.view_law.proofs.Fits.{changesets_fit-left}
use Rattle.tag_law.proofs.SavedTags.{tags-left}
use Rattle.state_law.specs.Left.{AreWithin, StateIsLeft}
use Rattle.state_law.proofs.Lengths.{text-fits}
use Rattle.state_law.proofs.Names.{names-stay}
use Rattle.state_law.proofs.Set.{few-commits}

pub state-left : StateIsLeft
state-left s pull k made is text input steps =
    let views = changesets-left s pull k made is text input steps in
    let fits = changesets_fit-left s pull k made is steps in
    let blocks = (blocks-left s pull k made is steps).0 in
    let changesets = dump-left s pull k made is steps views fits in
    let commits = stream-left s pull k made is text input steps (commits-left s pull k made is text input steps) (commits_fit-left s pull k made is text input steps) in
    let room = room-left s pull k made is steps in
    let tags = tags-left s pull k made is text input steps in
    let next = with_kept s k in
    let same : targets_of (sections_of next) ≡ targets_in k = targets-same next blocks in
    let kept : AreNames (targets_in k) s.names =
    subst (λ (n : Kept). AreNames (targets_in n) s.names) (sym steps.3) (names-stay (kept_of s) steps.0 steps.1 s.names (names-saved s is)) in
    let names : AreNames (targets_of (sections_of next)) s.names = subst (λ (t : Targets). AreNames t s.names) (sym same) kept in
    let within : AreWithin (sections_of next) = record {
      hg = room.hg;
      git = room.git;
      few = few-commits (length (commits_in k.blocks)) (changesets_in k.blocks) room.pairs room.few;
      targets = subst AreTargets (sym same) (targets-are k changesets.dumped commits tags);
      names = names;
    } in
    (blocks, (((((tt, changesets), commits), room.pairs), tags), (names, text-fits (sections_of next) within)))
