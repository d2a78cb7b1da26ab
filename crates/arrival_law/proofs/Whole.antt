-- What the text of a saved history says of its blocks, and that both its dumps are read again.
use Rattle.std.proofs.Common.{[]}
use Rattle.text_model.specs.Lists.{Each}
use Rattle.text_model.proofs.EachLemmas.{Each-weaker}
use Rattle.view_model.specs.View.{ChangesetFits, IsCommitView, changeset_node}
use Rattle.pair_model.specs.Block.{changesets_in}
use Rattle.partner_model.specs.Partner.{IsHeldView}
use Rattle.state_model.specs.Kept.{State, Kept, kept_of}
use Rattle.state_model.specs.Saved.{IsState}
use Rattle.saved_model.specs.Step.{dump_revisions, known_of}
use Rattle.next_law.proofs.Founded.{founded-after, held-fits}
use Rattle.next_law.proofs.Known.{IsSaved, saved-of, additions}
use Rattle.next_law.proofs.Room.{none-passed}
use Rattle.closure_model.specs.Shaped.{AreShaped}
use Rattle.closure_model.specs.Arrives.{IsReadAgain}
use Rattle.arrival_law.proofs.Views.{some-referred, ground, ground-of}
use Rattle.arrival_law.proofs.Bundle as bundle
use Rattle.arrival_law.proofs.Objects.{all-known, each-blob, each-commit}
use Rattle.arrival_law.proofs.Arrivals as stream

module _ (k : Kept) (saved : IsSaved k) where
  all-fit : Each ChangesetFits (changesets_in k.blocks)
  all-fit =
      let known = (known_of k).revisions in
      let founded = founded-after [] 0 (dump_revisions (changesets_in k.blocks)) tt (additions k saved) in
      Each-weaker (IsHeldView known) ChangesetFits (λ h held. held-fits known founded (changeset_node h) h held) (changesets_in k.blocks) (ground k saved).known

  pub shaped : AreShaped k
  shaped = record {
    links = saved.blocks;
    changesets = (saved.dumped).views;
    fits = all-fit;
    commits = each-commit IsCommitView k.blocks (saved.commits).views;
    ground = ground k saved;
    grounds = ground-of k saved;
    one_revision = (saved.dumped).one;
    one_object = (saved.commits).one;
    real = some-referred k saved;
    objects = all-known k saved;
  }

pub read-again : (s : State) → IsState s → IsReadAgain (kept_of s)
read-again s is =
    let k = kept_of s in
    let saved = saved-of s is in
    record {
      shaped = shaped k saved;
      blobs = each-blob k.blocks (saved.commits).views;
      tags = saved.tags;
      small = none-passed k saved;
      bundle = bundle.arrives k saved;
      stream = stream.arrives k saved;
    }
