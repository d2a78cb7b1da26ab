-- What pulls come to.
use Rattle.std.specs.Prelude.{◌≡◌, ◌++◌, List, length, map}
use Rattle.text_model.specs.Lists.{In}
use Rattle.text_model.specs.Text.{Bytes}
use Rattle.hg_model.specs.Revision.{known_after_all}
use Rattle.hg_model.specs.Reading.{Arrival}
use Rattle.hg_bundle.specs.Arrivals as listed
use Rattle.git_model.specs.Object.{Object}
use Rattle.git_model.specs.Stream.{Placed}
use Rattle.git_batch.specs.Arrivals as placed
use Rattle.view_model.specs.Dump.{git_increment, hg_increment, revisions_in}
use Rattle.pair_model.specs.Block.{Block, changesets_in, commits_in}
use Rattle.history_model.specs.Pull.{known_with, objects_with, PullHgMakes, PullHgRefuses, PullGitMakes, PullGitRefuses}
use Rattle.pair_state.specs.declared.state.State.{State}
use Rattle.pull_outcome.specs.declared.pulled.GitPulled.{GitPulled}
use Rattle.pull_outcome.specs.declared.pulled.HgPulled.{HgPulled}
use Rattle.pull_outcome.specs.declared.refused.PullFault.{PullFault}
use Rattle.pull_outcome.specs.Refused.{IsRefusedBy}
use Rattle.pair_state.specs.AllBlocks.{HasAllBlocks, state_value}

-- ---- of an input whose bytes are told

-- the bundle is accepted: this came, this is written, and the next state has the new blocks behind the old ones
pub record PulledHg (s : State) (blocks : List Block) (bundle : Bytes) (pulled : HgPulled) : Type 0 where
  pub makes : PullHgMakes (state_value s blocks) bundle pulled.made
  pub came : pulled.arrivals ≡ map listed.arrival_of makes.arrivals
  pub next : HasAllBlocks pulled.state (blocks ++ makes.new)
  pub first_new : pulled.first_new ≡ length blocks

-- the same of a stream; its objects are known then, and what the new blocks refer to
pub record PulledGit (s : State) (blocks : List Block) (stream : Bytes) (pulled : GitPulled) : Type 0 where
  pub makes : PullGitMakes (state_value s blocks) stream pulled.made
  pub came : pulled.arrivals ≡ map placed.arrival_of makes.came
  pub revisions : (pulled.state).known.hg ≡ known_after_all s.known.hg (revisions_in (changesets_in makes.new))
  pub objects : (pulled.state).known.git ≡ objects_with (state_value s blocks) makes.came
  pub next : HasAllBlocks pulled.state (blocks ++ makes.new)
  pub first_new : pulled.first_new ≡ length blocks

abbrev pub RefusesHg : State → List Block → Bytes → PullFault → Type 0
RefusesHg s blocks bundle fault = IsRefusedBy (PullHgRefuses (state_value s blocks) bundle) fault

abbrev pub RefusesGit : State → List Block → Bytes → PullFault → Type 0
RefusesGit s blocks stream fault = IsRefusedBy (PullGitRefuses (state_value s blocks) stream) fault

-- ---- of any input

-- The next state knows the revisions of before and those that came, has each object of before, new blocks behind the old ones, and the tags and
-- names of before; the stream of the new commits is written.
pub record GoesOnHg (s : State) (blocks : List Block) (pulled : HgPulled) : Type 0 where
  pub came : List Arrival
  pub arrivals : pulled.arrivals ≡ map listed.arrival_of came
  pub revisions : (pulled.state).known.hg ≡ known_with (state_value s blocks) came
  pub objects : (o : Object) → In o s.known.git → In o (pulled.state).known.git
  pub new : List Block
  pub next : HasAllBlocks pulled.state (blocks ++ new)
  pub first_new : pulled.first_new ≡ length blocks
  pub made : pulled.made ≡ git_increment (commits_in blocks) (commits_in new)
  pub tags : (pulled.state).tags ≡ s.tags
  pub names : (pulled.state).names ≡ s.names

-- the same of a pull from Git, which writes the bundle of the new changesets
pub record GoesOnGit (s : State) (blocks : List Block) (pulled : GitPulled) : Type 0 where
  pub came : List Placed
  pub arrivals : pulled.arrivals ≡ map placed.arrival_of came
  pub objects : (pulled.state).known.git ≡ objects_with (state_value s blocks) came
  pub new : List Block
  pub next : HasAllBlocks pulled.state (blocks ++ new)
  pub first_new : pulled.first_new ≡ length blocks
  pub made : pulled.made ≡ hg_increment (known_after_all s.known.hg (revisions_in (changesets_in new))) (changesets_in blocks) (changesets_in new)
  pub tags : (pulled.state).tags ≡ s.tags
  pub names : (pulled.state).names ≡ s.names
