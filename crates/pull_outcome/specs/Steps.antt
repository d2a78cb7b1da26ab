-- How often a pull unmarks a member: at most 18 times for each new block, and for one that is refused.
use Rattle.std.specs.Prelude.{◌≡◌, ◌≤◌, ◌+◌, ◌*◌, ◌⊎◌, ℕ, suc, List, ◌++◌, length, Ok}
use Rattle.text_model.specs.Text.{Bytes}
use Rattle.text_model.specs.Id.{Id}
use Rattle.hg_model.specs.Reading as hg
use Rattle.hg_model.specs.Reading.{bundle_reading}
use Rattle.git_model.specs.Order.{IsOrder}
use Rattle.git_model.specs.Stream.{Placed, stream_reading}
use Rattle.pair_model.specs.Block.{Block}
use Rattle.history_model.specs.Pull as model
use Rattle.history_model.specs.Pull.{BringBlocks, CommitsBring, known_with, objects_with, changesets_among, revisions_among, ancestries, saved_ids}

-- so many steps for each of these blocks, and for one more
abbrev pub AreFew : ℕ → List Block → ℕ → Type 0
AreFew before new now = now ≤ before + 18 * suc (length new)

-- of the changesets of the bundle the first ones brought these blocks, and one more was asked at most
pub record AsksHg (s : model.State) (bundle : Bytes) (before now : ℕ) : Type 0 where
  pub arrivals : List hg.Arrival
  pub reads : bundle_reading s.revisions bundle ≡ Ok arrivals
  pub first : List hg.Arrival
  pub others : List hg.Arrival
  pub split : changesets_among arrivals ≡ first ++ others
  pub new : List Block
  pub brings : BringBlocks (known_with s arrivals) s.objects s.blocks (revisions_among first) new
  pub few : AreFew before new now

-- the same of the commits of a stream
pub record AsksGit (s : model.State) (stream : Bytes) (before now : ℕ) : Type 0 where
  pub came : List Placed
  pub reads : stream_reading s.objects stream ≡ Ok came
  pub ordered : List Id
  pub order : IsOrder (ancestries came) (saved_ids s) ordered
  pub first : List Id
  pub others : List Id
  pub split : ordered ≡ first ++ others
  pub new : List Block
  pub brings : CommitsBring s.revisions (objects_with s came) s.blocks first new
  pub few : AreFew before new now

-- of a pull that fails: nothing was asked, or so often
abbrev pub StepsHg : model.State → Bytes → ℕ → ℕ → Type 0
StepsHg s bundle before now = (now ≡ before) ⊎ AsksHg s bundle before now

abbrev pub StepsGit : model.State → Bytes → ℕ → ℕ → Type 0
StepsGit s stream before now = (now ≡ before) ⊎ AsksGit s stream before now
