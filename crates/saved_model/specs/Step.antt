-- A pull over a saved history: what it brings, what it writes and the next one, or the first fault. The limits and the rule for tags
-- are this project's own.
use Rattle.std.specs.Prelude.{◌≡◌, ◌⊎◌, ℕ, Bool, not, ◌&&◌, if◌then◌else◌, List, [], ◌∷◌, ◌++◌, map, filter, Option, Some, None, option_map, find, Ok, bytes_eq}
use Rattle.std.specs.List.{flat_map}
use Rattle.text_model.specs.Lists.{first_of_each, only_new}
use Rattle.text_model.specs.Text.{Bytes}
use Rattle.text_model.specs.Id.{Id}
use Rattle.text_model.specs.Fault.{FaultName, Refusal, refusal}
use Rattle.text_model.specs.Fault as fault
use Rattle.hg_model.specs.Revision.{Changesets, Manifests, FilesAt, Revision, known_after_all}
use Rattle.hg_model.specs.Reading.{Arrival, bundle_reading}
use Rattle.git_model.specs.Object.{Object, same_object, objects_after_all}
use Rattle.git_model.specs.Order.{has}
use Rattle.git_model.specs.Stream.{Placed, stream_reading}
use Rattle.view_model.specs.View.{ChangesetView, CommitView}
use Rattle.view_model.specs.Dump.{of_group, paths_in, brought_by, revisions_in, objects_in, hg_increment, git_increment}
use Rattle.pair_model.specs.Block.{Block, node_of, id_of, changesets_in, commits_in}
use Rattle.history_model.specs.Pull.{is_changesets, State, objects_among, place_of, BundleBrings, StreamBrings, PullHgRefuses, PullGitRefuses}
use Rattle.state_model.specs.Kept.{Kept, is_tag, ids_of}
use Rattle.state_model.specs.Tags.{leads, has_target}
use Rattle.state_model.specs.Saved.{passes_limit}

-- ---- what is known where a history is saved: what the next command reads from its text, in the order in which it comes

-- revisions in the order in which a bundle has them
unfoldable pub in_written_order : List Revision → List Revision
in_written_order rs = of_group Changesets rs ++ (of_group Manifests rs ++ flat_map (λ path. of_group (FilesAt path) rs) (paths_in rs))

-- the revisions that the bundle of a whole history brings
abbrev pub dump_revisions : List ChangesetView → List Revision
dump_revisions changesets = in_written_order (brought_by [] changesets)

-- the objects that the stream of a whole history brings
abbrev pub dump_objects : List CommitView → List Object
dump_objects commits = only_new same_object [] (objects_in commits)

-- the revisions of its changesets, the objects of its commits, and its tags
abbrev pub known_of : Kept → State
known_of s = record {
  revisions = known_after_all [] (dump_revisions (changesets_in s.blocks));
  objects = objects_after_all [] (dump_objects (commits_in s.blocks) ++ s.tags);
  blocks = s.blocks;
}

-- a pull, with its input
pub data Pull : Type 0 where
  OfBundle : (bundle : Bytes) → Pull
  OfStream : (stream : Bytes) → Pull

-- ---- tags

-- the tags of a stream, each once
abbrev pub tags_came : List Placed → List Object
tags_came came = first_of_each same_object (filter is_tag (objects_among came))

-- the tags that are newly kept, in the order of the stream
abbrev pub new_tags : List Object → List Placed → List Object
new_tags kept came = filter (λ o. not (has (ids_of kept) o.id) && leads (ids_of kept) (tags_came came) o) (tags_came came)

-- a tag whose target isn't there
abbrev pub lacks_target : List Block → List Object → List Placed → Placed → Bool
lacks_target blocks kept came o = is_tag o.object && not (has_target (map id_of blocks) (ids_of kept) (tags_came came) o.object)

-- ---- limits

-- with these blocks behind its own
abbrev pub with_blocks : Kept → List Block → Kept
with_blocks s new = record { blocks = s.blocks ++ new; tags = s.tags }

-- with these tags behind its own
abbrev pub with_tags : Kept → List Object → Kept
with_tags s tags = record { blocks = s.blocks; tags = s.tags ++ tags }

-- the first new block with which the state up to it passes a limit
unfoldable pub first_large_block : Kept → List Block → Option Block
first_large_block s [] = None
first_large_block s (b ∷ bs) = if passes_limit (with_blocks s (b ∷ [])) then Some b else first_large_block (with_blocks s (b ∷ [])) bs

-- the first new tag with which it does
unfoldable pub first_large_tag : Kept → List Object → Option Object
first_large_tag s [] = None
first_large_tag s (t ∷ ts) = if passes_limit (with_tags s (t ∷ [])) then Some t else first_large_tag (with_tags s (t ∷ [])) ts

-- the place at which a changeset came first
abbrev pub place_of_node : List Arrival → Id → Option ℕ
place_of_node arrivals node = option_map (λ a. a.at) (find (λ a. is_changesets (a.revision).group && bytes_eq (a.revision).node node) arrivals)

-- ---- one pull

-- the bundle is accepted: these are the new blocks
pub record AcceptsBundle (s : Kept) (bundle : Bytes) (new : List Block) : Type 0 where
  pub arrivals : List Arrival
  pub reads : bundle_reading (known_of s).revisions bundle ≡ Ok arrivals
  pub brings : BundleBrings (known_of s) arrivals new
  pub small : first_large_block s new ≡ None

-- the same of a stream, with the tags that are newly kept
pub record AcceptsStream (s : Kept) (stream : Bytes) (new : List Block) (tags : List Object) : Type 0 where
  pub came : List Placed
  pub reads : stream_reading (known_of s).objects stream ≡ Ok came
  pub brings : StreamBrings (known_of s) came new
  pub targets : find (lacks_target (s.blocks ++ new) s.tags came) came ≡ None
  pub tags_are : tags ≡ new_tags s.tags came
  pub small : first_large_block s new ≡ None
  pub small_tags : first_large_tag (with_blocks s new) tags ≡ None

-- the pull is accepted: these are the new blocks and the tags that are newly kept
abbrev pub Accepts : Kept → Pull → List Block → List Object → Type 0
Accepts s (OfBundle bundle) new tags = AcceptsBundle s bundle new × (tags ≡ [])
Accepts s (OfStream stream) new tags = AcceptsStream s stream new tags

-- the state passes a limit with a new block
pub record BundleIsTooLarge (s : Kept) (bundle : Bytes) (why : Refusal) : Type 0 where
  pub arrivals : List Arrival
  pub reads : bundle_reading (known_of s).revisions bundle ≡ Ok arrivals
  pub new : List Block
  pub brings : BundleBrings (known_of s) arrivals new
  pub block : Block
  pub first : first_large_block s new ≡ Some block
  pub at : ℕ
  pub place : place_of_node arrivals (node_of block) ≡ Some at
  pub is : why ≡ refusal fault.StateLimit (node_of block) at

-- a tag has no target, or else the state passes a limit with a new block or a new tag
pub record StreamIsTooLarge (s : Kept) (stream : Bytes) (why : Refusal) : Type 0 where
  pub came : List Placed
  pub reads : stream_reading (known_of s).objects stream ≡ Ok came
  pub new : List Block
  pub brings : StreamBrings (known_of s) came new
  pub cause :
      ((o : Placed) × (find (lacks_target (s.blocks ++ new) s.tags came) came ≡ Some o) × (why ≡ refusal fault.ObjectUnknown (o.object).id o.at))
      ⊎ ((find (lacks_target (s.blocks ++ new) s.tags came) came ≡ None) × (b : Block) × (at : ℕ) × (first_large_block s new ≡ Some b)
      × (place_of came (id_of b) ≡ Some at) × (why ≡ refusal fault.StateLimit (id_of b) at))
      ⊎ ((find (lacks_target (s.blocks ++ new) s.tags came) came ≡ None) × (first_large_block s new ≡ None) × (t : Object) × (at : ℕ)
      × (first_large_tag (with_blocks s new) (new_tags s.tags came) ≡ Some t) × (place_of came t.id ≡ Some at) × (why ≡ refusal fault.StateLimit t.id at))

-- the first fault of a pull
abbrev pub Refuses : Kept → Pull → Refusal → Type 0
Refuses s (OfBundle bundle) why = PullHgRefuses (known_of s) bundle why ⊎ BundleIsTooLarge s bundle why
Refuses s (OfStream stream) why = PullGitRefuses (known_of s) stream why ⊎ StreamIsTooLarge s stream why

-- the history behind a pull that is accepted: the new blocks and tags behind those that were there
abbrev pub next_of : Kept → List Block → List Object → Kept
next_of s new tags = with_tags (with_blocks s new) tags

-- what a pull writes: the new blocks for the other side
abbrev pub made_of : Kept → Pull → List Block → Bytes
made_of s (OfBundle bundle) new = git_increment (commits_in s.blocks) (commits_in new)
made_of s (OfStream stream) new = hg_increment (revisions_in (changesets_in (s.blocks ++ new))) (changesets_in s.blocks) (changesets_in new)

-- the next history and what is written
abbrev pub Steps : Kept → Pull → Kept → Bytes → Type 0
Steps s pull next made = (new : List Block) × (tags : List Object) × Accepts s pull new tags × (next ≡ next_of s new tags) × (made ≡ made_of s pull new)
