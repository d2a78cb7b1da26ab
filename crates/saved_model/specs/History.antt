-- The history that a list of pulls leaves: one conversion of all members that the accepted pulls brought, each once.
use Rattle.std.specs.Prelude.{◌≡◌, ◌⊎◌, Option, Bool, false, List, [], ◌∷◌, ◌++◌, Ok, is_some, IsTrue}
use Rattle.text_model.specs.Lists.{In}
use Rattle.text_model.specs.Text.{Bytes}
use Rattle.text_model.specs.Id.{Id}
use Rattle.text_model.specs.Fault.{Refusal}
use Rattle.hg_model.specs.Revision.{Revision}
use Rattle.hg_model.specs.Reading.{Arrival, bundle_reading}
use Rattle.git_model.specs.Object.{Object}
use Rattle.git_model.specs.Order.{IsOrder}
use Rattle.git_model.specs.Stream.{Placed, stream_reading}
use Rattle.view_model.specs.View.{ChangesetView, CommitView, changeset_node, commit_id}
use Rattle.view_model.specs.Held.{IsChangesetHeld, IsCommitHeld}
use Rattle.pair_model.specs.Block.{Block, block_of_node, block_of_id, changesets_in}
use Rattle.partner_model.specs.Partner.{OfHg, OfGit, IsHeldView}
use Rattle.partner_model.specs.Given.{IsBlockFor}
use Rattle.history_model.specs.Pull.{known_with, objects_with, revisions_among, changesets_among, IsKnownLink, ancestries, saved_ids}
use Rattle.state_model.specs.Kept.{State, Kept, kept_of}
use Rattle.state_model.specs.Saved.{SlotHolds}
use Rattle.saved_model.specs.Step.{Pull, OfBundle, OfStream, known_of, Accepts, Refuses, Steps, new_tags}

-- a member that came: a changeset with the revisions that were known then, among which its links are, or a commit
pub data Came : Type 0 where
  Changeset : (known : List Revision) (changeset : ChangesetView) → Came
  Commit : (commit : CommitView) → Came

-- what accepted pulls brought: members in their order, and kept tags
pub record Brought : Type 0 where
  pub members : List Came
  pub tags : List Object

-- before any pull
abbrev pub nothing : Brought
nothing = record { members = []; tags = [] }

-- what the first brought, and behind it the second
abbrev pub and_then : Brought → Brought → Brought
and_then a b = record { members = a.members ++ b.members; tags = a.tags ++ b.tags }

-- ---- the members of one pull

-- the changesets of these revisions that are no links
abbrev pub AreChangesetsOf : List Revision → List Revision → List Came → Type 0
AreChangesetsOf known [] members = members ≡ []
AreChangesetsOf known (r ∷ rs) members =
    (IsKnownLink known r.node × AreChangesetsOf known rs members)
    ⊎ ((¬ (IsKnownLink known r.node)) × (h : ChangesetView) × (rest : List Came) × IsChangesetHeld known r.node h × (members ≡ Changeset known h ∷ rest) × AreChangesetsOf known rs rest)

-- the commits of these ids
abbrev pub AreCommitsOf : List Object → List Id → List Came → Type 0
AreCommitsOf objects [] members = members ≡ []
AreCommitsOf objects (id ∷ ids) members = (c : CommitView) × (rest : List Came) × IsCommitHeld objects id c × (members ≡ Commit c ∷ rest) × AreCommitsOf objects ids rest

-- the changesets of a bundle over a saved history, in its order
pub record BundleMembers (s : Kept) (bundle : Bytes) (b : Brought) : Type 0 where
  pub arrivals : List Arrival
  pub reads : bundle_reading (known_of s).revisions bundle ≡ Ok arrivals
  pub members : AreChangesetsOf (known_with (known_of s) arrivals) (revisions_among (changesets_among arrivals)) b.members
  pub no_tags : b.tags ≡ []

-- the commits of a stream, in the order in which commits arrive, and the tags that are newly kept
pub record StreamMembers (s : Kept) (stream : Bytes) (b : Brought) : Type 0 where
  pub came : List Placed
  pub reads : stream_reading (known_of s).objects stream ≡ Ok came
  pub ordered : List Id
  pub order : IsOrder (ancestries came) (saved_ids (known_of s)) ordered
  pub members : AreCommitsOf (objects_with (known_of s) came) ordered b.members
  pub tags : b.tags ≡ new_tags s.tags came

-- the members of a pull that is accepted
abbrev pub MembersOf : Kept → Pull → Brought → Type 0
MembersOf s (OfBundle bundle) b = BundleMembers s bundle b
MembersOf s (OfStream stream) b = StreamMembers s stream b

-- ---- their blocks

-- the member stands in a block
abbrev pub is_in : List Block → Came → Bool
is_in blocks (Changeset known h) = is_some (block_of_node blocks (changeset_node h))
is_in blocks (Commit c) = is_some (block_of_id blocks (commit_id c))

-- the changeset stands in one of the blocks
abbrev pub IsOfBlocks : List Block → ChangesetView → Type 0
IsOfBlocks blocks h = In h (changesets_in blocks)

-- The block that a member gets over earlier blocks. A changeset's links are among the revisions that were known when it came, a commit's among
-- the changesets of the blocks.
abbrev pub IsBlockOfCame : List Block → Came → Block → Type 0
IsBlockOfCame blocks (Changeset known h) b = IsBlockFor blocks (IsHeldView known) (OfHg h) b
IsBlockOfCame blocks (Commit c) b = IsBlockFor blocks (IsOfBlocks blocks) (OfGit c) b

-- the blocks of members, each once, at its first member's place, behind earlier blocks
unfoldable pub AreBlocksOf : List Block → List Came → List Block → Type 0
AreBlocksOf blocks [] new = new ≡ []
AreBlocksOf blocks (m ∷ ms) new =
    (IsTrue (is_in blocks m) × AreBlocksOf blocks ms new)
    ⊎ ((is_in blocks m ≡ false) × (b : Block) × (rest : List Block) × (new ≡ b ∷ rest) × IsBlockOfCame blocks m b × AreBlocksOf (blocks ++ b ∷ []) ms rest)

-- ---- a list of pulls, the newest first

-- a history with its tags
abbrev pub kept : List Block → List Object → Kept
kept blocks tags = record { blocks = blocks; tags = tags }

-- What the accepted pulls brought. A pull is accepted where it has no fault over the blocks and tags of those before it.
unfoldable pub HaveBrought : List Pull → Brought → Type 0
HaveBrought [] b = b ≡ nothing
HaveBrought (pull ∷ before) b =
    (earlier : Brought) × HaveBrought before earlier × (blocks : List Block) × AreBlocksOf [] earlier.members blocks
    × (((new : List Block) × (tags : List Object) × Accepts (kept blocks earlier.tags) pull new tags
    × (more : Brought) × MembersOf (kept blocks earlier.tags) pull more × (b ≡ and_then earlier more))
    ⊎ ((why : Refusal) × Refuses (kept blocks earlier.tags) pull why × (b ≡ earlier)))

-- the blocks and the tags that the list of pulls leaves: one conversion of all that the accepted ones brought
pub record IsHistory (pulls : List Pull) (k : Kept) : Type 0 where
  pub brought : Brought
  pub accepted : HaveBrought pulls brought
  pub converted : AreBlocksOf [] brought.members k.blocks
  pub tags_are : k.tags ≡ brought.tags

-- ---- laws

-- Where a history is saved and then the next one, an accepted pull goes on, and a refused one changes nothing.
pub record HistoryGoesOn : Type 0 where
  pub accepted : (pulls : List Pull) (before after : Option Bytes) (s next : State) (pull : Pull) (made : Bytes) → SlotHolds before s → SlotHolds after next
      → IsHistory pulls (kept_of s) → Steps (kept_of s) pull (kept_of next) made → IsHistory (pull ∷ pulls) (kept_of next)
  pub refused : (pulls : List Pull) (k : Kept) (pull : Pull) (why : Refusal) → IsHistory pulls k → Refuses k pull why → IsHistory (pull ∷ pulls) k
