-- Changesets that came, and the blocks that they get.
use Rattle.std.specs.Prelude.{◌≡◌, ◌⊎◌, ℕ, false, true, List, [], ◌∷◌, ◌++◌, map, Some, None, IsTrue}
use Rattle.text_model.specs.Lists.{Each, In, SomeOf}
use Rattle.text_model.specs.Fault.{FaultName, Refusal, refusal}
use Rattle.hg_model.specs.Revision.{Revision, Changesets, revision_of, known_after, known_after_all}
use Rattle.hg_model.specs.Reading.{Arrival}
use Rattle.view_model.specs.Dump.{objects_in, revisions_in}
use Rattle.pair_model.specs.Block.{Block, block_of_node, changesets_in, commits_in}
use Rattle.partner_model.specs.Given.{has_late_file}
use Rattle.history_model.specs.Pull.{BringBlocks, ChangesetRefused, GivesBlock, IsKnownLink, changesets_among, revisions_among, is_changesets, is_saved}
use Rattle.hg_dump.specs.Refers.{RefersTo}
use Rattle.pair_known.specs.Drafts.{IsRowKnown}
use Rattle.commit_rule.specs.Parts.{HasStoredBlob}
use Rattle.hg_bundle.specs.declared.arrival.Arrival as listed
use Rattle.hg_bundle.specs.Arrivals.{arrival_of, kind_of, path_of}
use Rattle.pair_state.specs.declared.state_parts.StateParts.{StateParts}
use Rattle.pair_state.specs.Blocks.{IsStateOf}
use Rattle.pair_state.specs.AllBlocks.{stands_in}
use Rattle.pair_state.specs.Push.{HaveSame}
use Rattle.pull_outcome.specs.Steps.{AreFew}
use Rattle.pull_bundle.specs.declared.taking.Taking.{Taking}

-- each file revision of the blocks' changesets has its parents in changesets of the blocks
abbrev pub AreFilesInTime : List Block → Type 0
AreFilesInTime blocks = Each (λ b. has_late_file blocks (b.changeset).rows ≡ false) blocks

-- the state stands for these blocks, to whose revisions is referred, and none of which has a file whose parent is late; the rows that are near are of its stores
pub record IsTaking (t : Taking) (blocks : List Block) : Type 0 where
  pub state : IsStateOf t.state blocks
  pub referred : RefersTo t.referred (revisions_in (changesets_in blocks))
  pub in_time : AreFilesInTime blocks
  pub near : Each (IsRowKnown (t.state).known.hg) t.near
  pub stored : Each (HasStoredBlob (t.state).known.git) t.near

-- each changeset among the revisions stands in a block, as its changeset or as a link, or has the form of a link
abbrev pub AreStanding : List Revision → List Block → List Revision → Type 0
AreStanding known blocks rs = Each (λ r. r.group ≡ Changesets → IsTrue (stands_in blocks r.node) ⊎ IsKnownLink known r.node) rs

-- a revision came behind those that were known before it, of which each changeset stands in a block or is a link; others came later
pub record Comes (t : Taking) (blocks : List Block) (before : List Revision) (r : Revision) : Type 0 where
  pub taking : IsTaking t blocks
  pub saved : AreStanding (t.state).known.hg blocks before
  pub later : List Revision
  pub store : (t.state).known.hg ≡ known_after before r ++ later

-- a changeset that is known, isn't that of a block and isn't a link
pub record IsNew (t : Taking) (blocks : List Block) (r : Revision) : Type 0 where
  pub taking : IsTaking t blocks
  pub free : block_of_node blocks r.node ≡ None
  pub found : Revision
  pub is_held : revision_of (t.state).known.hg Changesets r.node ≡ Some found
  pub no_link : ¬ (IsKnownLink (t.state).known.hg r.node)

-- a changeset got its block
pub record GetsBlock (t next : Taking) (blocks : List Block) (r : Revision) : Type 0 where
  pub block : Block
  pub gives : GivesBlock (t.state).known.hg (t.state).known.git blocks r.node block
  pub taking : IsTaking next (blocks ++ block ∷ [])
  pub revisions : (next.state).known.hg ≡ (t.state).known.hg
  pub objects : HaveSame (next.state).known.git ((t.state).known.git ++ objects_in (commits_in (block ∷ [])))
  pub tags : (next.state).tags ≡ (t.state).tags
  pub names : (next.state).names ≡ (t.state).names

-- these changesets have their blocks, behind the others
pub record Takes (t next : Taking) (blocks : List Block) (rs : List Revision) : Type 0 where
  pub new : List Block
  pub brings : BringBlocks (t.state).known.hg (t.state).known.git blocks rs new
  pub taking : IsTaking next (blocks ++ new)
  pub revisions : (next.state).known.hg ≡ (t.state).known.hg
  pub objects : HaveSame (next.state).known.git ((t.state).known.git ++ objects_in (commits_in new))
  pub tags : (next.state).tags ≡ (t.state).tags
  pub names : (next.state).names ≡ (t.state).names

-- a changeset in no block is refused by this name
pub record IsRefusedNew (t : Taking) (blocks : List Block) (r : Revision) (name : FaultName) : Type 0 where
  pub no_link : ¬ (IsKnownLink (t.state).known.hg r.node)
  pub is_new : is_saved blocks r.node ≡ false
  pub fault : ChangesetRefused (t.state).known.hg (t.state).known.git blocks r.node name

-- ---- what came with a bundle

-- the changesets among what came have their blocks, and so has each changeset that is known then and is no link
pub record TakesArrivals (t next : Taking) (base : List Revision) (blocks : List Block) (came : List Arrival) : Type 0 where
  pub takes : Takes t next blocks (revisions_among (changesets_among came))
  pub saved : AreStanding (t.state).known.hg (blocks ++ takes.new) (known_after_all base (revisions_among came))

-- one of those that came is refused
pub record IsRefusedArrival (t : Taking) (blocks : List Block) (a : Arrival) (why : Refusal) : Type 0 where
  pub changeset : is_changesets (a.revision).group ≡ true
  pub name : FaultName
  pub refused : IsRefusedNew t blocks a.revision name
  pub is : why ≡ refusal name (a.revision).node a.at

-- The store holds what is known after all that came, and each changeset that was known before has its block.
pub record Starts (t : Taking) (base : List Revision) (blocks : List Block) (list : List listed.Arrival) (came : List Arrival) : Type 0 where
  pub are : list ≡ map arrival_of came
  pub taking : IsTaking t blocks
  pub saved : AreStanding (t.state).known.hg blocks base
  pub store : (t.state).known.hg ≡ known_after_all base (revisions_among came)

-- the first of the changesets that came got these blocks, and one more was asked at most
pub record SomeTaken (t : Taking) (blocks : List Block) (came : List Arrival) (before now : ℕ) : Type 0 where
  pub first : List Arrival
  pub others : List Arrival
  pub split : changesets_among came ≡ first ++ others
  pub new : List Block
  pub brings : BringBlocks (t.state).known.hg (t.state).known.git blocks (revisions_among first) new
  pub few : AreFew before new now

-- ---- the reading

-- the entry is listed as one of this group and node
abbrev pub IsListed : Revision → listed.Arrival → Type 0
IsListed r e = (e.kind ≡ kind_of r.group) × (e.path ≡ path_of r.group) × (e.node ≡ r.node)

-- The bundle was read into the state's store. Each revision that wasn't known before is listed as fresh.
pub record HasRead (s next : StateParts) (list : List listed.Arrival) (came : List Arrival) : Type 0 where
  pub are : list ≡ map arrival_of came
  pub store : next.known.hg ≡ known_after_all s.known.hg (revisions_among came)
  pub fresh : Each (λ r. In r s.known.hg ⊎ SomeOf list (λ e. (e.fresh ≡ true) × IsListed r e)) next.known.hg
  pub git : next.known.git ≡ s.known.git
  pub state : (blocks : List Block) → IsStateOf s blocks → IsStateOf next blocks
  pub blocks : next.blocks ≡ s.blocks
  pub tags : next.tags ≡ s.tags
  pub names : next.names ≡ s.names
