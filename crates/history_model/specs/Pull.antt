-- One pull over a state: what it writes, or the first fault for which it is refused. The names, their order and
-- what is written are this project's own rule.
use Rattle.std.specs.Prelude.{◌≡◌, ◌≢◌, ◌⊎◌, ℕ, Bool, true, false, if◌then◌else◌, List, [], ◌∷◌, ◌++◌, map, filter, Option, Some, None, is_some, Ok, Err, IsTrue, IsSomeAnd, bytes_eq}
use Rattle.text_model.specs.Lists.{Each, SomeOf, IsFirstThat}
use Rattle.text_model.specs.Text.{Bytes}
use Rattle.text_model.specs.Id.{Id, null, commit, same_kind}
use Rattle.text_model.specs.Fault.{FaultName, Refusal, refusal}
use Rattle.text_model.specs.Fault as fault
use Rattle.hg_model.specs.Changeset.{Changeset, IsChangesetText}
use Rattle.hg_model.specs.Manifest.{ManifestEntry, IsManifestText}
use Rattle.hg_model.specs.Revision.{Group, Changesets, Manifests, FilesAt, Revision, revision_of, knows, known_after_all}
use Rattle.hg_model.specs.Reading.{Arrival, bundle_reading}
use Rattle.git_model.specs.Commit.{Commit, IsCommitText, parent_ids}
use Rattle.git_model.specs.Object.{Object, object_at, objects_after_all}
use Rattle.git_model.specs.Order.{Ancestry, IsOrder, IsStuckAt}
use Rattle.git_model.specs.Stream.{Placed, stream_reading}
use Rattle.git_model.specs.Unfold.{walk_fault}
use Rattle.view_model.specs.View.{ChangesetView, CommitView, commit_objects, paths_of, has_clash, ChangesetFits, CommitFits}
use Rattle.view_model.specs.Held.{IsChangesetHeld, IsCommitHeld}
use Rattle.view_model.specs.Dump.{revisions_in, objects_in, hg_increment, git_increment}
use Rattle.pair_model.specs.Block.{Block, id_of, block_of_node, view_at, changesets_in, commits_in}
use Rattle.pair_model.specs.Octopus.{is_link}
use Rattle.partner_model.specs.Partner.{OfHg, OfGit, IsHeldView}
use Rattle.partner_model.specs.Given.{IsBlockFor, IsOnLink, IsTooDeep, has_late_file, has_late_manifest}
use Rattle.partner_model.specs.Clash.{commit_side_collides, changeset_side_collides, MeetsCollision}

-- the known revisions and objects of both sides, and the history that they make
pub record State : Type 0 where
  pub revisions : List Revision
  pub objects : List Object
  pub blocks : List Block

abbrev pub empty_state : State
empty_state = record { revisions = []; objects = []; blocks = [] }

-- The name is given where the first statement holds; where it doesn't, the later ones are asked.
abbrev pub Unless : Type 0 → FaultName → (FaultName → Type 0) → FaultName → Type 0
Unless Holds name Later found = (Holds × (found ≡ name)) ⊎ ((¬ Holds) × Later found)

abbrev pub Nothing : FaultName → Type 0
Nothing found = ⊥

-- ---- one changeset of a bundle

-- the changeset names a manifest that isn't known
pub record LacksManifest (known : List Revision) (r : Revision) : Type 0 where
  pub fields : Changeset
  pub text : IsChangesetText r.text fields
  pub some : fields.manifest ≢ null
  pub unknown : knows known Manifests fields.manifest ≡ false

-- a line of the changeset's manifest names a file revision that isn't known; the null manifest has no lines
pub record LacksFile (known : List Revision) (r : Revision) : Type 0 where
  pub fields : Changeset
  pub text : IsChangesetText r.text fields
  pub some : fields.manifest ≢ null
  pub manifest : Revision
  pub is_held : revision_of known Manifests fields.manifest ≡ Some manifest
  pub entries : List ManifestEntry
  pub lines : IsManifestText manifest.text entries
  pub unknown : SomeOf entries (λ e. knows known (FilesAt e.path) e.node ≡ false)

abbrev pub is_saved : List Block → Id → Bool
is_saved blocks node = is_some (block_of_node blocks node)

-- why the block of a member is refused: its partner is too large, a parent of a file or of the manifest comes too late, or an id is known otherwise
abbrev pub BlockRefused : Type 0 → Type 0 → List Block → Block → FaultName → Type 0
BlockRefused IsLarge Collides blocks b =
    Unless IsLarge fault.PairLimit
    (Unless (IsTrue (has_late_file blocks (b.changeset).rows)) fault.FileParentLate
    (Unless (IsTrue (has_late_manifest blocks (b.changeset).manifest)) fault.ManifestParentLate
    (Unless Collides fault.Collision Nothing)))

-- Why a changeset with all its files is refused. A collision of bodies that stands in the way to its depth is told before that.
abbrev pub ViewRefused : List Revision → List Object → List Block → ChangesetView → FaultName → Type 0
ViewRefused known objects blocks h =
    Unless (IsTrue (has_clash (paths_of h.rows))) fault.PathClash
    (Unless (IsOnLink blocks (IsHeldView known) h) fault.ParentIsLink
    (Unless (MeetsCollision blocks (IsHeldView known) objects (OfHg h)) fault.Collision
    (Unless (IsTooDeep blocks (IsHeldView known) (OfHg h)) fault.NestLimit
    (λ found. (b : Block) × IsBlockFor blocks (IsHeldView known) (OfHg h) b
    × BlockRefused (¬ (CommitFits b.commit)) (IsTrue (commit_side_collides objects blocks b)) blocks b found))))

-- a changeset with all its files that isn't refused, and its block
pub record ViewPasses (known : List Revision) (objects : List Object) (blocks : List Block) (h : ChangesetView) (b : Block) : Type 0 where
  pub no_clash : has_clash (paths_of h.rows) ≡ false
  pub on_no_link : ¬ (IsOnLink blocks (IsHeldView known) h)
  pub no_collision : ¬ (MeetsCollision blocks (IsHeldView known) objects (OfHg h))
  pub not_deep : ¬ (IsTooDeep blocks (IsHeldView known) (OfHg h))
  pub block : IsBlockFor blocks (IsHeldView known) (OfHg h) b
  pub fits : CommitFits b.commit
  pub files_in_time : has_late_file blocks h.rows ≡ false
  pub manifest_in_time : has_late_manifest blocks h.manifest ≡ false
  pub apart : commit_side_collides objects blocks b ≡ false

-- why the changeset with this node is refused, which is known
abbrev pub ChangesetRefused : List Revision → List Object → List Block → Id → FaultName → Type 0
ChangesetRefused known objects blocks node found =
    (r : Revision) × (revision_of known Changesets node ≡ Some r)
    × Unless (LacksManifest known r) fault.ManifestUnknown
    (Unless (LacksFile known r) fault.FileUnknown
    (λ found. (h : ChangesetView) × IsChangesetHeld known node h × ViewRefused known objects blocks h found)) found

-- the block of the changeset with this node, which is known and isn't refused
pub record GivesBlock (known : List Revision) (objects : List Object) (blocks : List Block) (node : Id) (b : Block) : Type 0 where
  pub view : ChangesetView
  pub is_held : IsChangesetHeld known node view
  pub passes : ViewPasses known objects blocks view b

-- the known changeset with this node has the form of a link
pub record IsKnownLink (known : List Revision) (node : Id) : Type 0 where
  pub revision : Revision
  pub is_held : revision_of known Changesets node ≡ Some revision
  pub fields : Changeset
  pub text : IsChangesetText revision.text fields
  pub link : IsTrue (is_link fields revision.p revision.q)

-- The blocks that changesets bring, one behind another. A link brings none, nor does one that stands in a block.
unfoldable pub BringBlocks : List Revision → List Object → List Block → List Revision → List Block → Type 0
BringBlocks known objects blocks [] new = new ≡ []
BringBlocks known objects blocks (r ∷ rs) new =
    (IsKnownLink known r.node × BringBlocks known objects blocks rs new)
    ⊎ ((¬ (IsKnownLink known r.node)) × IsTrue (is_saved blocks r.node) × BringBlocks known objects blocks rs new)
    ⊎ ((¬ (IsKnownLink known r.node)) × (is_saved blocks r.node ≡ false)
    × (b : Block) × (rest : List Block) × (new ≡ b ∷ rest) × GivesBlock known objects blocks r.node b
    × BringBlocks known (objects ++ commit_objects b.commit) (blocks ++ b ∷ []) rs rest)

abbrev pub is_changesets : Group → Bool
is_changesets Changesets = true
is_changesets _ = false

-- the entries of a bundle that are changesets
abbrev pub changesets_among : List Arrival → List Arrival
changesets_among arrivals = filter (λ a. is_changesets (a.revision).group) arrivals

abbrev pub revisions_among : List Arrival → List Revision
revisions_among arrivals = map (λ a. a.revision) arrivals

-- the first changeset is refused that has no block behind those before it
pub record IsChangesetRefusal (known : List Revision) (s : State) (came : List Arrival) (why : Refusal) : Type 0 where
  pub before : List Arrival
  pub refused : Arrival
  pub after : List Arrival
  pub split : came ≡ before ++ refused ∷ after
  pub new : List Block
  pub brings : BringBlocks known s.objects s.blocks (revisions_among before) new
  pub no_link : ¬ (IsKnownLink known (refused.revision).node)
  pub is_new : is_saved (s.blocks ++ new) (refused.revision).node ≡ false
  pub name : FaultName
  pub fault : ChangesetRefused known (s.objects ++ objects_in (commits_in new)) (s.blocks ++ new) (refused.revision).node name
  pub is : why ≡ refusal name (refused.revision).node refused.at

-- a known changeset names this manifest, or its manifest, which is known, has this line
pub record RefersTo (known : List Revision) (c r : Revision) : Type 0 where
  pub changeset : c.group ≡ Changesets
  pub fields : Changeset
  pub text : IsChangesetText c.text fields
  pub some : fields.manifest ≢ null
  pub refers : ((r.group ≡ Manifests) × (r.node ≡ fields.manifest))
      ⊎ ((path : Bytes) × (r.group ≡ FilesAt path) × (m : Revision) × (revision_of known Manifests fields.manifest ≡ Some m)
      × (entries : List ManifestEntry) × IsManifestText m.text entries × SomeOf entries (λ e. (e.path ≡ path) × (e.node ≡ r.node)))

-- a manifest or a file revision that is new, and to which no known changeset refers, be it a link
pub record IsOrphan (known : List Revision) (a : Arrival) : Type 0 where
  pub fresh : a.fresh ≡ true
  pub no_changeset : is_changesets (a.revision).group ≡ false
  pub referred : ¬ (SomeOf known (λ c. RefersTo known c a.revision))

-- a link that stands in no block
abbrev pub Dangles : List Revision → List Block → Arrival → Type 0
Dangles known blocks a = IsTrue (is_changesets (a.revision).group) × IsKnownLink known (a.revision).node × (view_at (changesets_in blocks) (a.revision).node ≡ None)

-- ---- a bundle over a state

-- the revisions that are known when a bundle is read
abbrev pub known_with : State → List Arrival → List Revision
known_with s arrivals = known_after_all s.revisions (revisions_among arrivals)

-- each changeset of the bundle that is no link has its block, each link stands in one, and each other entry belongs to a changeset
pub record BundleBrings (s : State) (arrivals : List Arrival) (new : List Block) : Type 0 where
  pub brings : BringBlocks (known_with s arrivals) s.objects s.blocks (revisions_among (changesets_among arrivals)) new
  pub no_orphan : Each (λ a. ¬ (IsOrphan (known_with s arrivals) a)) arrivals
  pub no_dangling : Each (λ a. ¬ (Dangles (known_with s arrivals) (s.blocks ++ new) a)) arrivals

-- the first entry that belongs to no changeset is refused, or else the first link that stands in no block
abbrev pub LeftOver : List Revision → List Block → List Arrival → Refusal → Type 0
LeftOver known blocks arrivals why =
    ((a : Arrival) × IsFirstThat (IsOrphan known) arrivals a × (why ≡ refusal fault.Orphan (a.revision).node a.at))
    ⊎ (Each (λ a. ¬ (IsOrphan known a)) arrivals × (a : Arrival) × IsFirstThat (Dangles known blocks) arrivals a × (why ≡ refusal fault.DanglingLink (a.revision).node a.at))

-- a changeset is refused, or else what is left over
abbrev pub BundleRefused : State → List Arrival → Refusal → Type 0
BundleRefused s arrivals why =
    IsChangesetRefusal (known_with s arrivals) s (changesets_among arrivals) why
    ⊎ ((new : List Block) × BringBlocks (known_with s arrivals) s.objects s.blocks (revisions_among (changesets_among arrivals)) new
    × LeftOver (known_with s arrivals) (s.blocks ++ new) arrivals why)

-- what a pull of a bundle writes: the stream of the commits of the new blocks, without what the old ones have
pub record PullHgMakes (s : State) (bundle output : Bytes) : Type 0 where
  pub arrivals : List Arrival
  pub reads : bundle_reading s.revisions bundle ≡ Ok arrivals
  pub new : List Block
  pub brings : BundleBrings s arrivals new
  pub is : output ≡ git_increment (commits_in s.blocks) (commits_in new)

-- the fault for which a pull of a bundle is refused
abbrev pub PullHgRefuses : State → Bytes → Refusal → Type 0
PullHgRefuses s bundle why =
    (bundle_reading s.revisions bundle ≡ Err why)
    ⊎ ((arrivals : List Arrival) × (bundle_reading s.revisions bundle ≡ Ok arrivals) × BundleRefused s arrivals why)

-- ---- one commit of a stream

-- each text of the changesets of a block is within its limit
abbrev pub ChangesetsFit : Block → Type 0
ChangesetsFit b = Each ChangesetFits (b.links ++ b.changeset ∷ [])

-- Why a commit with all its files is refused. Its own bodies are stored; those of its unmarking may be a parent's.
abbrev pub FilesRefused : List Revision → List Object → List Block → CommitView → FaultName → Type 0
FilesRefused known objects blocks c =
    Unless (MeetsCollision blocks (IsHeldView known) objects (OfGit c)) fault.Collision
    (Unless (IsTooDeep blocks (IsHeldView known) (OfGit c)) fault.NestLimit
    (λ found. (b : Block) × IsBlockFor blocks (IsHeldView known) (OfGit c) b
    × BlockRefused (¬ (ChangesetsFit b)) (IsTrue (changeset_side_collides known blocks b)) blocks b found))

-- a commit with all its files that isn't refused, and its block
pub record FilesPass (known : List Revision) (objects : List Object) (blocks : List Block) (c : CommitView) (b : Block) : Type 0 where
  pub no_collision : ¬ (MeetsCollision blocks (IsHeldView known) objects (OfGit c))
  pub not_deep : ¬ (IsTooDeep blocks (IsHeldView known) (OfGit c))
  pub block : IsBlockFor blocks (IsHeldView known) (OfGit c) b
  pub fits : ChangesetsFit b
  pub files_in_time : has_late_file blocks (b.changeset).rows ≡ false
  pub manifest_in_time : has_late_manifest blocks (b.changeset).manifest ≡ false
  pub apart : changeset_side_collides known blocks b ≡ false

-- the walk through a commit's tree is refused
pub record WalkRefused (objects : List Object) (id : Id) (found : FaultName) : Type 0 where
  pub object : Object
  pub is_held : object_at objects id ≡ Some object
  pub value : Commit
  pub text : IsCommitText object.content value
  pub fault : IsSomeAnd (walk_fault objects value.tree_id) (λ walk. walk.name ≡ found)

-- why a known commit is refused
abbrev pub CommitRefused : List Revision → List Object → List Block → Id → FaultName → Type 0
CommitRefused known objects blocks id found =
    WalkRefused objects id found
    ⊎ ((c : CommitView) × IsCommitHeld objects id c × (walk_fault objects (c.value).tree_id ≡ None) × FilesRefused known objects blocks c found)

-- the block of a known commit that isn't refused
pub record CommitGives (known : List Revision) (objects : List Object) (blocks : List Block) (id : Id) (b : Block) : Type 0 where
  pub view : CommitView
  pub is_held : IsCommitHeld objects id view
  pub walks : walk_fault objects (view.value).tree_id ≡ None
  pub passes : FilesPass known objects blocks view b

-- the blocks that commits bring, one behind another
unfoldable pub CommitsBring : List Revision → List Object → List Block → List Id → List Block → Type 0
CommitsBring known objects blocks [] new = new ≡ []
CommitsBring known objects blocks (id ∷ ids) new =
    (b : Block) × (rest : List Block) × (new ≡ b ∷ rest) × CommitGives known objects blocks id b
    × CommitsBring (known_after_all known (revisions_in (b.links ++ b.changeset ∷ []))) objects (blocks ++ b ∷ []) ids rest

-- ---- a stream over a state

abbrev pub objects_among : List Placed → List Object
objects_among came = map (λ o. o.object) came

-- the objects that are known when a stream is read
abbrev pub objects_with : State → List Placed → List Object
objects_with s came = objects_after_all s.objects (objects_among came)

abbrev pub is_commit : Placed → Bool
is_commit o = same_kind (o.object).kind commit

abbrev pub ancestry_of : Placed → Ancestry
ancestry_of o = record { id = (o.object).id; parents = parent_ids (o.object).content }

-- the commits that came, with their parents
abbrev pub ancestries : List Placed → List Ancestry
ancestries came = map ancestry_of (filter is_commit came)

abbrev pub saved_ids : State → List Id
saved_ids s = map id_of s.blocks

-- the place at which an object came first
abbrev pub place_of : List Placed → Id → Option ℕ
place_of [] id = None
place_of (o ∷ os) id = if bytes_eq (o.object).id id then Some o.at else place_of os id

-- the first commit, in the order in which commits arrive, is refused that has no block behind those before it
pub record IsCommitRefusal (s : State) (came : List Placed) (ordered : List Id) (why : Refusal) : Type 0 where
  pub before : List Id
  pub refused : Id
  pub after : List Id
  pub split : ordered ≡ before ++ refused ∷ after
  pub new : List Block
  pub brings : CommitsBring s.revisions (objects_with s came) s.blocks before new
  pub name : FaultName
  pub fault : CommitRefused (known_after_all s.revisions (revisions_in (changesets_in new))) (objects_with s came) (s.blocks ++ new) refused name
  pub at : ℕ
  pub place : place_of came refused ≡ Some at
  pub is : why ≡ refusal name refused at

-- a commit is never reached since a parent lacks, or else a commit is refused
abbrev pub StreamRefused : State → List Placed → Refusal → Type 0
StreamRefused s came why =
    ((id : Id) × (at : ℕ) × IsStuckAt (ancestries came) (saved_ids s) id × (place_of came id ≡ Some at) × (why ≡ refusal fault.ParentUnknown id at))
    ⊎ ((ordered : List Id) × IsOrder (ancestries came) (saved_ids s) ordered × IsCommitRefusal s came ordered why)

-- each commit of the stream has its block
pub record StreamBrings (s : State) (came : List Placed) (new : List Block) : Type 0 where
  pub ordered : List Id
  pub order : IsOrder (ancestries came) (saved_ids s) ordered
  pub brings : CommitsBring s.revisions (objects_with s came) s.blocks ordered new

-- what a pull of a stream writes: the bundle of the changesets of the new blocks, without what the old ones have
pub record PullGitMakes (s : State) (stream output : Bytes) : Type 0 where
  pub came : List Placed
  pub reads : stream_reading s.objects stream ≡ Ok came
  pub new : List Block
  pub brings : StreamBrings s came new
  pub is : output ≡ hg_increment (known_after_all s.revisions (revisions_in (changesets_in new))) (changesets_in s.blocks) (changesets_in new)

-- the fault for which a pull of a stream is refused
abbrev pub PullGitRefuses : State → Bytes → Refusal → Type 0
PullGitRefuses s stream why =
    (stream_reading s.objects stream ≡ Err why)
    ⊎ ((came : List Placed) × (stream_reading s.objects stream ≡ Ok came) × StreamRefused s came why)
