-- The block that a changeset or a commit gets over the blocks before it, and why it gets none. It is decided by the member's own depth, and the
-- partner is exactly the one that is marked or unmarked, with all bodies. These rules are this project's own; docs/faults.md names the refusals.
use Rattle.std.specs.Prelude.{◌≡◌, ℕ, zero, suc, ◌⊎◌, Bool, false, not, ◌&&◌, ◌||◌, List, is_none, IsTrue, bytes_eq}
use Rattle.std.specs.List.{list_any}
use Rattle.text_model.specs.Text.{Bytes}
use Rattle.text_model.specs.Id.{Id, is_null}
use Rattle.view_model.specs.View.{ManifestParents, NoManifest, Over, ChangesetView, CommitView, Row, file_node}
use Rattle.pair_model.specs.Block.{Block, block_of_node, changesets_in}
use Rattle.pair_model.specs.Octopus.{links_of}
use Rattle.partner_model.specs.Mark.{mark_commit, mark_changeset}
use Rattle.partner_model.specs.Partner.{Member, OfHg, OfGit, AreCommitParentsPaired, AreChangesetParentsPaired, Unmarks, UnmarksCommit, UnmarksChangeset, IsPlain, HasEvenDepth, HasOddDepth}

-- the partner of a changeset: the marked commit where its depth is even, else its unmarking
abbrev pub IsCommitFor : List Block → (ChangesetView → Type 0) → ChangesetView → CommitView → Type 0
IsCommitFor blocks Known h c =
    (HasEvenDepth blocks Known (OfHg h) × AreChangesetParentsPaired blocks h × (c ≡ mark_commit blocks h))
    ⊎ (HasOddDepth blocks Known (OfHg h) × UnmarksChangeset blocks Known h c)

-- the partner of a commit: the marked changeset where its depth is even, else its unmarking
abbrev pub IsChangesetFor : List Block → (ChangesetView → Type 0) → CommitView → ChangesetView → Type 0
IsChangesetFor blocks Known c h =
    (HasEvenDepth blocks Known (OfGit c) × AreCommitParentsPaired blocks c × (h ≡ mark_changeset blocks c))
    ⊎ (HasOddDepth blocks Known (OfGit c) × UnmarksCommit blocks c h)

-- the block of a commit and a changeset, with the links of the commit
abbrev pub block_with : List Block → ChangesetView → CommitView → Block
block_with blocks h c = record { links = links_of blocks c; changeset = h; commit = c }

-- the block that the member gets
abbrev pub IsBlockFor : List Block → (ChangesetView → Type 0) → Member → Block → Type 0
IsBlockFor blocks Known (OfHg h) b = (c : CommitView) × IsCommitFor blocks Known h c × (b ≡ block_with blocks h c)
IsBlockFor blocks Known (OfGit c) b = (h : ChangesetView) × IsChangesetFor blocks Known c h × (b ≡ block_with blocks h c)

-- ---- why a member gets none

-- a parent that is there has no partner: it is a link, for each changeset that is none has its block by then
abbrev pub is_link_parent : List Block → Id → Bool
is_link_parent blocks node = not (is_null node) && is_none (block_of_node blocks node)

-- a parent is a link, and unmarking gives no commit
abbrev pub IsOnLink : List Block → (ChangesetView → Type 0) → ChangesetView → Type 0
IsOnLink blocks Known h = IsTrue (is_link_parent blocks h.p || is_link_parent blocks h.q) × ((c : CommitView) → ¬ (UnmarksChangeset blocks Known h c))

-- the second member stands this many unmarkings below the first, none of which is of a plain member
unfoldable pub Peels : List Block → (ChangesetView → Type 0) → ℕ → Member → Member → Type 0
Peels blocks Known zero m k = m ≡ k
Peels blocks Known (suc i) m k = (¬ (IsPlain blocks m)) × (n : Member) × Unmarks blocks Known m n × Peels blocks Known i n k

-- A member of this depth or more is refused: of the two of a pair the deeper one then has a greater depth.
abbrev pub depth_limit : ℕ
depth_limit = 16

abbrev pub IsTooDeep : List Block → (ChangesetView → Type 0) → Member → Type 0
IsTooDeep blocks Known m = (k : Member) × Peels blocks Known depth_limit m k

-- ---- parents of file revisions and manifests that come too late

-- a changeset of the blocks has this revision of the path
abbrev pub has_file : List Block → Bytes → Id → Bool
has_file blocks path node = list_any (λ v. list_any (λ row. bytes_eq row.path path && bytes_eq (file_node row.revision) node) v.rows) (changesets_in blocks)

abbrev pub is_late_file : List Block → Bytes → Id → Bool
is_late_file blocks path parent = not (is_null parent) && not (has_file blocks path parent)

abbrev pub has_late_file : List Block → List Row → Bool
has_late_file blocks rows = list_any (λ row. is_late_file blocks row.path (row.revision).p || is_late_file blocks row.path (row.revision).q) rows

abbrev pub is_late_manifest : List Block → Id → Bool
is_late_manifest blocks parent = not (is_null parent) && not (list_any (λ v. bytes_eq (v.fields).manifest parent) (changesets_in blocks))

abbrev pub has_late_manifest : List Block → ManifestParents → Bool
has_late_manifest blocks NoManifest = false
has_late_manifest blocks (Over p q) = is_late_manifest blocks p || is_late_manifest blocks q
