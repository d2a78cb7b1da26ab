-- A member has one partner and one block.
use Rattle.std.specs.Prelude.{◌⊎◌, List, ◌∷◌}
use Rattle.view_model.specs.View.{ChangesetView, CommitView, SameChangeset, SameCommit}
use Rattle.pair_model.specs.Block.{Block, changesets_in}
use Rattle.partner_model.specs.Partner.{Member, OfHg, OfGit, AreCommitParentsPaired, AreChangesetParentsPaired, UnmarksChangeset, Unmarks, HasDepth, IsPartner, IsBlock, IsBlockOf}
use Rattle.partner_model.specs.Table.{AreLinksKnown, AreBlobsApart}

abbrev pub SameMember : Member → Member → Type 0
SameMember (OfHg h) (OfHg k) = SameChangeset h k
SameMember (OfGit c) (OfGit d) = SameCommit c d
SameMember _ _ = ⊥

-- a member has at most one partner
abbrev pub PartnerIsOne : List Block → (ChangesetView → Type 0) → Type 0
PartnerIsOne blocks Known = (m k l : Member) → IsPartner blocks Known m k → IsPartner blocks Known m l → SameMember k l

-- a changeset has one block where the links are known
abbrev pub ChangesetBlockIsOne : List Block → (ChangesetView → Type 0) → Type 0
ChangesetBlockIsOne blocks Known = (h : ChangesetView) (b d : Block) → IsBlockOf blocks Known (OfHg h) b → IsBlockOf blocks Known (OfHg h) d → AreLinksKnown blocks Known b → AreLinksKnown blocks Known d →
    SameCommit b.commit d.commit × SameChangeset b.changeset d.changeset

-- a commit has one block where bodies of one blob id are one
abbrev pub CommitBlockIsOne : List Block → (ChangesetView → Type 0) → Type 0
CommitBlockIsOne blocks Known = (c : CommitView) (b d : Block) → IsBlockOf blocks Known (OfGit c) b → IsBlockOf blocks Known (OfGit c) d
    → AreBlobsApart (b.changeset ∷ changesets_in blocks) → AreBlobsApart (d.changeset ∷ changesets_in blocks) → SameCommit b.commit d.commit × SameChangeset b.changeset d.changeset

-- The two members of a block: each is the partner of the other, and where the changeset isn't plain the depths are n and n + 1 with n even.
abbrev pub BlockIsPair : List Block → (ChangesetView → Type 0) → Type 0
BlockIsPair blocks Known = (b : Block) → IsBlock blocks Known b → AreLinksKnown blocks Known b → AreBlobsApart (b.changeset ∷ changesets_in blocks) →
    IsPartner blocks Known (OfHg b.changeset) (OfGit b.commit) × IsPartner blocks Known (OfGit b.commit) (OfHg b.changeset)

-- where unmarking can be decided, each commit whose parents have partners has a partner, and so has such a changeset
abbrev pub EachHasPartner : List Block → (ChangesetView → Type 0) → Type 0
EachHasPartner blocks Known =
    ((m : Member) → ((k : Member) × Unmarks blocks Known m k) ⊎ ((k : Member) → ¬ (Unmarks blocks Known m k))) →
    ((c : CommitView) → AreCommitParentsPaired blocks c → (h : ChangesetView) × IsPartner blocks Known (OfGit c) (OfHg h))
    × ((h : ChangesetView) → AreChangesetParentsPaired blocks h → (c : CommitView) × IsPartner blocks Known (OfHg h) (OfGit c))

-- a changeset that is an unmarking's marked one, with a parent that has no partner, as a link, has its unmarking as its partner
abbrev pub LinkedHasPartner : List Block → (ChangesetView → Type 0) → Type 0
LinkedHasPartner blocks Known = (h : ChangesetView) (c : CommitView) → UnmarksChangeset blocks Known h c → ¬ (AreChangesetParentsPaired blocks h) → HasDepth blocks Known 1 (OfHg h) × IsPartner blocks Known (OfHg h) (OfGit c)
