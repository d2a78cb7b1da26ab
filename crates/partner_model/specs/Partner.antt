-- The partner of a changeset or a commit, over the blocks of its ancestors. Marking a member gives a member of the other side, and unmarking
-- undoes it. A member that was itself made by marking is deeper by one than what it was made of. The partner is the marked member where the
-- depth is even, and the unmarking where it is odd: so each of a pair is the partner of the other. This rule is this project's own.
-- `Known` says which links are known. A changeset of which a path lies below another has no commit, and is refused before any of this is asked.
use Rattle.std.specs.Prelude.{◌≡◌, ℕ, zero, suc, ◌%◌, false, ◌⊎◌, List, [], ◌∷◌, is_some, IsTrue, MatchBool}
use Rattle.std.specs.List.{AllZip}
use Rattle.text_model.specs.Lists.{Each}
use Rattle.hg_model.specs.Revision.{Revision}
use Rattle.view_model.specs.Held.{IsChangesetHeld}
use Rattle.view_model.specs.View.{changeset_node, files_among, Row, ChangesetView, IsChangesetView, SameChangeset, TreeRow, CommitView, IsCommitView, SameCommit, HaveSameBodies}
use Rattle.pair_model.specs.Block.{Block, block_of_node, block_of_id, not_null, Parents}
use Rattle.pair_model.specs.Rule.{ruled_row}
use Rattle.pair_model.specs.Octopus.{is_link_view, links_of}
use Rattle.partner_model.specs.Mark.{mark_commit, mark_changeset, parents_of_changeset, is_ruled}

-- a commit, or a changeset that is no link
pub data Member : Type 0 where
  OfHg : (changeset : ChangesetView) → Member
  OfGit : (commit : CommitView) → Member

-- each parent of a commit has a partner, and so has each parent of a changeset
abbrev pub AreCommitParentsPaired : List Block → CommitView → Type 0
AreCommitParentsPaired blocks c = Each (λ id. IsTrue (is_some (block_of_id blocks id))) (c.value).parents

abbrev pub AreChangesetParentsPaired : List Block → ChangesetView → Type 0
AreChangesetParentsPaired blocks h = Each (λ node. IsTrue (is_some (block_of_node blocks node))) (not_null (h.p ∷ h.q ∷ []))

-- ---- unmarkings

-- A row without a mark has the very revision that the rule gives of the commit, and one with a mark has the blob as its body.
abbrev pub IsUnmarkedRow : Parents → Row → TreeRow → Type 0
IsUnmarkedRow ps row of = MatchBool (is_ruled ps row) (row.revision ≡ (ruled_row ps of).revision) ((row.revision).body ≡ of.content)

-- h is the unmarking of c: c is the marked commit of h, and the bodies are those of c's blobs
pub record UnmarksCommit (blocks : List Block) (c : CommitView) (h : ChangesetView) : Type 0 where
  pub view : IsChangesetView h
  pub no_link : is_link_view h ≡ false
  pub paired : AreChangesetParentsPaired blocks h
  pub marked : SameCommit (mark_commit blocks h) c
  pub bodies : AllZip (IsUnmarkedRow (parents_of_changeset blocks h)) h.rows (files_among c.rows)

-- the changeset is known with all that it stands for
abbrev pub IsHeldView : List Revision → ChangesetView → Type 0
IsHeldView known v = IsChangesetHeld known (changeset_node v) v

-- one of the known changesets is the same as this one
abbrev pub IsKnownAs : (ChangesetView → Type 0) → ChangesetView → Type 0
IsKnownAs Known l = (k : ChangesetView) × Known k × SameChangeset k l

-- c is the unmarking of h: h is the marked changeset of c, and the links of c are known
pub record UnmarksChangeset (blocks : List Block) (Known : ChangesetView → Type 0) (h : ChangesetView) (c : CommitView) : Type 0 where
  pub view : IsCommitView c
  pub paired : AreCommitParentsPaired blocks c
  pub marked : SameChangeset (mark_changeset blocks c) h
  pub walked : Each (IsKnownAs Known) (links_of blocks c)
  pub bodies : HaveSameBodies h.rows (files_among c.rows)

-- the second member is the unmarking of the first
abbrev pub Unmarks : List Block → (ChangesetView → Type 0) → Member → Member → Type 0
Unmarks blocks Known (OfGit c) (OfHg h) = UnmarksCommit blocks c h
Unmarks blocks Known (OfHg h) (OfGit c) = UnmarksChangeset blocks Known h c
Unmarks blocks Known (OfHg h) (OfHg k) = ⊥
Unmarks blocks Known (OfGit c) (OfGit d) = ⊥

-- ---- plain members, and depth

-- marking there and back gives the member again
abbrev pub IsPlain : List Block → Member → Type 0
IsPlain blocks (OfHg h) = AreChangesetParentsPaired blocks h × SameChangeset (mark_changeset blocks (mark_commit blocks h)) h
IsPlain blocks (OfGit c) = AreCommitParentsPaired blocks c × SameCommit (mark_commit blocks (mark_changeset blocks c)) c

-- 0 for a plain member and for one without an unmarking, else one more than the depth of its unmarking
unfoldable pub HasDepth : List Block → (ChangesetView → Type 0) → ℕ → Member → Type 0
HasDepth blocks Known zero m = IsPlain blocks m ⊎ ((k : Member) → ¬ (Unmarks blocks Known m k))
HasDepth blocks Known (suc n) m = (¬ (IsPlain blocks m)) × (k : Member) × Unmarks blocks Known m k × HasDepth blocks Known n k

-- a depth is one number; it is even, or it is odd
abbrev pub HasEvenDepth : List Block → (ChangesetView → Type 0) → Member → Type 0
HasEvenDepth blocks Known m = (n : ℕ) × (n % 2 ≡ 0) × HasDepth blocks Known n m

abbrev pub HasOddDepth : List Block → (ChangesetView → Type 0) → Member → Type 0
HasOddDepth blocks Known m = (n : ℕ) × (n % 2 ≡ 1) × HasDepth blocks Known n m

-- ---- partners, pairs and blocks

-- The second member is the partner of the first: the marked one where the depth of the first is even, else its unmarking. The depth of the
-- second isn't asked.
abbrev pub IsPartner : List Block → (ChangesetView → Type 0) → Member → Member → Type 0
IsPartner blocks Known (OfHg h) (OfGit c) = (HasEvenDepth blocks Known (OfHg h) × AreChangesetParentsPaired blocks h × SameCommit (mark_commit blocks h) c) ⊎ (HasOddDepth blocks Known (OfHg h) × UnmarksChangeset blocks Known h c)
IsPartner blocks Known (OfGit c) (OfHg h) = (HasEvenDepth blocks Known (OfGit c) × AreCommitParentsPaired blocks c × SameChangeset (mark_changeset blocks c) h) ⊎ (HasOddDepth blocks Known (OfGit c) × UnmarksCommit blocks c h)
IsPartner blocks Known (OfHg h) (OfHg k) = ⊥
IsPartner blocks Known (OfGit c) (OfGit d) = ⊥

-- the changeset and the commit are a pair: the commit is the marked one of a changeset of even depth, or the changeset that of a commit of even depth
abbrev pub Pairs : List Block → (ChangesetView → Type 0) → ChangesetView → CommitView → Type 0
Pairs blocks Known h c =
    (HasEvenDepth blocks Known (OfHg h) × AreChangesetParentsPaired blocks h × SameCommit (mark_commit blocks h) c)
    ⊎ (HasEvenDepth blocks Known (OfGit c) × AreCommitParentsPaired blocks c × SameChangeset (mark_changeset blocks c) h)

-- the block is a pair with the links of its commit, and its commit has the bodies of its changeset
pub record IsBlock (blocks : List Block) (Known : ChangesetView → Type 0) (b : Block) : Type 0 where
  pub no_link : is_link_view b.changeset ≡ false
  pub changeset : IsChangesetView b.changeset
  pub commit : IsCommitView b.commit
  pub pair : Pairs blocks Known b.changeset b.commit
  pub links_are : b.links ≡ links_of blocks b.commit
  pub bodies : HaveSameBodies (b.changeset).rows (files_among (b.commit).rows)

-- the block is that of the member
abbrev pub HasMember : Member → Block → Type 0
HasMember (OfHg h) b = b.changeset ≡ h
HasMember (OfGit c) b = b.commit ≡ c

abbrev pub IsBlockOf : List Block → (ChangesetView → Type 0) → Member → Block → Type 0
IsBlockOf blocks Known m b = IsBlock blocks Known b × HasMember m b
