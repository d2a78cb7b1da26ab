-- The depths of the two members of a pair.
use Rattle.std.specs.Prelude.{◌≡◌, ℕ, suc, ◌≤◌, ◌%◌, ◌⊎◌, ◌↔◌, List, ◌∷◌}
use Rattle.view_model.specs.View.{ChangesetView}
use Rattle.pair_model.specs.Block.{Block, changesets_in}
use Rattle.partner_model.specs.Partner.{Member, OfHg, OfGit, Unmarks, IsPlain, HasDepth, IsBlock}
use Rattle.partner_model.specs.Table.{AreLinksKnown, AreBlobsApart}

-- where the second is the unmarking of the first and isn't plain, the first isn't plain and has a depth more by one
abbrev pub DepthIsOneUp : List Block → (ChangesetView → Type 0) → Type 0
DepthIsOneUp blocks Known = (m k : Member) (n : ℕ) → Unmarks blocks Known m k → ¬ (IsPlain blocks k) → HasDepth blocks Known n k → HasDepth blocks Known (suc n) m

-- the depths of two members are n and n + 1 with n even, or both are plain
abbrev pub AreDepthsNext : List Block → (ChangesetView → Type 0) → Member → Member → Type 0
AreDepthsNext blocks Known m k =
    (IsPlain blocks m × IsPlain blocks k)
    ⊎ ((n : ℕ) × (n % 2 ≡ 0) × ((HasDepth blocks Known n m × HasDepth blocks Known (suc n) k) ⊎ (HasDepth blocks Known n k × HasDepth blocks Known (suc n) m)))

abbrev pub DepthsAreNext : List Block → (ChangesetView → Type 0) → Type 0
DepthsAreNext blocks Known = (b : Block) → IsBlock blocks Known b → AreLinksKnown blocks Known b → AreBlobsApart (b.changeset ∷ changesets_in blocks) → AreDepthsNext blocks Known (OfHg b.changeset) (OfGit b.commit)

-- the deeper of two members that aren't plain has a depth over 16 exactly where one of them has a depth of 16 or more
abbrev pub IsOver : List Block → (ChangesetView → Type 0) → ℕ → Member → Member → Type 0
IsOver blocks Known most m k = (n : ℕ) × (HasDepth blocks Known n m ⊎ HasDepth blocks Known n k) × (suc most ≤ n)

abbrev pub LimitIsOwn : List Block → (ChangesetView → Type 0) → Type 0
LimitIsOwn blocks Known = (m k : Member) (d : ℕ) → AreDepthsNext blocks Known m k → HasDepth blocks Known d m → (IsOver blocks Known 16 m k ↔ (16 ≤ d))
