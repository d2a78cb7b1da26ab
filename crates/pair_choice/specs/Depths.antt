-- Drafts of members, what unmarking one gives, and how deep one is.
use Rattle.std.specs.Prelude.{◌≡◌, ◌==◌, ℕ, ◌<◌, ◌%◌, if◌then◌else◌, List}
use Rattle.pair_model.specs.Block.{Block}
use Rattle.partner_model.specs.Partner.{Member, OfHg, OfGit, IsHeldView, Unmarks, HasDepth}
use Rattle.partner_model.specs.Given.{Peels, IsTooDeep, depth_limit}
use Rattle.partner_model.specs.Clash.{IsColliding, MeetsCollision}
use Rattle.pair_known.specs.Over.{IsChangesetIn, IsCommitOver}
use Rattle.pair_known.specs.declared.known.Known.{Known}
use Rattle.pair_choice.specs.declared.depth.Depth.{Depth}
use Rattle.pair_choice.specs.declared.depth.Depth.TheVariants.{Even, Odd, TooDeep, Collides}
use Rattle.pair_choice.specs.declared.draft.Draft.{Draft}
use Rattle.pair_choice.specs.declared.draft.Draft.TheVariants.{Changeset, Commit}
use Rattle.pair_choice.specs.declared.unmark.Unmarking.{Unmarking}
use Rattle.pair_choice.specs.declared.unmark.Unmarking.TheVariants.{Nothing, Found, Collision}

-- the draft stands for this member, over a history that is stored
abbrev pub IsDraftOf : Known → List Block → Draft → Member → Type 0
IsDraftOf k blocks (Changeset d) (OfHg h) = IsChangesetIn k blocks d h
IsDraftOf k blocks (Commit d) (OfGit c) = IsCommitOver k blocks d c
IsDraftOf k blocks _ _ = ⊥

-- what unmarking this member gives
abbrev pub IsUnmarking : Known → List Block → Member → Unmarking → Type 0
IsUnmarking k blocks m Nothing = (n : Member) → ¬ (Unmarks blocks (IsHeldView k.hg) m n)
IsUnmarking k blocks m (Found d) = (n : Member) × Unmarks blocks (IsHeldView k.hg) m n × IsDraftOf k blocks d n × (¬ (IsColliding blocks (IsHeldView k.hg) k.git m))
IsUnmarking k blocks m Collision = IsColliding blocks (IsHeldView k.hg) k.git m

-- the member has this depth, which is below the limit
abbrev pub HasDepthBelow : Known → List Block → Member → ℕ → Type 0
HasDepthBelow k blocks m n = HasDepth blocks (IsHeldView k.hg) n m × (n < depth_limit)

-- neither it nor one below it, above the limit, is a changeset whose bodies collide
abbrev pub MeetsNone : Known → List Block → Member → Type 0
MeetsNone k blocks m = ¬ (MeetsCollision blocks (IsHeldView k.hg) k.git m)

-- none that stands below it by fewer unmarkings than these is a changeset whose bodies collide
abbrev pub IsClear : Known → List Block → ℕ → Member → Type 0
IsClear k blocks i m = (j : ℕ) (n : Member) → j < i → Peels blocks (IsHeldView k.hg) j m n → ¬ (IsColliding blocks (IsHeldView k.hg) k.git n)

-- how deep this member is
abbrev pub IsDepth : Known → List Block → Member → Depth → Type 0
IsDepth k blocks m Even = (n : ℕ) × (n % 2 ≡ 0) × HasDepthBelow k blocks m n × MeetsNone k blocks m
IsDepth k blocks m Odd = (n : ℕ) × (n % 2 ≡ 1) × HasDepthBelow k blocks m n × MeetsNone k blocks m
IsDepth k blocks m TooDeep = IsTooDeep blocks (IsHeldView k.hg) m × MeetsNone k blocks m
IsDepth k blocks m Collides = MeetsCollision blocks (IsHeldView k.hg) k.git m

-- how deep a member is below which so many unmarkings stand, where the last one has none
abbrev pub depth_of_count : ℕ → Depth
depth_of_count n = if n % 2 == 0 then Even else Odd
