-- A member has one depth, where unmarking can be decided.
use Rattle.std.specs.Prelude.{◌≡◌, ℕ, suc, ◌≤◌, ◌⊎◌, List}
use Rattle.view_model.specs.View.{ChangesetView}
use Rattle.pair_model.specs.Block.{Block}
use Rattle.partner_model.specs.Partner.{Member, Unmarks, IsPlain, HasDepth}

-- and one depth
abbrev pub DepthIsOne : List Block → (ChangesetView → Type 0) → Type 0
DepthIsOne blocks Known = (member : Member) (n m : ℕ) → HasDepth blocks Known n member → HasDepth blocks Known m member → n ≡ m

-- the measure bounds each depth
abbrev pub DepthFalls : List Block → (ChangesetView → Type 0) → (Member → ℕ) → Type 0
DepthFalls blocks Known size = (m k : Member) → Unmarks blocks Known m k → ¬ (IsPlain blocks m) → suc (size k) ≤ size m

-- where unmarking can be decided, each member has a depth
abbrev pub EachHasDepth : List Block → (ChangesetView → Type 0) → Type 0
EachHasDepth blocks Known =
    ((m : Member) → ((k : Member) × Unmarks blocks Known m k) ⊎ ((k : Member) → ¬ (Unmarks blocks Known m k))) → (m : Member) → (n : ℕ) × HasDepth blocks Known n m
