-- With what a state first passes a limit.
use Rattle.std.specs.Prelude.{◌≡◌, ◌⊎◌, ℕ, suc, ◌+◌, ◌-◌, ◌≤◌, false, IsTrue, List, [], ◌++◌, length, take, slice_get, Option, Some, None}
use Rattle.git_model.specs.Object.{Object}
use Rattle.pair_model.specs.Block.{Block, changesets_in}
use Rattle.hg_dump_law.specs.Taken.{AreParentsEarlier}
use Rattle.state_model.specs.Kept.{Kept, State}
use Rattle.state_model.specs.Saved.{passes_limit}
use Rattle.saved_model.specs.Step.{with_blocks, first_large_block, first_large_tag}
use Rattle.pair_state.specs.declared.state_parts.StateParts.{StateParts}
use Rattle.state_text.specs.Stands.{Stands}
use Rattle.state_size.specs.declared.large.Large.{Large}
use Rattle.state_size.specs.declared.large.Large.TheVariants as large

-- the first blocks, with these tags
abbrev pub kept_up_to : ℕ → List Block → List Object → Kept
kept_up_to n blocks tags = record { blocks = take n blocks; tags = tags }

-- The answer is the first added block, or else the first new tag, with which the state up to it passes a limit. A block is named by its place
-- in the whole history.
abbrev pub IsLarge : Kept → List Block → List Object → Option Large → Type 0
IsLarge old added new None = (first_large_block old added ≡ None) × (first_large_tag (with_blocks old added) new ≡ None)
IsLarge old added new (Some (large.Block i)) = (b : Block) × (first_large_block old added ≡ Some b) × (slice_get (old.blocks ++ added) i ≡ Some b) × (length old.blocks ≤ i)
IsLarge old added new (Some (large.Tag i)) = (first_large_block old added ≡ None) × (t : Object) × (first_large_tag (with_blocks old added) new ≡ Some t) × (slice_get new i ≡ Some t)

-- ---- steps on the way

-- the parts stand for the state, in whose history the parents of each changeset stand before it
pub record StandsInOrder (s : StateParts) (m : State) : Type 0 where
  pub stands : Stands s m
  pub parents : AreParentsEarlier [] (changesets_in m.blocks)

-- the history with so many of its blocks and tags from these places on, the blocks first
abbrev pub grown_by : ℕ → ℕ → State → ℕ → Kept
grown_by first_new first_tag m count = record {
  blocks = take (first_new + count) m.blocks;
  tags = take (first_tag + (count - (length m.blocks - first_new))) m.tags;
}

-- the state passes a limit with so many new blocks and tags, and not with one less
pub record IsFirstCount (first_new first_tag : ℕ) (m : State) (count : ℕ) : Type 0 where
  pub passes : IsTrue (passes_limit (grown_by first_new first_tag m count))
  pub least : (before : ℕ) → count ≡ suc before → (before ≡ 0) ⊎ (passes_limit (grown_by first_new first_tag m before) ≡ false)
