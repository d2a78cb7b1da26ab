-- What both pulls make of a saved state.
use Rattle.std.proofs.Common.{◌≡◌, ◌≤◌, ◌+◌, ◌*◌, ℕ, List, ◌++◌, length, take, drop, Option, Some, None, sym, ap, ◌∙◌, arith, length-append}
use Rattle.std.specs.Prelude.{IfSome}
use Rattle.std.proofs.lemmas.List.{length-map}
use Rattle.text_model.specs.Text.{Bytes}
use Rattle.text_model.specs.Fault.{Refusal}
use Rattle.text_model.proofs.EachLemmas.{Each-weaker}
use Rattle.text_model.proofs.Elements.{take_front, drop_front}
use Rattle.git_model.specs.Object.{Object}
use Rattle.git_store.specs.Growth.{IsWithin, IsThere}
use Rattle.pair_model.specs.Block.{Block}
use Rattle.state_model.specs.Kept as saved
use Rattle.state_model.specs.Kept.{Kept, kept_of, with_kept, ids_of}
use Rattle.saved_model.specs.Step.{known_of}
use Rattle.pair_state.specs.declared.state_parts.StateParts.{StateParts}
use Rattle.pair_state.specs.AllBlocks.{HasAllBlocks, state_value}
use Rattle.state_size.specs.Large.{kept_up_to}
use Rattle.state_text.specs.Stands.{AreAt, Stands}
use Rattle.pull_outcome.specs.declared.refused.PullFault.{PullFault}
use Rattle.pull_outcome.specs.declared.refused.PullFault.TheVariants.{Refused, Read, Memory}
use Rattle.pull_outcome.specs.Refused.{IsRefusedBy, FaultCause}
use Rattle.pull_outcome.specs.Steps.{AreFew}
use Rattle.pull_bundle.proofs.StepLemmas.{count-is}
use Rattle.pull_engine.specs.Names.{IsLimitFault, IsTargetFault}
use Rattle.pull_engine.specs.Read.{IsReadState}

-- ---- bytes that are told

pub some-one : (o : Option Bytes) (P R : Bytes → Type 0) → ((bytes : Bytes) → P bytes → R bytes) → IfSome o P → IfSome o R
some-one None P R f h = tt
some-one (Some bytes) P R f h = f bytes h

pub refused-for : (Due Later : Refusal → Type 0) → ((why : Refusal) → Due why → Later why) → (fault : PullFault) → IsRefusedBy Due fault → IsRefusedBy Later fault
refused-for Due Later f (Refused why) due = f _ due
refused-for Due Later f Read due = tt
refused-for Due Later f Memory due = tt

-- a fault that is no failed read changes no count
pub limit-cause : (before now : ℕ) (fault : PullFault) → IsLimitFault fault → now ≡ before → FaultCause before now fault
limit-cause before now (Refused why) is same = same
limit-cause before now Read is same = absurd is
limit-cause before now Memory is same = same

pub target-cause : (before now : ℕ) (fault : PullFault) → IsTargetFault fault → now ≡ before → FaultCause before now fault
target-cause before now (Refused why) is same = same
target-cause before now Read is same = absurd is
target-cause before now Memory is same = same

-- ---- blocks and tags

module _ (blocks new : List Block) (tags : List Object) (n : ℕ) (is : n ≡ length blocks) where
  pub old-is : kept_up_to n (blocks ++ new) tags ≡ record { blocks = blocks; tags = tags }
  old-is = λ i. record { blocks = (ap (λ (j : ℕ). take j (blocks ++ new)) is ∙ take_front blocks new) i; tags = tags }

  pub new-is : drop n (blocks ++ new) ≡ new
  new-is = ap (λ (j : ℕ). drop j (blocks ++ new)) is ∙ drop_front blocks new

-- the tags that there were, and those behind them
module _ (s : StateParts) (tags new : List Object) (n : ℕ) (are : s.tags ≡ ids_of tags) (is : n ≡ length s.tags) where
  count : n ≡ length tags
  count = is ∙ ap length are ∙ length-map tags (λ (o : Object). o.id)

  pub old-tags : take n (tags ++ new) ≡ tags
  old-tags = ap (λ (j : ℕ). take j (tags ++ new)) count ∙ take_front tags new

  pub new-tags : drop n (tags ++ new) ≡ new
  new-tags = ap (λ (j : ℕ). drop j (tags ++ new)) count ∙ drop_front tags new

-- the new blocks come behind those that there were
pub within : (s : StateParts) (blocks new : List Block) (n : ℕ) → HasAllBlocks s (blocks ++ new) → n ≡ length blocks → n ≤ length s.blocks
within s blocks new n has is = omega (arith, count-is s (blocks ++ new) has.state, length-append blocks new, is)

-- the steps of a pull that was accepted are few for its new blocks
pub few-steps : (s : StateParts) (blocks new : List Block) (n before now : ℕ) → HasAllBlocks s (blocks ++ new) → n ≡ length blocks → now + 18 * n ≤ before + 18 * length s.blocks → AreFew before new now
few-steps s blocks new n before now has is h =
    omega (arith, count-is s (blocks ++ new) has.state, length-append blocks new, is, h)

-- ---- a state that was read

module _ (s : StateParts) (m : saved.State) (read : IsReadState s m) where
  pub state-is : state_value s m.blocks ≡ known_of (kept_of m)
  state-is = λ i. record { revisions = (read.holds).revisions i; objects = (read.holds).objects i; blocks = m.blocks }

  -- the tags stay where nothing is lost
  pub tags-stay : (next : StateParts) → IsWithin s.known.git next.known.git → next.tags ≡ s.tags → AreAt next.known.git next.tags m.tags
  tags-stay next kept tags = (
    tags ∙ (read.stands).tags,
    Each-weaker (IsThere s.known.git) (IsThere next.known.git) (λ o at. kept o.id o at) m.tags (read.stands).tags_held,
  )

  -- the parts stand for a state with these blocks and tags
  pub stands-on : (next : StateParts) (blocks : List Block) (tags : List Object) → HasAllBlocks next blocks → AreAt next.known.git next.tags tags → next.names ≡ s.names
      → Stands next (with_kept m (record { blocks = blocks; tags = tags }))
  stands-on next blocks tags has at names = record {
    blocks = has;
    tags = at.0;
    tags_held = at.1;
    names = names ∙ (read.stands).names;
  }
