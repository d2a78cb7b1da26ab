-- What a pull leaves is within the limits.
use Rattle.std.proofs.Common.{◌≡◌, false, List, ◌++◌, sym, ap, subst, ◌∙◌, append-nil}
use Rattle.git_model.specs.Object.{Object}
use Rattle.pair_model.specs.Block.{Block}
use Rattle.state_model.specs.Kept.{Kept, kept_of}
use Rattle.state_model.specs.Saved.{passes_limit}
use Rattle.saved_model.specs.Step.{Pull, OfBundle, OfStream, Accepts, with_blocks, next_of}
use Rattle.next_law.specs.Next.{IsLeft, HasBlocks, HasRoom}
use Rattle.next_law.proofs.Blocks.{blocks-left}
use Rattle.next_law.proofs.Known.{IsSaved, saved-of}
use Rattle.next_law.proofs.Limits.{within-limits, no-limit, blocks-within, tags-within}
use Rattle.next_law.proofs.Pairs.{pairs-count}

pub none-passed : (k : Kept) → IsSaved k → passes_limit k ≡ false
none-passed k saved = no-limit k (record { hg = (saved.dumped).short; git = (saved.tags).short; few = (saved.dumped).few })

next-within : (k : Kept) → IsSaved k → (pull : Pull) (new : List Block) (tags : List Object) → Accepts k pull new tags → passes_limit (next_of k new tags) ≡ false
next-within k saved (OfBundle bundle) new tags (a, none) =
    let blocks = blocks-within k new (none-passed k saved) a.small in
    ap (λ (l : List Object). passes_limit (record { blocks = k.blocks ++ new; tags = l })) (ap (λ (l : List Object). k.tags ++ l) none ∙ append-nil k.tags) ∙ blocks
next-within k saved (OfStream stream) new tags a = tags-within (with_blocks k new) tags (blocks-within k new (none-passed k saved) a.small) a.small_tags

pub room-left : IsLeft HasRoom
room-left s pull k made is steps =
    let next = steps.3 in
    let within = within-limits (next_of (kept_of s) steps.0 steps.1) (next-within (kept_of s) (saved-of s is) pull steps.0 steps.1 steps.2) in
    let blocks = blocks-left s pull k made is steps in
    let there = subst HasBlocks next blocks in
    subst HasRoom (sym next) (record { hg = within.hg; git = within.git; few = within.few; pairs = pairs-count (s.blocks ++ steps.0) there.0 })
