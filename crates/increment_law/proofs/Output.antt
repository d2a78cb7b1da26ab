-- What a pull writes goes back, since each history of the blocks that were there goes on to a right one.
use Rattle.std.proofs.Common.{◌≡◌, List, ◌++◌, Option, sym, ap, subst, ◌∙◌}
use Rattle.text_model.specs.Text.{Bytes}
use Rattle.git_model.specs.Object.{Object}
use Rattle.view_model.specs.Dump.{revisions_in, hg_increment, git_increment}
use Rattle.pair_model.specs.Block.{Block, changesets_in, commits_in}
use Rattle.state_model.specs.Kept.{State, Kept, kept_of}
use Rattle.state_model.specs.Saved.{IsState, SlotHolds}
use Rattle.saved_model.specs.Step.{Pull, OfBundle, OfStream, Steps, next_of}
use Rattle.verify_model.specs.Holds.{StateHolds}
use Rattle.closure_law.specs.After.{IsSavedAfter}
use Rattle.closure_law.proofs.After.{state-of, right-after}
use Rattle.closure_law.proofs.Kept.{kept-right, right-again}
use Rattle.stream_increment_law.proofs.Accepted as stream
use Rattle.bundle_increment_law.proofs.Accepted as bundle
use Rattle.increment_law.specs.Taken.{Takes, back_of, GoesBack, OutputGoesBack}

-- the bytes that are written behind some blocks
abbrev stream_after : List Block → List Block → Bytes
stream_after blocks new = git_increment (commits_in blocks) (commits_in new)

abbrev bundle_after : List Block → List Block → Bytes
bundle_after blocks new = hg_increment (revisions_in (changesets_in (blocks ++ new))) (changesets_in blocks) (changesets_in new)

module _ (s next : State) (new : List Block) (on : IsState next) (more : next.blocks ≡ s.blocks ++ new) (right : StateHolds next) where
  module _ (t after : State) (tags : List Object) (is : IsState t) (left : IsState after) (same : t.blocks ≡ s.blocks) (e : kept_of after ≡ next_of (kept_of t) new tags) where
    -- with the new blocks it is a right one too
    right-after-it : StateHolds after
    right-after-it = right-again next after on left (more ∙ ap (λ (l : List Block). l ++ new) (sym same) ∙ sym (ap (λ (k : Kept). k.blocks) e)) right

    stream-taken : Takes (kept_of t) (OfStream (stream_after s.blocks new)) new
    stream-taken =
        let taken = stream.goes_on t after new tags is left e right-after-it in
        subst (λ (l : List Block). Takes (kept_of t) (OfStream (stream_after l new)) new) same (taken.accepted, taken.no_fault)

    bundle-taken : Takes (kept_of t) (OfBundle (bundle_after s.blocks new)) new
    bundle-taken =
        let taken = bundle.goes_on t after new tags is left e right-after-it in
        subst (λ (l : List Block). Takes (kept_of t) (OfBundle (bundle_after l new)) new) same (taken.accepted, taken.no_fault)

pub goes-back : OutputGoesBack
goes-back s next (OfBundle bundle) made is on h (new, tags, a, e, out) =
    let right = kept-right s next (OfBundle bundle) made is on (new, tags, a, e, out) h in
    let more = ap (λ (k : Kept). k.blocks) e in (
      new,
      more,
      λ t after more_tags. subst (λ (bytes : Bytes). IsState t → IsState after → t.blocks ≡ s.blocks → kept_of after ≡ next_of (kept_of t) new more_tags → Takes (kept_of t) (OfStream bytes) new) (sym out)
          (stream-taken s next new on more right t after more_tags),
    )
goes-back s next (OfStream stream) made is on h (new, tags, a, e, out) =
    let right = kept-right s next (OfStream stream) made is on (new, tags, a, e, out) h in
    let more = ap (λ (k : Kept). k.blocks) e in (
      new,
      more,
      λ t after more_tags. subst (λ (bytes : Bytes). IsState t → IsState after → t.blocks ≡ s.blocks → kept_of after ≡ next_of (kept_of t) new more_tags → Takes (kept_of t) (OfBundle bytes) new) (sym out)
          (bundle-taken s next new on more right t after more_tags),
    )

-- the same where the slot held what a list of pulls left, and holds the next history
pub slot-goes-back : (pulls : List Pull) (pull : Pull) (before after : Option Bytes) (s next : State) (made : Bytes) → SlotHolds before s → SlotHolds after next → IsSavedAfter pulls (kept_of s)
    → Steps (kept_of s) pull (kept_of next) made → GoesBack s next (back_of pull made)
slot-goes-back pulls pull before after s next made held holds earlier steps =
    goes-back s next pull made (state-of before s held) (state-of after next holds) (right-after pulls (kept_of s) earlier).holds steps
