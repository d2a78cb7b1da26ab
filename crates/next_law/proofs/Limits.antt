-- Where no new block and no new tag is the first with which a limit is passed, none is passed behind them all.
use Rattle.std.proofs.Common.{◌≡◌, ◌≤◌, ◌+◌, ℕ, Bool, true, false, ◌||◌, List, [], ◌∷◌, length, Option, Some, None, refl, sym, ap, ◌∙◌, arith, append_assoc, append-nil, if◌then◌else◌}
use Rattle.std.specs.Prelude.{nat_lt}
use Rattle.std.proofs.lemmas.Bool.Decides.{nat_tests}
use Rattle.text_model.proofs.Options.{or_parts, or_neither, some_none}
use Rattle.git_model.specs.Object.{Object}
use Rattle.git_model.specs.Stream.{stream_text}
use Rattle.pair_model.specs.Block.{Block, changesets_in, commits_in}
use Rattle.state_model.specs.Limits.{dump_limit, changeset_limit}
use Rattle.state_model.specs.Kept.{Kept, hg_dump, git_dump}
use Rattle.state_model.specs.Saved.{passes_limit}
use Rattle.saved_model.specs.Step.{with_blocks, with_tags, first_large_block, first_large_tag}

-- a dump and the number of changesets are within their limits
pub record IsWithin (k : Kept) : Type 0 where
  pub hg : length (hg_dump (changesets_in k.blocks)) ≤ dump_limit
  pub git : length (git_dump (commits_in k.blocks)) + length (stream_text k.tags) ≤ dump_limit
  pub few : length (changesets_in k.blocks) ≤ changeset_limit

not-over : (a b : ℕ) → nat_lt a b ≡ false → b ≤ a
not-over a b h = grind (arith, nat_tests)

not-less : (a b : ℕ) → b ≤ a → nat_lt a b ≡ false
not-less a b h = grind (arith, nat_tests)

pub within-limits : (k : Kept) → passes_limit k ≡ false → IsWithin k
within-limits k h =
    let a = nat_lt dump_limit (length (hg_dump (changesets_in k.blocks))) in
    let b = nat_lt dump_limit (length (git_dump (commits_in k.blocks)) + length (stream_text k.tags)) in
    let c = nat_lt changeset_limit (length (changesets_in k.blocks)) in
    let dumps = or_parts (a || b) c h in
    let parts = or_parts a b dumps.0 in
    record { hg = not-over _ _ parts.0; git = not-over _ _ parts.1; few = not-over _ _ dumps.1 }

pub no-limit : (k : Kept) → IsWithin k → passes_limit k ≡ false
no-limit k w =
    let a = nat_lt dump_limit (length (hg_dump (changesets_in k.blocks))) in
    let b = nat_lt dump_limit (length (git_dump (commits_in k.blocks)) + length (stream_text k.tags)) in
    let c = nat_lt changeset_limit (length (changesets_in k.blocks)) in
    or_neither (a || b) c (or_neither a b (not-less _ _ w.hg) (not-less _ _ w.git)) (not-less _ _ w.few)

-- the test of one element, and what is found behind it
tested : {X : Type 0} (t : Bool) (x : X) (rest : Option X) → (if t then Some x else rest) ≡ None → (t ≡ false) × (rest ≡ None)
tested true x rest h = absurd (some_none h)
tested false x rest h = (refl, h)

pub blocks-within : (k : Kept) (new : List Block) → passes_limit k ≡ false → first_large_block k new ≡ None → passes_limit (with_blocks k new) ≡ false
unfolding first_large_block
blocks-within k [] h none = ap (λ (blocks : List Block). passes_limit (record { blocks = blocks; tags = k.tags })) (append-nil k.blocks) ∙ h
blocks-within k (b ∷ new) h none =
    let one = with_blocks k (b ∷ []) in
    let parts = tested (passes_limit one) b (first_large_block one new) none in
    ap (λ (blocks : List Block). passes_limit (record { blocks = blocks; tags = k.tags })) (sym (append_assoc k.blocks (b ∷ []) new)) ∙ blocks-within one new parts.0 parts.1

pub tags-within : (k : Kept) (tags : List Object) → passes_limit k ≡ false → first_large_tag k tags ≡ None → passes_limit (with_tags k tags) ≡ false
unfolding first_large_tag
tags-within k [] h none = ap (λ (tags : List Object). passes_limit (record { blocks = k.blocks; tags = tags })) (append-nil k.tags) ∙ h
tags-within k (t ∷ tags) h none =
    let one = with_tags k (t ∷ []) in
    let parts = tested (passes_limit one) t (first_large_tag one tags) none in
    ap (λ (tags : List Object). passes_limit (record { blocks = k.blocks; tags = tags })) (sym (append_assoc k.tags (t ∷ []) tags)) ∙ tags-within one tags parts.0 parts.1
