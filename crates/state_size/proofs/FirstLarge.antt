-- The first new block or tag with which a history passes a limit, by its place.
use Rattle.std.proofs.Common.{◌≡◌, ◌⊎◌, inl, inr, ℕ, zero, suc, Bool, true, false, true≢false, List, [], ◌∷◌, ◌++◌, take, slice_get, Some, None, refl, sym, ap, ◌∙◌, arith, append_assoc}
use Rattle.std.specs.Prelude.{if◌then◌else◌}
use Rattle.std.proofs.lemmas.List.{append-nil}
use Rattle.text_model.proofs.Options.{none_some}
use Rattle.git_model.specs.Object.{Object}
use Rattle.pair_model.specs.Block.{Block}
use Rattle.state_model.specs.Kept.{Kept}
use Rattle.state_model.specs.Saved.{passes_limit}
use Rattle.saved_model.specs.Step.{with_blocks, with_tags, first_large_block, first_large_tag}
use Rattle.dump_law.proofs.Sums.{limit-is-kept}

-- a history with these blocks and tags passes a limit
abbrev pub is_large : List Block → List Object → Bool
is_large blocks tags = passes_limit (record { blocks = blocks; tags = tags })

-- ---- what is in a small history is small

pub small-part : (blocks new : List Block) (tags more : List Object) → is_large (blocks ++ new) (tags ++ more) ≡ false → is_large blocks tags ≡ false
small-part blocks new tags more small = by (is_large blocks tags) refl
  where
    by : (t : Bool) → is_large blocks tags ≡ t → is_large blocks tags ≡ false
    by false e = e
    by true e = absurd (true≢false (sym (limit-is-kept (record { blocks = blocks; tags = tags }) new more e) ∙ small))

pub small-blocks : (blocks new : List Block) (tags : List Object) → is_large (blocks ++ new) tags ≡ false → is_large blocks tags ≡ false
small-blocks blocks new tags small = small-part blocks new tags [] (ap (is_large (blocks ++ new)) (append-nil tags) ∙ small)

pub small-tags : (blocks : List Block) (tags more : List Object) → is_large blocks (tags ++ more) ≡ false → is_large blocks tags ≡ false
small-tags blocks tags more small = small-part blocks [] tags more (ap (λ (l : List Block). is_large l (tags ++ more)) (append-nil blocks) ∙ small)

pub large-whole : (blocks new : List Block) (tags more : List Object) → is_large blocks tags ≡ true → is_large (blocks ++ new) (tags ++ more) ≡ true
large-whole blocks new tags more large = limit-is-kept (record { blocks = blocks; tags = tags }) new more large

-- ---- blocks

-- the next history, and all blocks behind it
next-blocks : (blocks : List Block) (b : Block) (bs : List Block) (tags : List Object) → is_large ((blocks ++ b ∷ []) ++ bs) tags ≡ is_large (blocks ++ b ∷ bs) tags
next-blocks blocks b bs tags = ap (λ (l : List Block). is_large l tags) (append_assoc blocks (b ∷ []) bs)

block-step : (s : Kept) (b : Block) (bs : List Block) (t : Bool) → passes_limit (with_blocks s (b ∷ [])) ≡ t
    → first_large_block s (b ∷ bs) ≡ (if t then Some b else first_large_block (with_blocks s (b ∷ [])) bs)
unfolding first_large_block
block-step s b bs t e = ap (λ (t : Bool). if t then Some b else first_large_block (with_blocks s (b ∷ [])) bs) e

pub no-large-block : (s : Kept) (bs : List Block) → passes_limit (with_blocks s bs) ≡ false → first_large_block s bs ≡ None
unfolding first_large_block
no-large-block s [] small = refl
no-large-block s (b ∷ bs) small =
    let rest = next-blocks s.blocks b bs s.tags ∙ small in
    block-step s b bs false (small-blocks (s.blocks ++ b ∷ []) bs s.tags rest) ∙ no-large-block (with_blocks s (b ∷ [])) bs rest

pub large-block : (s : Kept) (bs : List Block) (i : ℕ) (b : Block) → slice_get bs i ≡ Some b → passes_limit (with_blocks s (take (suc i) bs)) ≡ true
    → (i ≡ 0) ⊎ (passes_limit (with_blocks s (take i bs)) ≡ false) → first_large_block s bs ≡ Some b
large-block s [] i b at large least = absurd (none_some at)
large-block s (x ∷ bs) zero b at large least = block-step s x bs true large ∙ at
large-block s (x ∷ bs) (suc i) b at large (inl none) = absurd (omega (arith, none))
large-block s (x ∷ bs) (suc i) b at large (inr small) =
    let rest = next-blocks s.blocks x (take i bs) s.tags ∙ small in
    block-step s x bs false (small-blocks (s.blocks ++ x ∷ []) (take i bs) s.tags rest)
    ∙ large-block (with_blocks s (x ∷ [])) bs i b at (next-blocks s.blocks x (take (suc i) bs) s.tags ∙ large) (inr rest)

-- ---- tags

next-tags : (blocks : List Block) (tags : List Object) (t : Object) (ts : List Object) → is_large blocks ((tags ++ t ∷ []) ++ ts) ≡ is_large blocks (tags ++ t ∷ ts)
next-tags blocks tags t ts = ap (is_large blocks) (append_assoc tags (t ∷ []) ts)

tag-step : (s : Kept) (o : Object) (os : List Object) (t : Bool) → passes_limit (with_tags s (o ∷ [])) ≡ t
    → first_large_tag s (o ∷ os) ≡ (if t then Some o else first_large_tag (with_tags s (o ∷ [])) os)
unfolding first_large_tag
tag-step s o os t e = ap (λ (t : Bool). if t then Some o else first_large_tag (with_tags s (o ∷ [])) os) e

pub no-large-tag : (s : Kept) (ts : List Object) → passes_limit (with_tags s ts) ≡ false → first_large_tag s ts ≡ None
unfolding first_large_tag
no-large-tag s [] small = refl
no-large-tag s (t ∷ ts) small =
    let rest = next-tags s.blocks s.tags t ts ∙ small in
    tag-step s t ts false (small-tags s.blocks (s.tags ++ t ∷ []) ts rest) ∙ no-large-tag (with_tags s (t ∷ [])) ts rest

pub large-tag : (s : Kept) (ts : List Object) (i : ℕ) (t : Object) → slice_get ts i ≡ Some t → passes_limit (with_tags s (take (suc i) ts)) ≡ true
    → (i ≡ 0) ⊎ (passes_limit (with_tags s (take i ts)) ≡ false) → first_large_tag s ts ≡ Some t
large-tag s [] i t at large least = absurd (none_some at)
large-tag s (x ∷ ts) zero t at large least = tag-step s x ts true large ∙ at
large-tag s (x ∷ ts) (suc i) t at large (inl none) = absurd (omega (arith, none))
large-tag s (x ∷ ts) (suc i) t at large (inr small) =
    let rest = next-tags s.blocks s.tags x (take i ts) ∙ small in
    tag-step s x ts false (small-tags s.blocks (s.tags ++ x ∷ []) (take i ts) rest)
    ∙ large-tag (with_tags s (x ∷ [])) ts i t at (next-tags s.blocks s.tags x (take (suc i) ts) ∙ large) (inr rest)
