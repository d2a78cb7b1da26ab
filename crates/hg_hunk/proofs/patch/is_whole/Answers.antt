use Rattle.std.proofs.Common.{ℕ, sym, subst, arith}
use Rattle.hg_hunk.specs.Wholes.{IsWhole}
use Rattle.hg_hunk.proofs.Wholes.{whole_is, is_read, not_cut, whole_long, whole_text, whole_patches}
use Rattle.hg_hunk.proofs.patch.is_whole.Goals as goal

pub returns-in_default-clause-whole : goal.returns-in_default-clause-whole
returns-in_default-clause-whole c = (λ t. absurd cc, λ w. absurd (not_cut _ _ c.in_default.ensures w))

pub returns-clause-whole : goal.returns-clause-whole
returns-clause-whole c =
    (λ t. whole_is _ _ _ _ c.in-Some.ensures (c.is_alone.ensures.0 t), λ w. c.is_alone.ensures.1 (is_read _ _ _ _ c.in-Some.ensures w))

pub returns-in_default-clause-long : goal.returns-in_default-clause-long
returns-in_default-clause-long c = λ t. absurd cc

pub returns-in_default-clause-text : goal.returns-in_default-clause-text
returns-in_default-clause-text c = λ t base same. absurd cc

pub returns-in_default-clause-patches : goal.returns-in_default-clause-patches
returns-in_default-clause-patches c = λ t base same. absurd cc

pub returns-clause-long : goal.returns-clause-long
returns-clause-long c = λ t. whole_long 0 _ _ _ c.in-Some.ensures

pub returns-clause-text : goal.returns-clause-text
returns-clause-text c = λ t base same.
    whole_text base c.args.delta.now (subst (λ (n : ℕ). IsWhole n c.args.delta.now) (sym same) (whole_is _ _ _ _ c.in-Some.ensures (c.is_alone.ensures.0 t)))

pub returns-clause-patches : goal.returns-clause-patches
returns-clause-patches c = λ t base same.
    whole_patches base c.args.delta.now (λ i. omega (arith, c.type_inv.delta i)) (subst (λ (n : ℕ). IsWhole n c.args.delta.now) (sym same) (whole_is _ _ _ _ c.in-Some.ensures (c.is_alone.ensures.0 t)))
