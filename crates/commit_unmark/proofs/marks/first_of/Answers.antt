use Rattle.std.proofs.Common.{sym, ◌∙◌}
use Rattle.commit_unmark.specs.Parts.{is_of}
use Rattle.commit_unmark.proofs.PartLemmas.{none-more, found-here}
use Rattle.commit_unmark.proofs.marks.first_of.Goals as goal

pub returns-then-is_of-clause-first : goal.returns-then-is_of-clause-first
returns-then-is_of-clause-first c = sym (found-here (is_of c.args.kind) c.args.marks.now c.loop-place.place _ c.at-mark.ensures (sym c.is_of.ensures ∙ c.if-is_of.true) c.loop-place.invariant)

pub loop-place-preserved : goal.loop-place-preserved
loop-place-preserved c = none-more (is_of c.args.kind) c.args.marks.now c.loop-place.place _ c.at-mark.ensures (sym c.is_of.ensures ∙ c.if-is_of.false) c.loop-place.invariant
