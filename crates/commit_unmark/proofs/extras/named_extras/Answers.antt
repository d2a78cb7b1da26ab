use Rattle.std.proofs.Common.{◌++◌, true≢false, List, [], sym, ap, ◌∙◌}
use Rattle.std.specs.List.{cons_option}
use Rattle.hg_model.specs.Changeset.{Extra}
use Rattle.mark_code.specs.Values.{mark_value}
use Rattle.partner_model.specs.Filled.{extra_mark}
use Rattle.commit_unmark.proofs.ExtraLemmas.{extras-more, extras-are, key-rises, key-there}
use Rattle.commit_unmark.proofs.extras.named_extras.Goals as goal

pub put_extra-requires : goal.put_extra-requires
put_extra-requires c = record { rises = key-rises c.args.marks.now c.loop-place.place _ c.len-place-end.ensures.list c.at.ensures c.loop-place.extras c.loop-place.invariant.0 }

pub loop-place-preserved : goal.loop-place-preserved
loop-place-preserved c = (
  c.in_ok-put.ensures.put (cc c.if-not-put.false) ∙ ap (λ (es : List Extra). es ++ cons_option (extra_mark (mark_value c.at.result.now)) []) c.loop-place.invariant.0
      ∙ sym (extras-more c.args.marks.now c.loop-place.place _ c.at.ensures),
  extras-are c.args.marks.now c.loop-place.place _ c.len-place-end.ensures.list c.at.ensures (c.in_ok-put.ensures.key.0 (cc c.if-not-put.false)) c.loop-place.invariant.1,
)

pub returns-then-not-put : goal.returns-then-not-put
returns-then-not-put c = λ are. true≢false (sym (c.in_ok-put.ensures.key.1 (key-there c.args.marks.now c.loop-place.place _ c.at.ensures are)) ∙ cc c.if-not-put.true)
