use Rattle.std.proofs.Common.{◌<◌, ◌∙◌, List, length, ap, sym, subst, arith}
use Rattle.std.specs.Prelude.{slice_get}
use Rattle.text_model.specs.Lists.{Each}
use Rattle.pair_known.specs.Drafts.{IsRowKnown}
use Rattle.pair_known.specs.declared.known.Known.{Known}
use Rattle.pair_state.specs.Blocks.{BlockValue}
use Rattle.pair_state.specs.declared.blocks.Block.{Block}
use Rattle.state_audit.specs.Audited.{IsJudged}
use Rattle.state_audit.proofs.Audits.{none-found, next-turn, more-found, holds-right, differs-right, holds-wrong, differs-wrong}
use Rattle.state_audit.proofs.Turns.{block-at}
use Rattle.state_audit.proofs.Found.{draft-over, view-there}
use Rattle.state_audit.proofs.audit.verify.Goals as goal

pub loop-place-init : goal.loop-place-init
loop-place-init g c = record {
  found = none-found c.args.state.now c.known-known.result.now.hg (ap (λ k. k.hg) c.known-known.ensures) c.in_ok-checked.checked c.in_ok-checked.ensures;
  near = subst (Each (IsRowKnown c.args.state.now.known.hg)) (sym c.new-near.ensures) tt;
  least = omega arith;
  few = omega arith;
}

pub draft_near-requires : goal.draft_near-requires
draft_near-requires g c =
    let s = c.args.state.now in
    let p = c.requires.saved in
    let below : c.loop-place.place < length s.blocks = omega (arith, c.loop-place-test.true, c.len-place-end.ensures) in
    let n = next-turn s c.loop-place.place c.loop-place.checked c.loop-place.invariant.found below p.0 p.1 p.2 in
    let at = ap (λ (l : List Block). slice_get l c.loop-place.place) (sym c.blocks-in-loop-place.ensures) ∙ c.at-block.ensures in
    record {
      view = view-there s c.loop-place.place c.loop-place.checked p.0 n.0 n.1 n.2 n.3 c.known-known.result.now c.known-known.ensures c.at-block.result.now at;
      near = subst (λ (k : Known). Each (IsRowKnown k.hg) c.as_slice.result.now) (sym c.known-known.ensures) (subst (Each (IsRowKnown s.known.hg)) (sym c.as_slice.ensures) c.loop-place.invariant.near);
    }

pub judge-requires : goal.judge-requires
judge-requires g c =
    let p = c.requires.saved in
    let below : c.loop-place.place < length c.args.state.now.blocks = omega (arith, c.loop-place-test.true, c.len-place-end.ensures) in
    let n = next-turn c.args.state.now c.loop-place.place c.loop-place.checked c.loop-place.invariant.found below p.0 p.1 p.2 in
    record {
      block = ap (λ (l : List Block). slice_get l c.loop-place.place) (sym c.blocks-in-loop-place.ensures) ∙ c.at-block.ensures;
      draft = draft-over c.known-known.result.now c.args.state.now.known c.known-known.ensures c.at-block.result.now.node c.in_ok-h.h c.in_ok-h.ensures.draft;
      nothing_fresh = c.in_ok-h.ensures.nothing_fresh;
      turn = (p.0, n.0, n.1, n.2, n.3);
    }

pub add-requires : goal.add-requires
add-requires g c =
    let p = c.requires.saved in
    let below : c.loop-place.place < length c.args.state.now.blocks = omega (arith, c.loop-place-test.true, c.len-place-end.ensures) in
    let n = next-turn c.args.state.now c.loop-place.place c.loop-place.checked c.loop-place.invariant.found below p.0 p.1 p.2 in
    record { turn = (p.0, n.0, n.1, n.2, n.3) }

pub loop-place-preserved : goal.loop-place-preserved
loop-place-preserved g c =
    let s = c.args.state.now in
    let known = s.known in
    record {
      found = more-found s c.loop-place.place c.loop-place.checked c.add.new.self c.loop-place.invariant.found
          (λ m front b rest t. subst (IsJudged known.hg known.git front b) c.in-Right.is (c.in_ok-judge.ensures.judged m front b rest t)) c.in_ok-add-in-Right.ensures;
      near = subst (Each (IsRowKnown known.hg)) (sym c.into_rows-near.ensures) (subst (λ (k : Known). Each (IsRowKnown k.hg) (c.in_ok-h.h).rows) c.known-known.ensures c.in_ok-h.ensures.rows);
      least = omega (arith, c.loop-place.invariant.least, c.in_ok-judge.ensures.steps.0);
      few = omega (arith, c.loop-place.invariant.few, c.in_ok-judge.ensures.steps.1);
    }

pub returns-in-Wrong-clause-holds : goal.returns-in-Wrong-clause-holds
returns-in-Wrong-clause-holds g c = λ m saved stands exact.
    let s = c.args.state.now in
    let place = c.loop-place.place in
    let ck = c.loop-place.checked in
    let below : c.loop-place.place < length c.args.state.now.blocks = omega (arith, c.loop-place-test.true, c.len-place-end.ensures) in
    let at = ap (λ (l : List Block). slice_get l place) (sym c.blocks-in-loop-place.ensures) ∙ c.at-block.ensures in
    holds-wrong s m saved stands exact place ck c.loop-place.invariant.found below c.at-block.result.now.commit c.in-Wrong.right (λ front b rest t. (
      ap (λ (v : BlockValue). v.commit) (block-at s place ck m front b rest t c.at-block.result.now at),
      subst (IsJudged s.known.hg s.known.git front b) c.in-Wrong.is (c.in_ok-judge.ensures.judged m front b rest t),
    ))

pub returns-in-Wrong-clause-differs : goal.returns-in-Wrong-clause-differs
returns-in-Wrong-clause-differs g c = λ m saved stands exact.
    let s = c.args.state.now in
    let place = c.loop-place.place in
    let ck = c.loop-place.checked in
    let below : c.loop-place.place < length c.args.state.now.blocks = omega (arith, c.loop-place-test.true, c.len-place-end.ensures) in
    let at = ap (λ (l : List Block). slice_get l place) (sym c.blocks-in-loop-place.ensures) ∙ c.at-block.ensures in
    differs-wrong s m saved stands exact place ck c.loop-place.invariant.found below c.at-block.result.now.commit c.in-Wrong.right (λ front b rest t. (
      ap (λ (v : BlockValue). v.commit) (block-at s place ck m front b rest t c.at-block.result.now at),
      subst (IsJudged s.known.hg s.known.git front b) c.in-Wrong.is (c.in_ok-judge.ensures.judged m front b rest t),
    ))

pub returns-clause-holds : goal.returns-clause-holds
returns-clause-holds g c = λ m saved stands exact.
    holds-right c.args.state.now m saved stands exact c.loop-place.place c.len.result c.loop-place.checked c.loop-place.invariant.found
    (omega (arith, c.loop-place-test.false, c.loop-place.auto.place-end, c.len-place-end.ensures)) c.len.ensures

pub returns-clause-differs : goal.returns-clause-differs
returns-clause-differs g c = λ m saved stands exact.
    differs-right c.args.state.now m saved stands exact c.loop-place.place c.len.result c.loop-place.checked c.loop-place.invariant.found
    (omega (arith, c.loop-place-test.false, c.loop-place.auto.place-end, c.len-place-end.ensures)) c.len.ensures
