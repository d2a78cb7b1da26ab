use Rattle.std.proofs.Common.{◌-◌, ◌^◌, min, length, length-append, ap, ◌∙◌, arith}
use Rattle.text_model.specs.Text.{Bytes}
use Rattle.git_dump.proofs.Between.{text_between, text_of_place, text-begins, text-step, text-ends, way-begins, way-goes}
use Rattle.git_dump.proofs.listed.places_len.Goals as goal

pub loop-place-init : goal.loop-place-init
loop-place-init c = record {
  way = way-begins c.args.start c.args.end;
  len = omega (arith, ap (λ (b : Bytes). length b) (text-begins c.args.store.now c.args.start));
}

pub loop-place-preserved : goal.loop-place-preserved
loop-place-preserved c =
    let known = c.args.store.now in
    let start = c.args.start in
    let i = c.loop-place.place in
    let way = c.loop-place.invariant.way in
    record {
      way = way-goes start c.args.end i way c.loop-place-test.true;
      len = omega (
        arith,
        c.loop-place.invariant.len,
        ap (λ (b : Bytes). length b) (text-step known start i way.begun),
        length-append (text_between known start i) (text_of_place known i),
        c.len_of_place.ensures,
        c.saturating_add-len.ensures,
      );
    }

pub returns : goal.returns
returns c = c.loop-place.invariant.len
    ∙ ap (λ (b : Bytes). min (length b) (2 ^ 64 - 1)) (text-ends c.args.store.now c.args.start c.args.end c.loop-place.place c.loop-place.invariant.way c.loop-place-test.false)
