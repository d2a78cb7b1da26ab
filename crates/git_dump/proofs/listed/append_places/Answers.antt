use Rattle.std.proofs.Common.{◌++◌, sym, ap, ◌∙◌, append-nil, append_assoc}
use Rattle.text_model.specs.Text.{Bytes}
use Rattle.git_dump.proofs.Between.{text_between, text_of_place, text-begins, text-step, text-ends, way-begins, way-goes}
use Rattle.git_dump.proofs.ListedLemmas.{front-stays, front-through}
use Rattle.git_dump.proofs.listed.append_places.Goals as goal

pub loop-place-init : goal.loop-place-init
loop-place-init c = record {
  way = way-begins c.args.start c.args.end;
  text = sym (append-nil c.args.out.now) ∙ ap (λ (l : Bytes). c.args.out.now ++ l) (text-begins c.args.store.now c.args.start);
}

pub returns-in_err-append_place-clause-front : goal.returns-in_err-append_place-clause-front
returns-in_err-append_place-clause-front c =
    front-through c.args.out.now c.loop-place.out c.append_place.new.out (text_between c.args.store.now c.args.start c.loop-place.place) c.loop-place.invariant.text c.append_place.ensures.front

pub loop-place-preserved : goal.loop-place-preserved
loop-place-preserved c =
    let known = c.args.store.now in
    let start = c.args.start in
    let i = c.loop-place.place in
    let old = c.args.out.now in
    let way = c.loop-place.invariant.way in
    record {
      way = way-goes start c.args.end i way c.loop-place-test.true;
      text = c.in_ok-append_place.ensures.ok ∙ ap (λ (l : Bytes). l ++ text_of_place known i) c.loop-place.invariant.text
          ∙ append_assoc old (text_between known start i) (text_of_place known i)
          ∙ ap (λ (l : Bytes). old ++ l) (sym (text-step known start i way.begun));
    }

pub returns-clause-ok : goal.returns-clause-ok
returns-clause-ok c = c.loop-place.invariant.text
    ∙ ap (λ (l : Bytes). c.args.out.now ++ l) (text-ends c.args.store.now c.args.start c.args.end c.loop-place.place c.loop-place.invariant.way c.loop-place-test.false)

pub returns-clause-front : goal.returns-clause-front
returns-clause-front c = front-stays c.args.out.now c.loop-place.out (text_between c.args.store.now c.args.start c.loop-place.place) c.loop-place.invariant.text
