use Rattle.std.proofs.Common.{◌≡◌, ◌+◌, ◌<◌, ◌^◌, [], ◌∷◌, ◌++◌, length, refl, arith, length-append}
use Rattle.text_model.proofs.EachLemmas.{Each-push}
use Rattle.state_part.specs.Pairs.{IsPair}
use Rattle.state_part.proofs.PairLemmas.{no_count, no_map, has_map, more_lines}
use Rattle.state_part.proofs.map.read_map.Goals as goal

pub returns-in_default : goal.returns-in_default
returns-in_default c =
    let long : length c.args.bytes.now < 2 ^ 64 = omega arith in
    no_count c.args.bytes.now long c.in_default.ensures

pub lines-init : goal.lines-init
lines-init c = rw c.new-pairs.ensures (record { so_far = refl; ids = tt; count = refl })

pub returns-in_default-read_pair : goal.returns-in_default-read_pair
returns-in_default-read_pair c =
    let long : length c.args.bytes.now < 2 ^ 64 = omega arith in
    let few : length c.lines.pairs < c.in-Some.count = omega (arith, c.lines.invariant.count, c.lines-test.true) in
    no_map c.args.bytes.now c.in-Some.lines.now c.lines.rest.now c.in-Some.count c.lines.pairs long c.in-Some.ensures c.lines.invariant.so_far c.lines.invariant.ids few c.in_default-read_pair.ensures

pub lines-preserved : goal.lines-preserved
lines-preserved c =
    let pair = c.in-Some-read_pair.pair in
    let next = c.in-Some-read_pair.ensures in
    let more : length (c.lines.pairs ++ pair ∷ []) ≡ c.lines.counter + 1 = omega (arith, c.lines.invariant.count, length-append c.lines.pairs (pair ∷ [])) in
    rw c.in_ok-push.ensures.ok
    (record {
      so_far = more_lines c.in-Some.lines.now c.lines.rest.now c.in-Some-read_pair.behind.now c.lines.pairs pair c.lines.invariant.so_far next.1;
      ids = Each-push IsPair c.lines.pairs pair c.lines.invariant.ids next.0;
      count = more;
    })

pub returns : goal.returns
returns c =
    let all : length c.lines.pairs ≡ c.in-Some.count = omega (arith, c.lines.invariant.count, c.lines-test.false, c.lines.auto.counter-end) in
    has_map c.args.bytes.now c.in-Some.lines.now c.lines.rest.now c.in-Some.count c.lines.pairs c.in-Some.ensures c.lines.invariant.so_far c.lines.invariant.ids all
