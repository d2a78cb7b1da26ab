use Rattle.std.proofs.Common.{◌≡◌, ◌<◌, [], List, length, refl, sym, ap, subst, ◌∙◌, arith}
use Rattle.std.specs.Prelude.{if◌then◌else◌, bytes_eq}
use Rattle.std.specs.List.{list_any}
use Rattle.std.specs.Ordering.{nat_cmp}
use Rattle.std.specs.BTreeSet.{contains}
use Rattle.std.proofs.lemmas.List.{length-map}
use Rattle.std.proofs.lemmas.Option.{slice_get_within}
use Rattle.text_model.specs.Lists.{Each}
use Rattle.git_store.specs.declared.order.waiting.Wait.{Wait}
use Rattle.git_store.specs.declared.order.stage.Stage.{Stage}
use Rattle.git_store.specs.Ancestry.{ancestry_at}
use Rattle.git_store.specs.Waiting.{waits_for}
use Rattle.git_store.specs.Stage.{rows, stands_at, IsStage, MayWait}
use Rattle.git_store.proofs.SeatLemmas.{none_ready, next_is, placed-stage, freed, taken_row}
use Rattle.git_store.proofs.order.stage.Stage.place_next.Goals as goal

pub returns-in_default-clause-end : goal.returns-in_default-clause-end
returns-in_default-clause-end c = λ _. record {
  none = none_ready (rows c.args.came.now) c.args.came.now.saved.now c.args.self.now c.requires.stage c.in_default.ensures.none;
  placed = refl;
  order = refl;
}

pub id-id-requires : goal.id-id-requires
id-id-requires c =
    let came = rows c.args.came.now in
    let row = c.requires.stage.ready c.in-Some.place c.in-Some.ensures.held in
    let below : c.in-Some.place < length came = slice_get_within came c.in-Some.place row.commit row.at_place in
    omega (arith, below, length-map c.args.came.now.ids.now (ancestry_at c.args.came.now.store.now))

pub put-requires : goal.put-requires
put-requires c = record {
  new = (taken_row c.args.came.now.store.now c.args.came.now.ids.now c.args.came.now.saved.now c.args.self.now c.in-Some.place c.id-id.result c.requires.stage c.in-Some.ensures.held c.id-id.ensures).new;
}

pub seat_all-requires-clause-stage : goal.seat_all-requires-clause-stage
seat_all-requires-clause-stage c =
    let came = rows c.args.came.now in
    let known = c.args.came.now.store.now in
    let saved = c.args.came.now.saved.now in
    let s = c.args.self.now in
    let id = c.id-id.result in
    let row = taken_row known c.args.came.now.ids.now saved s c.in-Some.place id c.requires.stage c.in-Some.ensures.held c.id-id.ensures in
    let mid : Stage = record { placed = c.put.new.self.placed; order = c.put.new.self.order; ready = c.put.new.self.ready; waiting = c.take-waits.new.self } in
    let list : waits_for s.waiting id ≡ c.as_slice.result.now = sym (c.as_slice.ensures ∙ c.take-waits.ensures.taken ∙ ap (λ w. waits_for w id) c.in_ok-put.ensures.waiting) in
    subst (λ (l : List Wait). IsStage came saved (λ i. list_any (stands_at i) l) mid) list
    (placed-stage came saved s mid c.in-Some.place (ancestry_at known id) c.requires.distinct c.requires.stage row.at_place row.ready c.in_ok-put.ensures.placed
    (λ i. ap (λ q. contains nat_cmp q i) c.in_ok-put.ensures.ready ∙ c.in-Some.ensures.left i)
    (λ p. c.take-waits.ensures.left p ∙ ap (λ w. if bytes_eq id p then [] else waits_for w p) c.in_ok-put.ensures.waiting))

pub seat_all-requires-clause-wait : goal.seat_all-requires-clause-wait
seat_all-requires-clause-wait c =
    let came = rows c.args.came.now in
    let known = c.args.came.now.store.now in
    let saved = c.args.came.now.saved.now in
    let s = c.args.self.now in
    let id = c.id-id.result in
    let row = taken_row known c.args.came.now.ids.now saved s c.in-Some.place id c.requires.stage c.in-Some.ensures.held c.id-id.ensures in
    let list : waits_for s.waiting id ≡ c.as_slice.result.now = sym (c.as_slice.ensures ∙ c.take-waits.ensures.taken ∙ ap (λ w. waits_for w id) c.in_ok-put.ensures.waiting) in
    subst (Each (MayWait came saved c.put.new.self.placed)) list
    (freed came saved s.placed c.put.new.self.placed (ancestry_at known id) c.in_ok-put.ensures.placed c.in-Some.place row.at_place row.ready c.requires.distinct (waits_for s.waiting id) (c.requires.stage.lists id))

pub returns-clause-more : goal.returns-clause-more
returns-clause-more c = λ _.
    let came = rows c.args.came.now in
    let known = c.args.came.now.store.now in
    let saved = c.args.came.now.saved.now in
    let s = c.args.self.now in
    let id = c.id-id.result in
    let row = taken_row known c.args.came.now.ids.now saved s c.in-Some.place id c.requires.stage c.in-Some.ensures.held c.id-id.ensures in record {
      commit = ancestry_at known id;
      next = next_is came saved s c.requires.stage c.in-Some.place (ancestry_at known id) row.at_place row.ready c.in-Some.ensures.first;
      placed = c.in_ok-seat_all.ensures.placed ∙ c.in_ok-put.ensures.placed;
      order = c.in_ok-seat_all.ensures.order ∙ c.in_ok-put.ensures.order;
      stage = c.in_ok-seat_all.ensures.stage;
    }
