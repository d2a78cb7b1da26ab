use Rattle.std.proofs.Common.{Bool, true, not, ◌&&◌, List, refl, sym, ap, ◌∙◌}
use Rattle.std.specs.Prelude.{option_map}
use Rattle.text_model.specs.Id.{Id}
use Rattle.git_model.specs.Order.{is_waiting}
use Rattle.git_store.specs.Ancestry.{ancestry_at}
use Rattle.git_store.specs.Stage.{rows}
use Rattle.git_store.proofs.FindLemmas.{get-map}
use Rattle.git_store.proofs.SeatLemmas.{seats-saved}
use Rattle.git_store.proofs.order.stage.Stage.seat_row.Goals as goal

pub returns-then-contains-clause-seats : goal.returns-then-contains-clause-seats
returns-then-contains-clause-seats c =
    let known = c.args.came.now.store.now in
    let ids = c.args.came.now.ids.now in
    let at = get-map (ancestry_at known) ids c.args.place ∙ ap (option_map (ancestry_at known)) c.requires.here in
    seats-saved (rows c.args.came.now) c.args.came.now.saved.now c.args.self.now c.args.place (ancestry_at known c.args.id.now) at (sym c.contains.ensures ∙ c.if-contains.true)

pub seat-requires : goal.seat-requires
seat-requires c =
    let known = c.args.came.now.store.now in
    let ids = c.args.came.now.ids.now in
    let saved = c.args.came.now.saved.now in
    let id = c.args.id.now in record {
      commit = ancestry_at known id;
      at_place = get-map (ancestry_at known) ids c.args.place ∙ ap (option_map (ancestry_at known)) c.requires.here;
      waits = ap (λ (l : List Id). is_waiting saved l (ancestry_at known id)) c.requires.none ∙ ap (λ (b : Bool). not b && true) (sym c.contains.ensures ∙ c.if-contains.false);
      before = refl;
    }
