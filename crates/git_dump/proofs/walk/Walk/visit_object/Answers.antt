use Rattle.std.proofs.Common.{Option, sym, subst}
use Rattle.std.proofs.lemmas.Result.{on_ok_weaker}
use Rattle.git_model.specs.Object.{Object}
use Rattle.git_dump.specs.Walks.{object_list}
use Rattle.git_dump.specs.Visits.{Visits}
use Rattle.git_dump.proofs.Between.{within}
use Rattle.git_dump.proofs.Counted.{visits-none}
use Rattle.git_dump.proofs.walk.Walk.visit_object.Goals as goal

pub visit_place-requires-clause-within : goal.visit_place-requires-clause-within
visit_place-requires-clause-within c = let p = c.in-Some.ensures.place in within c.args.store.now c.in-Some.place p.object p.stands

pub returns-in-Some : goal.returns-in-Some
returns-in-Some c =
    let p = c.in-Some.ensures.place in
    on_ok_weaker c.visit_place.result
    (λ v. subst (λ (found : Option Object). Visits c.args.store.now (object_list found) c.args.self.now c.visit_place.new.self) (sym p.found) (v p.object p.stands))
    c.visit_place.ensures

pub returns-in-None : goal.returns-in-None
returns-in-None c = visits-none c.args.store.now c.args.self.now c.args.id.now c.requires c.in-None.ensures.place
