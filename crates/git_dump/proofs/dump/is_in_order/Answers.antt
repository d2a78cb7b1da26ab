use Rattle.std.proofs.Common.{◌≡◌, [], sym, ap, ◌∙◌}
use Rattle.text_model.specs.Lists.{only_new}
use Rattle.git_model.specs.Object.{same_object}
use Rattle.view_model.specs.Dump.{objects_in}
use Rattle.git_dump.specs.Visits.{ids_of, met_by}
use Rattle.git_dump.proofs.OnlyNew.{met-new}
use Rattle.git_dump.proofs.There.{each-there, new-there, same-objects}
use Rattle.git_dump.proofs.dump.is_in_order.Goals as goal

pub returns : goal.returns
returns c = λ cs are.
    let known = c.args.store.now in
    let last = c.visit_commits.new.self in
    let visits = c.in_ok-visit_commits.ensures.visits cs are in
    let news = only_new same_object [] (objects_in cs) in
    let met : (met_by known last).met ≡ ids_of news = met-new (met_by known c.new-walk.result) (met_by known last) (objects_in cs) c.new-walk.ensures.met visits.visited in
    let whole = c.is_whole.ensures known visits.walk in (
      λ t. same-objects known visits.walk.are news (new-there known [] (objects_in cs) (each-there known visits.walk.are c.args.order.now cs are)) (sym met ∙ whole.0 t),
      λ same. whole.1 (met ∙ ap ids_of (sym same)),
    )
