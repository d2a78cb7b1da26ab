use Rattle.std.proofs.Common.{◌≡◌, ◌-◌, ℕ, List, length, take, drop, sym, ap, subst, ◌∙◌, arith, length-drop}
use Rattle.std.proofs.lemmas.List.{take_all}
use Rattle.text_model.specs.Id.{Id}
use Rattle.git_model.specs.Object.{Object}
use Rattle.git_model.specs.Stream.{stream_text}
use Rattle.view_model.specs.View.{CommitView}
use Rattle.view_model.specs.Dump.{objects_in, git_increment}
use Rattle.git_dump.specs.Commits.{AreWalkableCommits}
use Rattle.git_dump.specs.Visits.{met_by}
use Rattle.git_dump.specs.Walks.{objects_of}
use Rattle.git_dump.proofs.CommitLemmas.{commits-take, commits-drop}
use Rattle.git_dump.proofs.OnlyNew.{listed-new}
use Rattle.git_dump.proofs.There.{between-of, new-of, each-there}
use Rattle.git_dump.proofs.dump.Dump.collect.Goals as goal

rest : (ids : List Id) (from : ℕ) → take (length ids - from) (drop from ids) ≡ drop from ids
rest ids from = take_all (length ids - from) (drop from ids) (omega (arith, length-drop from ids))

-- the commits from a place on
rest-walkable : (known : List Object) (ids : List Id) (from : ℕ) (cs : List CommitView) → AreWalkableCommits known ids cs → AreWalkableCommits known (take (length ids - from) (drop from ids)) (drop from cs)
rest-walkable known ids from cs are = subst (λ (l : List Id). AreWalkableCommits known l (drop from cs)) (sym (rest ids from)) (commits-drop known ids cs from are)

pub visit_commits-requires-clause-commits : goal.visit_commits-requires-clause-commits
visit_commits-requires-clause-commits c =
    let cs = c.requires.commits.0 in
    (take c.args.from cs, commits-take c.args.store.now c.args.ids.now cs c.args.from c.requires.commits.1)

pub visit_commits-requires-2-clause-commits : goal.visit_commits-requires-2-clause-commits
visit_commits-requires-2-clause-commits c =
    let cs = c.requires.commits.0 in
    (drop c.args.from cs, rest-walkable c.args.store.now c.args.ids.now c.args.from cs c.requires.commits.1)

pub visit_commits-requires-2-clause-walk : goal.visit_commits-requires-2-clause-walk
visit_commits-requires-2-clause-walk c =
    let known = c.args.store.now in
    let cs = c.requires.commits.0 in
    c.begin_list.ensures.walk known (c.in_ok-visit_commits.ensures.visits (take c.args.from cs) (commits-take known c.args.ids.now cs c.args.from c.requires.commits.1)).walk

pub returns : goal.returns
unfolding git_increment
returns c = λ cs is.
    let known = c.args.store.now in
    let ids = c.args.ids.now in
    let from = c.args.from in
    let old = objects_in (take from cs) in
    let new = objects_in (drop from cs) in
    let last = c.visit_commits-2.new.self in
    let first = c.in_ok-visit_commits.ensures.visits (take from cs) (commits-take known ids cs from is) in
    let second = c.in_ok-visit_commits-2.ensures.visits (drop from cs) (rest-walkable known ids from cs is) in
    let are = (second.walk).are in
    let listed = listed-new (met_by known c.new-walk.result) (met_by known c.visit_commits.new.self) (met_by known c.begin_list.new.self) (met_by known last) old new
    c.new-walk.ensures.met first.visited (c.begin_list.ensures.met known) (c.begin_list.ensures.listed known) second.visited in
    ap stream_text (sym (between-of known are last.start last.front last.listed) ∙ ap (objects_of known) listed ∙ new-of known old new (each-there known are (drop from ids) (drop from cs) (commits-drop known ids cs from is)))
