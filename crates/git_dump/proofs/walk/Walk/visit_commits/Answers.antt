use Rattle.std.proofs.Common.{List, length, ◌≤◌, subst, arith}
use Rattle.std.proofs.lemmas.List.{take_all}
use Rattle.view_model.specs.View.{CommitView}
use Rattle.view_model.specs.Dump.{objects_in}
use Rattle.git_dump.specs.Visits.{met_by, Visits}
use Rattle.git_dump.proofs.VisitLemmas.{visited-none}
use Rattle.git_dump.proofs.CommitLemmas.{commit-at_place, commits-length, visited-push}
use Rattle.git_dump.proofs.walk.Walk.visit_commits.Goals as goal

pub loop-id-init : goal.loop-id-init
loop-id-init c = record {
  visits = λ cs are. record { visited = visited-none (met_by c.args.store.now c.args.self.now); walk = c.requires.walk };
  walk = c.requires.walk;
  closed = c.requires.closed;
  beside = tt;
}

pub visit_commit-requires : goal.visit_commit-requires
visit_commit-requires c =
    let id = c.id-item.result in
    let at = commit-at_place c.args.store.now c.args.ids.now c.requires.commits.0 c.requires.commits.1 c.loop-id.id-index id id c.loop-id-test.true c.id-item.is in
    record { commit = (at.view, at.is); walk = c.loop-id.invariant.walk; closed = c.loop-id.invariant.closed; beside = c.loop-id.invariant.beside }

pub loop-id-preserved : goal.loop-id-preserved
loop-id-preserved c =
    let known = c.args.store.now in
    let id = c.id-item.result in
    let i = c.loop-id.id-index in
    let first = commit-at_place known c.args.ids.now c.requires.commits.0 c.requires.commits.1 i id id c.loop-id-test.true c.id-item.is in
    record {
      visits = λ cs are.
          let at = commit-at_place known c.args.ids.now cs are i id id c.loop-id-test.true c.id-item.is in
          let visits = c.in_ok-beside.ensures.visits at.view at.is in
          record {
            visited = visited-push cs i at.view (met_by known c.args.self.now) (met_by known c.loop-id.self) (met_by known c.visit_commit.new.self) at.at_place (c.loop-id.invariant.visits cs are).visited visits.visited;
            walk = visits.walk;
          };
      walk = (c.in_ok-beside.ensures.visits first.view first.is).walk;
      closed = c.in_ok-beside.ensures.closed;
      beside = c.in_ok-beside.ensures.entries;
    }

pub returns : goal.returns
returns c = record {
  visits = λ cs are.
      let i = c.loop-id.id-index in
      let whole : length cs ≤ i = omega (arith, commits-length c.args.store.now c.args.ids.now cs are.0) in
      subst (λ (xs : List CommitView). Visits c.args.store.now (objects_in xs) c.args.self.now c.loop-id.self) (take_all i cs whole) (c.loop-id.invariant.visits cs are);
  closed = c.loop-id.invariant.closed;
}
