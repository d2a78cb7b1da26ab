use Rattle.std.proofs.Common.{◌≡◌, ◌-◌, ℕ, suc, true, false, List, Option, Some, sym, ap, subst, ◌∙◌, arith}
use Rattle.std.proofs.lemmas.Result.{on_ok_weaker}
use Rattle.text_model.specs.Lists.{Each}
use Rattle.text_model.specs.Id.{Id}
use Rattle.git_model.specs.Tree.{TreeEntry, is_directory}
use Rattle.git_model.specs.Object.{Object}
use Rattle.git_dump.specs.Walks.{object_list, file_objects, walk_objects, IsWalkable, IsMetEntry}
use Rattle.git_dump.specs.Visits.{met_by, Visited}
use Rattle.git_dump.proofs.Between.{within}
use Rattle.git_dump.proofs.VisitLemmas.{visited-none}
use Rattle.git_dump.proofs.WalkLemmas.{all-met, visited-again, entry-again, entries-later, turn-of, turn-entry, turn-visited, dir-objects, file-entry, file-closed, last-visited, last-closed, one-more, no-place, no-depth, no-root}
use Rattle.git_dump.proofs.walk.Walk.+visit_tree.Goals as goal
use Rattle.git_dump.proofs.walk.Walk.+visit_tree.Goals.{then-depth-eq0-via-then-depth-eq0, then-depth-eq0-via-else-depth-eq0+then-has_met, then-is_directory+in_ok-visit_tree, else-is_directory+in_ok-visit_file}

pub returns-in_default-clause-visits : goal.returns-in_default-clause-visits
returns-in_default-clause-visits t c = absurd (no-place c.args.store.now c.args.depth c.args.root.now c.in_default.ensures.place c.requires.walkable)

pub returns-then-depth-eq0-clause-visits : goal.returns-then-depth-eq0-clause-visits
returns-then-depth-eq0-clause-visits t c =
    let known = c.args.store.now in
    let met = met_by known c.args.self.now in
    elim c.then-depth-eq0.branch [
      | then-depth-eq0-via-then-depth-eq0 w ↦ absurd (no-depth known c.args.depth c.args.root.now w.if-depth-eq0.true c.requires.walkable)
      | then-depth-eq0-via-else-depth-eq0+then-has_met w ↦
          let is = sym (w.has_met.ensures known c.requires.walk c.in-Some.ensures.place) ∙ w.if-has_met.true in
          record {
            visited = visited-again (walk_objects known c.args.depth c.args.root.now) met (all-met known met.met c.requires.closed c.args.depth c.args.root.now is);
            walk = c.requires.walk;
          }
    ]

pub returns-in_default-tree-clause-visits : goal.returns-in_default-tree-clause-visits
returns-in_default-tree-clause-visits t c = absurd (no-root c.args.store.now c.args.depth c.args.root.now (sym c.in_default-tree.ensures.tree) c.requires.walkable)

pub loop-entry-init : goal.loop-entry-init
loop-entry-init t c = record { visits = record { visited = visited-none (met_by c.args.store.now c.args.self.now); walk = c.requires.walk }; closed = c.requires.closed; ahead = c.requires.beside }

pub visit_tree-requires : goal.visit_tree-requires
visit_tree-requires t c =
    let known = c.args.store.now in
    let below = c.args.depth - 1 in
    let id = c.args.root.now in
    let items = c.entries-entry-items.result.now in
    let i = c.loop-entry.entry-index in
    let e : TreeEntry = c.entry-item.result in
    let turn = turn-of known c.args.depth id _ items i e c.if-depth-eq0.false c.in-Some-tree.ensures.tree c.entries-entry-items.ensures.entries c.requires.walkable c.loop-entry-test.true c.entry-item.is in
    let d : is_directory e.mode ≡ true = ap is_directory (sym c.mode.ensures) ∙ sym c.is_directory.ensures ∙ c.if-is_directory.true in
    let met = (met_by known c.loop-entry.self).met in (
      omega (arith, c.if-depth-eq0.false, c.decreases),
      (
        subst (λ (i : Id). IsWalkable known below i) (sym c.id.ensures) ((turn-entry known below id items i e turn).subtree d),
        (c.loop-entry.invariant.visits.walk, (c.loop-entry.invariant.closed, c.subtree_entries.ensures met c.loop-entry.invariant.closed (c.next_beside.ensures met c.loop-entry.invariant.ahead).0)),
      ),
    )

pub visit_file-requires : goal.visit_file-requires
visit_file-requires t c = c.loop-entry.invariant.visits.walk

pub visit_place-requires : goal.visit_place-requires
visit_place-requires t c = let p = c.in-Some.ensures.place in record { walk = c.loop-entry.invariant.visits.walk; within = within c.args.store.now c.in-Some.place p.object p.stands }

-- an entry that was met beside it
pub loop-entry-preserved-then-is_of_same : goal.loop-entry-preserved-then-is_of_same
loop-entry-preserved-then-is_of_same t c =
    let known = c.args.store.now in
    let below = c.args.depth - 1 in
    let id = c.args.root.now in
    let items = c.entries-entry-items.result.now in
    let i = c.loop-entry.entry-index in
    let a = met_by known c.args.self.now in
    let b = met_by known c.loop-entry.self in
    let e : TreeEntry = c.entry-item.result in
    let turn = turn-of known c.args.depth id _ items i e c.if-depth-eq0.false c.in-Some-tree.ensures.tree c.entries-entry-items.ensures.entries c.requires.walkable c.loop-entry-test.true c.entry-item.is in
    let beside = c.next_beside.ensures b.met c.loop-entry.invariant.ahead in
    record {
      visits = record {
        visited = turn-visited known below id items i e a b b turn c.loop-entry.invariant.visits.visited (entry-again known below e b c.loop-entry.invariant.closed (c.is_of_same.ensures b.met beside.0 c.if-is_of_same.true));
        walk = c.loop-entry.invariant.visits.walk;
      };
      closed = c.loop-entry.invariant.closed;
      ahead = beside.1;
    }

pub loop-entry-preserved : goal.loop-entry-preserved
loop-entry-preserved t c =
    let known = c.args.store.now in
    let below = c.args.depth - 1 in
    let id = c.args.root.now in
    let items = c.entries-entry-items.result.now in
    let i = c.loop-entry.entry-index in
    let a = met_by known c.args.self.now in
    let b = met_by known c.loop-entry.self in
    let e : TreeEntry = c.entry-item.result in
    let turn = turn-of known c.args.depth id _ items i e c.if-depth-eq0.false c.in-Some-tree.ensures.tree c.entries-entry-items.ensures.entries c.requires.walkable c.loop-entry-test.true c.entry-item.is in
    let rest = c.next_beside.result.1.now in
    let ahead : Each (IsMetEntry b.met) rest = (c.next_beside.ensures b.met c.loop-entry.invariant.ahead).1 in
    elim c.if-is_directory.branch [
      | then-is_directory+in_ok-visit_tree w ↦
          let d : is_directory e.mode ≡ true = ap is_directory (sym c.mode.ensures) ∙ sym c.is_directory.ensures ∙ w.if-is_directory.true in
          let last = met_by known w.visit_tree.new.self in
          rw w.self-is (record {
            visits = record {
              visited = turn-visited known below id items i e a b last turn c.loop-entry.invariant.visits.visited
                  (subst (λ (os : List Object). Visited os b last) (dir-objects known (walk_objects known below) e w.id.result.now d w.id.ensures) w.in_ok-visit_tree.ensures.visits.visited);
              walk = w.in_ok-visit_tree.ensures.visits.walk;
            };
            closed = w.in_ok-visit_tree.ensures.closed;
            ahead = entries-later (walk_objects known below w.id.result.now) b last rest w.in_ok-visit_tree.ensures.visits.visited ahead;
          })
      | else-is_directory+in_ok-visit_file w ↦
          let d : is_directory e.mode ≡ false = ap is_directory (sym c.mode.ensures) ∙ sym c.is_directory.ensures ∙ w.if-is_directory.false in
          let last = met_by known w.visit_file.new.self in
          rw w.self-is (record {
            visits = record {
              visited = turn-visited known below id items i e a b last turn c.loop-entry.invariant.visits.visited
                  (subst (λ (os : List Object). Visited os b last) (file-entry known (walk_objects known below) e d) w.in_ok-visit_file.ensures.visited);
              walk = w.in_ok-visit_file.ensures.walk;
            };
            closed = file-closed known below e b last (turn-entry known below id items i e turn) c.loop-entry.invariant.closed w.in_ok-visit_file.ensures.visited;
            ahead = entries-later (file_objects known e) b last rest w.in_ok-visit_file.ensures.visited ahead;
          })
    ]

pub returns-clause-visits : goal.returns-clause-visits
returns-clause-visits t c =
    let known = c.args.store.now in
    let below = c.args.depth - 1 in
    let depth : c.args.depth ≡ suc below = one-more c.args.depth c.if-depth-eq0.false in
    let a = met_by known c.args.self.now in
    let b = met_by known c.loop-entry.self in
    let d = met_by known c.visit_place.new.self in
    let p = c.in-Some.ensures.place in
    let at = sym c.in-Some-tree.ensures.tree ∙ ap (λ (es : List TreeEntry). Some es) (sym c.entries-entry-items.ensures.entries) in
    on_ok_weaker c.visit_place.result
    (λ v.
    let last = v p.object p.stands in
    record {
      visited = subst (λ (n : ℕ). Visited (walk_objects known n c.args.root.now) a d) (sym depth)
          (last-visited known below c.args.root.now c.entries-entry-items.result.now c.loop-entry.entry-index a b d at c.loop-entry-test.false c.loop-entry.invariant.visits.visited
          (subst (λ (found : Option Object). Visited (object_list found) b d) (sym p.found) last.visited));
      walk = last.walk;
    })
    c.visit_place.ensures

pub returns-clause-closed : goal.returns-clause-closed
returns-clause-closed t c =
    let known = c.args.store.now in
    let below = c.args.depth - 1 in
    let depth : c.args.depth ≡ suc below = one-more c.args.depth c.if-depth-eq0.false in
    let a = met_by known c.args.self.now in
    let b = met_by known c.loop-entry.self in
    let d = met_by known c.visit_place.new.self in
    let p = c.in-Some.ensures.place in
    let at = sym c.in-Some-tree.ensures.tree ∙ ap (λ (es : List TreeEntry). Some es) (sym c.entries-entry-items.ensures.entries) in
    on_ok_weaker c.visit_place.result
    (λ v. last-closed known below c.args.root.now c.entries-entry-items.result.now c.loop-entry.entry-index a b d (subst (λ (n : ℕ). IsWalkable known n c.args.root.now) depth c.requires.walkable) at c.loop-entry-test.false c.loop-entry.invariant.closed c.loop-entry.invariant.visits.visited
    (subst (λ (found : Option Object). Visited (object_list found) b d) (sym p.found) (v p.object p.stands).visited))
    c.visit_place.ensures
