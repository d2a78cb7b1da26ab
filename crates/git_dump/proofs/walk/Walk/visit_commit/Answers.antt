use Rattle.std.proofs.Common.{◌≡◌, List, ap, subst, sym, ◌∙◌}
use Rattle.text_model.specs.Id.{Id}
use Rattle.git_model.specs.Commit.{Commit}
use Rattle.git_model.specs.Object.{Object}
use Rattle.git_dump.specs.Walks.{objects_at, walk_objects, IsWalkable}
use Rattle.git_dump.specs.Visits.{met_by, Visited}
use Rattle.git_dump.proofs.VisitLemmas.{visited-append}
use Rattle.git_dump.proofs.WalkLemmas.{visited-met, root-met, id-later}
use Rattle.git_dump.proofs.CommitLemmas.{objects-of, tree-is, is-there, own-closed, tree-walkable}
use Rattle.git_dump.proofs.walk.Walk.visit_commit.Goals as goal

pub returns-in_default-clause-visits : goal.returns-in_default-clause-visits
returns-in_default-clause-visits c = absurd (is-there c.args.store.now c.in_default.ensures.known c.args.id.now c.requires.commit.0 c.requires.commit.1 c.in_default.ensures.commit)

pub visit_tree-requires-clause-walkable : goal.visit_tree-requires-clause-walkable
visit_tree-requires-clause-walkable c =
    let known = c.args.store.now in
    let id = c.args.id.now in
    let view = c.requires.commit.0 in
    let is = c.requires.commit.1 in
    let tree : c.commit-2.inside.tree ≡ (view.value).tree_id = ap (λ (v : Commit). v.tree_id) c.commit-2.view_is ∙ tree-is known c.in-Some.ensures.known id view is c.in-Some.commit.now c.in-Some.ensures.commit in
    subst (λ (t : Id). IsWalkable known 257 t) (sym tree) (tree-walkable known c.in-Some.ensures.known id view is)

pub visit_object-requires : goal.visit_object-requires
visit_object-requires c = c.in_ok-visit_tree.ensures.visits.walk

pub returns-clause-visits : goal.returns-clause-visits
returns-clause-visits c =
    let known = c.args.store.now in
    let id = c.args.id.now in
    let a = met_by known c.args.self.now in
    let b = met_by known c.visit_tree.new.self in
    let d = met_by known c.visit_object.new.self in
    let v = c.in_ok-visit_object.ensures in
    λ view is.
    let tree : c.commit-2.inside.tree ≡ (view.value).tree_id = ap (λ (v : Commit). v.tree_id) c.commit-2.view_is ∙ tree-is known c.in-Some.ensures.known id view is c.in-Some.commit.now c.in-Some.ensures.commit in
    record {
      visited = subst (λ (os : List Object). Visited os a d) (sym (objects-of known c.in-Some.ensures.known id view is))
          (visited-append (walk_objects known 257 (view.value).tree_id) (objects_at known id) a b d (subst (λ (t : Id). Visited (walk_objects known 257 t) a b) tree c.in_ok-visit_tree.ensures.visits.visited) v.visited);
      walk = v.walk;
    }

pub returns-clause-closed : goal.returns-clause-closed
returns-clause-closed c =
    let known = c.args.store.now in
    own-closed known c.in-Some.ensures.known c.args.id.now c.requires.commit.0 c.requires.commit.1 (met_by known c.visit_tree.new.self) (met_by known c.visit_object.new.self) c.in_ok-visit_tree.ensures.closed c.in_ok-visit_object.ensures.visited

pub returns-clause-entries : goal.returns-clause-entries
returns-clause-entries c =
    let known = c.args.store.now in
    let b = met_by known c.visit_tree.new.self in
    let d = met_by known c.visit_object.new.self in
    let root = c.commit-2.inside.tree in
    let id = c.args.id.now in
    let view = c.requires.commit.0 in
    let is = c.requires.commit.1 in
    let tree : root ≡ (view.value).tree_id = ap (λ (v : Commit). v.tree_id) c.commit-2.view_is ∙ tree-is known c.in-Some.ensures.known id view is c.in-Some.commit.now c.in-Some.ensures.commit in
    let met = root-met known b.met 257 root (subst (λ (t : Id). IsWalkable known 257 t) (sym tree) (tree-walkable known c.in-Some.ensures.known id view is)) (visited-met (walk_objects known 257 root) (met_by known c.args.self.now) b c.in_ok-visit_tree.ensures.visits.visited) in
    c.entries_of.ensures d.met (own-closed known c.in-Some.ensures.known c.args.id.now c.requires.commit.0 c.requires.commit.1 b d c.in_ok-visit_tree.ensures.closed c.in_ok-visit_object.ensures.visited) (id-later (objects_at known c.args.id.now) b d root c.in_ok-visit_object.ensures.visited met)
