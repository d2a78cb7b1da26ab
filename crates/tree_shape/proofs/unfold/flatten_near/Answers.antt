use Rattle.std.proofs.Common.{◌≡◌, ◌∙◌, sym, ap, subst, List, Option}
use Rattle.std.proofs.lemmas.Result.{err_from_is_err_and}
use Rattle.git_model.specs.Unfold.{FileRow, WalkFault, IsUnfolding, by_paths}
use Rattle.git_model.specs.Shape.{root_of, trees_of}
use Rattle.git_model.proofs.SortLemmas.{Ascends, Distinct}
use Rattle.tree_shape.specs.Orders.{met_path}
use Rattle.tree_shape.specs.Faults.{IsTreeFault}
use Rattle.tree_shape.specs.Laws.{AreKnown}
use Rattle.tree_shape.specs.Sets.{IsFiles}
use Rattle.tree_shape.proofs.Unfolding.{unfolds, walk-files, met-ascends, met-distinct}
use Rattle.tree_shape.proofs.WalkLemmas.{no-root, walk-fault, root-fault, whole-walk}
use Rattle.tree_shape.proofs.Again.{root-again, trees-again}
use Rattle.tree_shape.proofs.unfold.flatten_near.Goals as goal

pub returns-in_default-clause-fault : goal.returns-in_default-clause-fault
returns-in_default-clause-fault g c = no-root (g.G.Objects.objects c.args.store.now) c.args.root.now (sym c.in_default.ensures.tree)

pub returns-in_err-visit_tree-clause-fault : goal.returns-in_err-visit_tree-clause-fault
returns-in_err-visit_tree-clause-fault g c =
    let p = err_from_is_err_and c.from_residual.result c.from_residual.ensures.1 in
    rw (p.1, p.2) (subst (λ (o : Option WalkFault). IsTreeFault o c.in_err-visit_tree.field-0.0)
    (root-fault (g.G.Objects.objects c.args.store.now) c.args.root.now c.in-Some.tree.now c.new-walk.result.size c.new-walk.result.path.items (sym c.in-Some.ensures.tree) c.new-walk.ensures.size c.new-walk.ensures.path) c.in_err-visit_tree.ensures.fault)

pub rows_by_paths-requires-clause-order : goal.rows_by_paths-requires-clause-order
rows_by_paths-requires-clause-order g c =
    let known = g.G.Objects.objects c.args.store.now in
    let w = whole-walk (g.G.Objects.objects c.args.store.now) c.args.root.now c.in-Some.tree.now _ _ _ _ _ (sym c.in-Some.ensures.tree) c.new-walk.ensures.size c.new-walk.ensures.path c.new-walk.ensures.rows c.in_ok-visit_tree.ensures.ok in
    subst (λ (rows : List FileRow). Ascends met_path rows) (sym (c.into_rows.ensures ∙ w.are)) (met-ascends known c.args.root.now c.in-Some.ensures.objects)

pub rows_by_paths-requires-clause-paths : goal.rows_by_paths-requires-clause-paths
rows_by_paths-requires-clause-paths g c =
    let known = g.G.Objects.objects c.args.store.now in
    let w = whole-walk (g.G.Objects.objects c.args.store.now) c.args.root.now c.in-Some.tree.now _ _ _ _ _ (sym c.in-Some.ensures.tree) c.new-walk.ensures.size c.new-walk.ensures.path c.new-walk.ensures.rows c.in_ok-visit_tree.ensures.ok in
    subst (λ (rows : List FileRow). Distinct (λ (r : FileRow). r.path) rows) (sym (c.into_rows.ensures ∙ w.are)) (met-distinct known c.args.root.now c.in-Some.ensures.objects)

pub keep-requires : goal.keep-requires
keep-requires g c =
    let known = g.G.Objects.objects c.args.store.now in
    let w = whole-walk (g.G.Objects.objects c.args.store.now) c.args.root.now c.in-Some.tree.now _ _ _ _ _ (sym c.in-Some.ensures.tree) c.new-walk.ensures.size c.new-walk.ensures.path c.new-walk.ensures.rows c.in_ok-visit_tree.ensures.ok in
    subst (λ (rows : List FileRow). IsFiles rows) (sym (c.in_ok-rows.ensures ∙ ap by_paths (c.into_rows.ensures ∙ w.are))) (walk-files known c.args.root.now c.in-Some.ensures.objects (sym (walk-fault known c.args.root.now c.in-Some.tree.now (sym c.in-Some.ensures.tree)) ∙ w.none))

pub returns-clause-unfolds : goal.returns-clause-unfolds
returns-clause-unfolds g c =
    let known = g.G.Objects.objects c.args.store.now in
    let w = whole-walk (g.G.Objects.objects c.args.store.now) c.args.root.now c.in-Some.tree.now _ _ _ _ _ (sym c.in-Some.ensures.tree) c.new-walk.ensures.size c.new-walk.ensures.path c.new-walk.ensures.rows c.in_ok-visit_tree.ensures.ok in
    subst (λ (rows : List FileRow). IsUnfolding known c.args.root.now rows) (sym (c.keep.ensures ∙ c.in_ok-rows.ensures ∙ ap by_paths (c.into_rows.ensures ∙ w.are)))
    (unfolds known c.args.root.now c.in-Some.ensures.objects (sym (walk-fault known c.args.root.now c.in-Some.tree.now (sym c.in-Some.ensures.tree)) ∙ w.none))

pub returns-clause-rows : goal.returns-clause-rows
returns-clause-rows g c =
    c.keep.ensures ∙ c.in_ok-rows.ensures
    ∙ ap by_paths (c.into_rows.ensures ∙ (whole-walk (g.G.Objects.objects c.args.store.now) c.args.root.now c.in-Some.tree.now _ _ _ _ _ (sym c.in-Some.ensures.tree) c.new-walk.ensures.size c.new-walk.ensures.path c.new-walk.ensures.rows c.in_ok-visit_tree.ensures.ok).are)

pub returns-clause-fits : goal.returns-clause-fits
returns-clause-fits g c = (whole-walk (g.G.Objects.objects c.args.store.now) c.args.root.now c.in-Some.tree.now _ _ _ _ _ (sym c.in-Some.ensures.tree) c.new-walk.ensures.size c.new-walk.ensures.path c.new-walk.ensures.rows c.in_ok-visit_tree.ensures.ok).none

pub returns-clause-root : goal.returns-clause-root
returns-clause-root g c =
    let known = g.G.Objects.objects c.args.store.now in
    let w = whole-walk (g.G.Objects.objects c.args.store.now) c.args.root.now c.in-Some.tree.now _ _ _ _ _ (sym c.in-Some.ensures.tree) c.new-walk.ensures.size c.new-walk.ensures.path c.new-walk.ensures.rows c.in_ok-visit_tree.ensures.ok in
    subst (λ (rows : List FileRow). root_of rows ≡ c.args.root.now) (sym (c.keep.ensures ∙ c.in_ok-rows.ensures ∙ ap by_paths (c.into_rows.ensures ∙ w.are))) (root-again known c.in-Some.ensures.objects c.args.root.now w.none)

pub returns-clause-trees : goal.returns-clause-trees
returns-clause-trees g c =
    let known = g.G.Objects.objects c.args.store.now in
    let w = whole-walk (g.G.Objects.objects c.args.store.now) c.args.root.now c.in-Some.tree.now _ _ _ _ _ (sym c.in-Some.ensures.tree) c.new-walk.ensures.size c.new-walk.ensures.path c.new-walk.ensures.rows c.in_ok-visit_tree.ensures.ok in
    subst (λ (rows : List FileRow). AreKnown known (trees_of rows)) (sym (c.keep.ensures ∙ c.in_ok-rows.ensures ∙ ap by_paths (c.into_rows.ensures ∙ w.are))) (trees-again known c.in-Some.ensures.objects c.args.root.now w.none)
