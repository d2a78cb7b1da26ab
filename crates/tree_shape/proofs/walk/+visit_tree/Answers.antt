use Rattle.std.proofs.Common.{◌≡◌, ◌&&◌, ◌∙◌, ◌-◌, length, take, refl, sym, ap, subst, arith}
use Rattle.std.specs.Prelude.{nat_le, nat_lt}
use Rattle.std.proofs.lemmas.Result.{err_from_is_err_and}
use Rattle.text_model.specs.Text.{Bytes}
use Rattle.text_model.specs.Id.{Id}
use Rattle.git_model.specs.Object.{tree_at}
use Rattle.git_model.specs.Unfold.{joined_path, first_visit_fault}
use Rattle.tree_shape.specs.Faults.{IsTreeFault, IsSubtreeFault}
use Rattle.tree_shape.specs.Walks.{IsFront, entries_visits, Walked}
use Rattle.tree_shape.proofs.WalkLemmas.{Walked-none}
use Rattle.tree_shape.proofs.FitLemmas.{cut-back}
use Rattle.tree_shape.proofs.WalkSteps.{Start, left, fits, deeper-front, too-long, entry-refused, subtree-refused, below-refused, went-through, went-past}
use Rattle.tree_shape.proofs.walk.+visit_tree.Goals as goal
use Rattle.tree_shape.proofs.walk.+visit_tree.Goals.{then-is_directory+in_ok-subtree+in_ok-enter+in_ok-visit_tree, else-is_directory+in_ok-put_file}

pub entries-init : goal.entries-init
entries-init g t c = record { path = refl; walked = Walked-none _ _ _ c.requires.within }

pub returns-then-not-is_short-clause-fault : goal.returns-then-not-is_short-clause-fault
returns-then-not-is_short-clause-fault g t c =
    let known = g.G.Objects.objects c.args.store.now in
    let s : Start known c.args.levels c.args.walk.now.path.items c.args.tree.now c.entries-entries.result.now c.args.walk.now.size c.entries.walk.size c.args.walk.now.rows.items c.entries.walk.rows.items c.entries.entry-index c.entry-item.result
    c.push_name.new.path.items c.is_short.result = record {
      same = c.entries-entries.ensures.entries;
      is_tree = c.entries-entries.ensures.tree;
      front = c.requires.front;
      walked = c.entries.invariant.walked;
      turn = record {
        within = c.entries-test.true;
        is = c.entry-item.is;
        joins = c.in_ok-push_name.ensures ∙ (λ k. joined_path (c.entries.invariant.path k) (c.name.ensures k));
      };
      test = c.is_short.ensures ∙ ap (λ (p : Bytes). nat_lt 0 c.args.levels && nat_le (length p) 4096) c.as_slice.ensures.value;
    } in
    too-long known c.args.levels c.args.walk.now.path.items c.args.tree.now c.entries-entries.result.now c.args.walk.now.size c.entries.walk.size c.args.walk.now.rows.items c.entries.walk.rows.items c.entries.entry-index c.entry-item.result
    c.push_name.new.path.items c.is_short.result s (cc (c.if-not-is_short.true))

pub returns-in_err-subtree-clause-fault : goal.returns-in_err-subtree-clause-fault
returns-in_err-subtree-clause-fault g t c =
    let known = g.G.Objects.objects c.args.store.now in
    let s : Start known c.args.levels c.args.walk.now.path.items c.args.tree.now c.entries-entries.result.now c.args.walk.now.size c.entries.walk.size c.args.walk.now.rows.items c.entries.walk.rows.items c.entries.entry-index c.entry-item.result
    c.push_name.new.path.items c.is_short.result = record {
      same = c.entries-entries.ensures.entries;
      is_tree = c.entries-entries.ensures.tree;
      front = c.requires.front;
      walked = c.entries.invariant.walked;
      turn = record {
        within = c.entries-test.true;
        is = c.entry-item.is;
        joins = c.in_ok-push_name.ensures ∙ (λ k. joined_path (c.entries.invariant.path k) (c.name.ensures k));
      };
      test = c.is_short.ensures ∙ ap (λ (p : Bytes). nat_lt 0 c.args.levels && nat_le (length p) 4096) c.as_slice.ensures.value;
    } in
    let p = err_from_is_err_and c.from_residual-in_err-subtree.result c.from_residual-in_err-subtree.ensures.1 in
    rw (p.1, p.2) (subtree-refused known c.args.levels c.args.walk.now.path.items c.args.tree.now c.entries-entries.result.now c.args.walk.now.size c.entries.walk.size c.args.walk.now.rows.items c.entries.walk.rows.items c.entries.entry-index c.entry-item.result
    c.push_name.new.path.items c.is_short.result s c.in_err-subtree.field-0.0 (cc (c.if-not-is_short.false)) (cc (c.mode.ensures, c.is_directory.ensures, c.if-is_directory.true))
    (subst (λ (i : Id). IsSubtreeFault (tree_at known i) i c.in_err-subtree.field-0.0) c.id.ensures c.in_err-subtree.ensures.fault))

pub enter-requires-clause-fit : goal.enter-requires-clause-fit
enter-requires-clause-fit g t c =
    let known = g.G.Objects.objects c.args.store.now in
    let s : Start known c.args.levels c.args.walk.now.path.items c.args.tree.now c.entries-entries.result.now c.args.walk.now.size c.entries.walk.size c.args.walk.now.rows.items c.entries.walk.rows.items c.entries.entry-index c.entry-item.result
    c.push_name.new.path.items c.is_short.result = record {
      same = c.entries-entries.ensures.entries;
      is_tree = c.entries-entries.ensures.tree;
      front = c.requires.front;
      walked = c.entries.invariant.walked;
      turn = record {
        within = c.entries-test.true;
        is = c.entry-item.is;
        joins = c.in_ok-push_name.ensures ∙ (λ k. joined_path (c.entries.invariant.path k) (c.name.ensures k));
      };
      test = c.is_short.ensures ∙ ap (λ (p : Bytes). nat_lt 0 c.args.levels && nat_le (length p) 4096) c.as_slice.ensures.value;
    } in
    fits known c.args.levels c.args.walk.now.path.items c.args.tree.now c.entries-entries.result.now c.args.walk.now.size c.entries.walk.size c.args.walk.now.rows.items c.entries.walk.rows.items c.entries.entry-index c.entry-item.result
    c.push_name.new.path.items c.is_short.result s ∙ (cc (c.if-not-is_short.false))

pub enter-requires-clause-subtree : goal.enter-requires-clause-subtree
enter-requires-clause-subtree g t c = ap (tree_at (g.G.Objects.objects c.args.store.now)) (sym c.id.ensures) ∙ c.in_ok-subtree.ensures.ok

pub returns-in_err-enter-clause-fault : goal.returns-in_err-enter-clause-fault
returns-in_err-enter-clause-fault g t c =
    let known = g.G.Objects.objects c.args.store.now in
    let s : Start known c.args.levels c.args.walk.now.path.items c.args.tree.now c.entries-entries.result.now c.args.walk.now.size c.entries.walk.size c.args.walk.now.rows.items c.entries.walk.rows.items c.entries.entry-index c.entry-item.result
    c.push_name.new.path.items c.is_short.result = record {
      same = c.entries-entries.ensures.entries;
      is_tree = c.entries-entries.ensures.tree;
      front = c.requires.front;
      walked = c.entries.invariant.walked;
      turn = record {
        within = c.entries-test.true;
        is = c.entry-item.is;
        joins = c.in_ok-push_name.ensures ∙ (λ k. joined_path (c.entries.invariant.path k) (c.name.ensures k));
      };
      test = c.is_short.ensures ∙ ap (λ (p : Bytes). nat_lt 0 c.args.levels && nat_le (length p) 4096) c.as_slice.ensures.value;
    } in
    let p = err_from_is_err_and c.from_residual-in_err-enter.result c.from_residual-in_err-enter.ensures.1 in
    rw (p.1, p.2) (entry-refused known c.args.levels c.args.walk.now.path.items c.args.tree.now c.entries-entries.result.now c.args.walk.now.size c.entries.walk.size c.args.walk.now.rows.items c.entries.walk.rows.items c.entries.entry-index c.entry-item.result
    c.push_name.new.path.items c.is_short.result s c.in_err-enter.field-0.0 c.in_err-enter.ensures.fault)

pub visit_tree-requires : goal.visit_tree-requires
visit_tree-requires g t c κs within =
    let known = g.G.Objects.objects c.args.store.now in
    let s : Start known c.args.levels c.args.walk.now.path.items c.args.tree.now c.entries-entries.result.now c.args.walk.now.size c.entries.walk.size c.args.walk.now.rows.items c.entries.walk.rows.items c.entries.entry-index c.entry-item.result
    c.push_name.new.path.items c.is_short.result = record {
      same = c.entries-entries.ensures.entries;
      is_tree = c.entries-entries.ensures.tree;
      front = c.requires.front;
      walked = c.entries.invariant.walked;
      turn = record {
        within = c.entries-test.true;
        is = c.entry-item.is;
        joins = c.in_ok-push_name.ensures ∙ (λ k. joined_path (c.entries.invariant.path k) (c.name.ensures k));
      };
      test = c.is_short.ensures ∙ ap (λ (p : Bytes). nat_lt 0 c.args.levels && nat_le (length p) 4096) c.as_slice.ensures.value;
    } in (
      omega (
        arith,
        left known c.args.levels c.args.walk.now.path.items c.args.tree.now c.entries-entries.result.now c.args.walk.now.size c.entries.walk.size c.args.walk.now.rows.items c.entries.walk.rows.items c.entries.entry-index c.entry-item.result
            c.push_name.new.path.items c.is_short.result s (cc (c.if-not-is_short.false)),
        c.decreases,
      ),
      (
        within,
        (
          c.in_ok-enter.ensures.ok.within,
          subst (λ (p : Bytes). IsFront (c.args.levels - 1) p) (sym c.in_ok-enter.ensures.path) (deeper-front known c.args.levels c.args.walk.now.path.items c.args.tree.now c.entries-entries.result.now c.args.walk.now.size c.entries.walk.size c.args.walk.now.rows.items c.entries.walk.rows.items c.entries.entry-index c.entry-item.result
              c.push_name.new.path.items c.is_short.result s (cc (c.if-not-is_short.false))),
        ),
      ),
    )

pub returns-in_err-visit_tree-clause-fault : goal.returns-in_err-visit_tree-clause-fault
returns-in_err-visit_tree-clause-fault g t c =
    let known = g.G.Objects.objects c.args.store.now in
    let s : Start known c.args.levels c.args.walk.now.path.items c.args.tree.now c.entries-entries.result.now c.args.walk.now.size c.entries.walk.size c.args.walk.now.rows.items c.entries.walk.rows.items c.entries.entry-index c.entry-item.result
    c.push_name.new.path.items c.is_short.result = record {
      same = c.entries-entries.ensures.entries;
      is_tree = c.entries-entries.ensures.tree;
      front = c.requires.front;
      walked = c.entries.invariant.walked;
      turn = record {
        within = c.entries-test.true;
        is = c.entry-item.is;
        joins = c.in_ok-push_name.ensures ∙ (λ k. joined_path (c.entries.invariant.path k) (c.name.ensures k));
      };
      test = c.is_short.ensures ∙ ap (λ (p : Bytes). nat_lt 0 c.args.levels && nat_le (length p) 4096) c.as_slice.ensures.value;
    } in
    let p = err_from_is_err_and c.from_residual-in_err-visit_tree.result c.from_residual-in_err-visit_tree.ensures.1 in
    rw (p.1, p.2) (below-refused known c.args.levels c.args.walk.now.path.items c.args.tree.now c.entries-entries.result.now c.args.walk.now.size c.entries.walk.size c.args.walk.now.rows.items c.entries.walk.rows.items c.entries.entry-index c.entry-item.result
    c.push_name.new.path.items c.is_short.result s c.in_err-visit_tree.field-0.0 c.in_ok-subtree.subtree.now c.enter.new.self.size c.enter.new.self.rows.items (cc (c.if-not-is_short.false)) (cc (c.mode.ensures, c.is_directory.ensures, c.if-is_directory.true))
    (ap (tree_at known) (sym c.id.ensures) ∙ c.in_ok-subtree.ensures.ok) c.in_ok-enter.ensures.ok
    (subst (λ (p : Bytes). IsTreeFault (first_visit_fault known c.enter.new.self.size (entries_visits known (c.args.levels - 1) p c.in_ok-subtree.subtree.now)) c.in_err-visit_tree.field-0.0) c.in_ok-enter.ensures.path c.in_err-visit_tree.ensures.fault))

pub put_file-requires-clause-fit : goal.put_file-requires-clause-fit
put_file-requires-clause-fit g t c =
    let known = g.G.Objects.objects c.args.store.now in
    let s : Start known c.args.levels c.args.walk.now.path.items c.args.tree.now c.entries-entries.result.now c.args.walk.now.size c.entries.walk.size c.args.walk.now.rows.items c.entries.walk.rows.items c.entries.entry-index c.entry-item.result
    c.push_name.new.path.items c.is_short.result = record {
      same = c.entries-entries.ensures.entries;
      is_tree = c.entries-entries.ensures.tree;
      front = c.requires.front;
      walked = c.entries.invariant.walked;
      turn = record {
        within = c.entries-test.true;
        is = c.entry-item.is;
        joins = c.in_ok-push_name.ensures ∙ (λ k. joined_path (c.entries.invariant.path k) (c.name.ensures k));
      };
      test = c.is_short.ensures ∙ ap (λ (p : Bytes). nat_lt 0 c.args.levels && nat_le (length p) 4096) c.as_slice.ensures.value;
    } in
    fits known c.args.levels c.args.walk.now.path.items c.args.tree.now c.entries-entries.result.now c.args.walk.now.size c.entries.walk.size c.args.walk.now.rows.items c.entries.walk.rows.items c.entries.entry-index c.entry-item.result
    c.push_name.new.path.items c.is_short.result s ∙ (cc (c.if-not-is_short.false))

pub returns-in_err-put_file-clause-fault : goal.returns-in_err-put_file-clause-fault
returns-in_err-put_file-clause-fault g t c =
    let known = g.G.Objects.objects c.args.store.now in
    let s : Start known c.args.levels c.args.walk.now.path.items c.args.tree.now c.entries-entries.result.now c.args.walk.now.size c.entries.walk.size c.args.walk.now.rows.items c.entries.walk.rows.items c.entries.entry-index c.entry-item.result
    c.push_name.new.path.items c.is_short.result = record {
      same = c.entries-entries.ensures.entries;
      is_tree = c.entries-entries.ensures.tree;
      front = c.requires.front;
      walked = c.entries.invariant.walked;
      turn = record {
        within = c.entries-test.true;
        is = c.entry-item.is;
        joins = c.in_ok-push_name.ensures ∙ (λ k. joined_path (c.entries.invariant.path k) (c.name.ensures k));
      };
      test = c.is_short.ensures ∙ ap (λ (p : Bytes). nat_lt 0 c.args.levels && nat_le (length p) 4096) c.as_slice.ensures.value;
    } in
    let p = err_from_is_err_and c.from_residual-in_err-put_file.result c.from_residual-in_err-put_file.ensures.1 in
    rw (p.1, p.2) (entry-refused known c.args.levels c.args.walk.now.path.items c.args.tree.now c.entries-entries.result.now c.args.walk.now.size c.entries.walk.size c.args.walk.now.rows.items c.entries.walk.rows.items c.entries.entry-index c.entry-item.result
    c.push_name.new.path.items c.is_short.result s c.in_err-put_file.field-0.0 c.in_err-put_file.ensures.fault)

pub entries-preserved : goal.entries-preserved
entries-preserved g t c =
    let known = g.G.Objects.objects c.args.store.now in
    let s : Start known c.args.levels c.args.walk.now.path.items c.args.tree.now c.entries-entries.result.now c.args.walk.now.size c.entries.walk.size c.args.walk.now.rows.items c.entries.walk.rows.items c.entries.entry-index c.entry-item.result
    c.push_name.new.path.items c.is_short.result = record {
      same = c.entries-entries.ensures.entries;
      is_tree = c.entries-entries.ensures.tree;
      front = c.requires.front;
      walked = c.entries.invariant.walked;
      turn = record {
        within = c.entries-test.true;
        is = c.entry-item.is;
        joins = c.in_ok-push_name.ensures ∙ (λ k. joined_path (c.entries.invariant.path k) (c.name.ensures k));
      };
      test = c.is_short.ensures ∙ ap (λ (p : Bytes). nat_lt 0 c.args.levels && nat_le (length p) 4096) c.as_slice.ensures.value;
    } in
    let len : c.len-front.result ≡ length c.args.walk.now.path.items = c.len-front.ensures ∙ c.args.walk.now.path.ok.0 in
    let front : take c.len-front.result c.push_name.new.path.items ≡ c.args.walk.now.path.items =
    (λ k. take (len k) (s.turn.joins k)) ∙ cut-back c.args.walk.now.path.items c.entry-item.result.name in
    elim c.if-is_directory.branch [
      | then-is_directory+in_ok-subtree+in_ok-enter+in_ok-visit_tree w ↦ record {
        path = c.truncate.ensures.items ∙ ap (λ (p : Bytes). take c.len-front.result p) (cc (w.walk-is, w.in_ok-visit_tree.ensures.path, w.in_ok-enter.ensures.path)) ∙ front;
        walked = rw w.walk-is (went-through known c.args.levels c.args.walk.now.path.items c.args.tree.now c.entries-entries.result.now c.args.walk.now.size c.entries.walk.size c.args.walk.now.rows.items c.entries.walk.rows.items c.entries.entry-index c.entry-item.result
            c.push_name.new.path.items c.is_short.result s w.enter.new.self.size w.visit_tree.new.walk.size w.enter.new.self.rows.items w.visit_tree.new.walk.rows.items w.in_ok-subtree.subtree.now (cc (c.if-not-is_short.false)) (cc (c.mode.ensures, c.is_directory.ensures, w.if-is_directory.true))
            (ap (tree_at known) (sym w.id.ensures) ∙ w.in_ok-subtree.ensures.ok) w.in_ok-enter.ensures.ok
            (subst (λ (p : Bytes). Walked known w.enter.new.self.size w.visit_tree.new.walk.size w.enter.new.self.rows.items w.visit_tree.new.walk.rows.items (entries_visits known (c.args.levels - 1) p w.in_ok-subtree.subtree.now)) w.in_ok-enter.ensures.path w.in_ok-visit_tree.ensures.ok));
      }
      | else-is_directory+in_ok-put_file w ↦ record {
        path = c.truncate.ensures.items ∙ ap (λ (p : Bytes). take c.len-front.result p) (cc (w.walk-is, w.in_ok-put_file.ensures.path)) ∙ front;
        walked = rw w.walk-is (went-past known c.args.levels c.args.walk.now.path.items c.args.tree.now c.entries-entries.result.now c.args.walk.now.size c.entries.walk.size c.args.walk.now.rows.items c.entries.walk.rows.items c.entries.entry-index c.entry-item.result
            c.push_name.new.path.items c.is_short.result s w.put_file.new.self.size w.put_file.new.self.rows.items (cc (c.mode.ensures, c.is_directory.ensures, w.if-is_directory.false)) w.in_ok-put_file.ensures.ok);
      }
    ]
