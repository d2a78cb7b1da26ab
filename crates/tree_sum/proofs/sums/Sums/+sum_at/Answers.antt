use Rattle.std.proofs.Common.{List, IsTrue, ◌+◌, ◌-◌, length, sym, ap, subst, ◌∙◌, arith}
use Rattle.text_model.specs.Id.{Id}
use Rattle.git_model.specs.Tree.{is_directory}
use Rattle.tree_sum.specs.declared.sum.Sum.{Sum}
use Rattle.tree_sum.specs.Sums.{IsSum, AreSums, IsAnswer, is_summed}
use Rattle.tree_sum.proofs.Keeping.{kept-at, kept-answer, sum-within}
use Rattle.tree_sum.proofs.Turns.{Done, turn-of, turn-name, turn-level, file-refused, file-on, directory-refused, directory-over, directory-on, done-none, done-all}
use Rattle.tree_sum.proofs.sums.Sums.+sum_at.Goals as goal
use Rattle.tree_sum.proofs.sums.Sums.+sum_at.Goals.{then-is_directory+in_ok-below+in-Some-2+in-Some-with_entry, else-is_directory+in-Some-with_file}

pub returns-in-Some-clause-ok : goal.returns-in-Some-clause-ok
returns-in-Some-clause-ok t c =
    let known = c.args.store.now in
    let sum : IsSum known c.args.id.now c.in-Some.sum = kept-at (λ (x : Id × Sum). IsSum known x.0 x.1) c.args.self.now c.args.id.now c.in-Some.sum c.requires.sums (sym c.in-Some.ensures) in
    kept-answer known c.args.levels c.args.id.now c.in-Some.sum c.up_to.result sum.objects c.requires.levels sum c.up_to.ensures

pub returns-in-Some-clause-objects : goal.returns-in-Some-clause-objects
returns-in-Some-clause-objects t c = (kept-at (λ (x : Id × Sum). IsSum c.args.store.now x.0 x.1) c.args.self.now c.args.id.now c.in-Some.sum c.requires.sums (sym c.in-Some.ensures)).objects

pub entries-init : goal.entries-init
entries-init t c = record { sums = c.requires.sums; stays = λ x h. h; done = done-none c.args.store.now c.args.levels c.entries-entry-items.result.now c.nothing-sum.result c.nothing-sum.ensures }

pub returns-then-levels-eq0-clause-ok : goal.returns-then-levels-eq0-clause-ok
returns-then-levels-eq0-clause-ok t c =
    let turn = turn-of c.args.store.now c.args.levels c.args.id.now c.in-Some-tree.tree.now c.entries-entry-items.result.now c.entries.entry-index c.entry-item.result c.entries.sum
    c.in-Some-tree.ensures.tree c.entries-entry-items.ensures.entries c.entries.invariant.done c.entries-test.true c.entry-item.is in
    turn-level c.args.store.now c.in-Some-tree.ensures.objects c.args.levels c.args.id.now c.entries-entry-items.result.now c.entries.entry-index c.entry-item.result c.entries.sum turn c.if-levels-eq0.true

pub returns-in_default-2-clause-ok : goal.returns-in_default-2-clause-ok
returns-in_default-2-clause-ok t c =
    let turn = turn-of c.args.store.now c.args.levels c.args.id.now c.in-Some-tree.tree.now c.entries-entry-items.result.now c.entries.entry-index c.entry-item.result c.entries.sum
    c.in-Some-tree.ensures.tree c.entries-entry-items.ensures.entries c.entries.invariant.done c.entries-test.true c.entry-item.is in
    directory-refused c.args.store.now c.in-Some-tree.ensures.objects c.args.levels c.requires.levels c.if-levels-eq0.false c.args.id.now c.entries-entry-items.result.now c.entries.entry-index c.entry-item.result c.entries.sum turn
    (ap is_directory (sym c.mode.ensures) ∙ sym c.is_directory.ensures ∙ c.if-is_directory.true) c.id.result.now c.id.ensures
    (subst (IsAnswer c.args.store.now (c.args.levels - 1) c.id.result.now) c.in_default-2.is c.in_ok-below.ensures.ok)

pub with_entry-requires-clause-below : goal.with_entry-requires-clause-below
with_entry-requires-clause-below t c = sum-within c.args.store.now c.id.result.now c.in-Some-2.below c.in-Some-tree.ensures.objects (subst (IsAnswer c.args.store.now (c.args.levels - 1) c.id.result.now) c.in-Some-2.is c.in_ok-below.ensures.ok).1

pub with_entry-requires-clause-name : goal.with_entry-requires-clause-name
with_entry-requires-clause-name t c =
    let turn = turn-of c.args.store.now c.args.levels c.args.id.now c.in-Some-tree.tree.now c.entries-entry-items.result.now c.entries.entry-index c.entry-item.result c.entries.sum
    c.in-Some-tree.ensures.tree c.entries-entry-items.ensures.entries c.entries.invariant.done c.entries-test.true c.entry-item.is in
    omega (arith, ap length c.name.ensures, turn-name c.args.store.now c.in-Some-tree.ensures.objects c.args.levels c.args.id.now c.entries-entry-items.result.now c.entries.entry-index c.entry-item.result c.entries.sum turn)

pub returns-in_default-with_entry-clause-ok : goal.returns-in_default-with_entry-clause-ok
returns-in_default-with_entry-clause-ok t c =
    let turn = turn-of c.args.store.now c.args.levels c.args.id.now c.in-Some-tree.tree.now c.entries-entry-items.result.now c.entries.entry-index c.entry-item.result c.entries.sum
    c.in-Some-tree.ensures.tree c.entries-entry-items.ensures.entries c.entries.invariant.done c.entries-test.true c.entry-item.is in
    directory-over c.args.store.now c.in-Some-tree.ensures.objects c.args.levels c.requires.levels c.if-levels-eq0.false c.args.id.now c.entries-entry-items.result.now c.entries.entry-index c.entry-item.result c.entries.sum turn
    (ap is_directory (sym c.mode.ensures) ∙ sym c.is_directory.ensures ∙ c.if-is_directory.true) c.id.result.now c.id.ensures c.name.result.now c.name.ensures c.in-Some-2.below
    (subst (IsAnswer c.args.store.now (c.args.levels - 1) c.id.result.now) c.in-Some-2.is c.in_ok-below.ensures.ok) c.in_default-with_entry.ensures

pub with_file-requires-clause-name : goal.with_file-requires-clause-name
with_file-requires-clause-name t c =
    let turn = turn-of c.args.store.now c.args.levels c.args.id.now c.in-Some-tree.tree.now c.entries-entry-items.result.now c.entries.entry-index c.entry-item.result c.entries.sum
    c.in-Some-tree.ensures.tree c.entries-entry-items.ensures.entries c.entries.invariant.done c.entries-test.true c.entry-item.is in
    turn-name c.args.store.now c.in-Some-tree.ensures.objects c.args.levels c.args.id.now c.entries-entry-items.result.now c.entries.entry-index c.entry-item.result c.entries.sum turn

pub returns-in_default-with_file-clause-ok : goal.returns-in_default-with_file-clause-ok
returns-in_default-with_file-clause-ok t c =
    let turn = turn-of c.args.store.now c.args.levels c.args.id.now c.in-Some-tree.tree.now c.entries-entry-items.result.now c.entries.entry-index c.entry-item.result c.entries.sum
    c.in-Some-tree.ensures.tree c.entries-entry-items.ensures.entries c.entries.invariant.done c.entries-test.true c.entry-item.is in
    file-refused c.args.store.now c.in-Some-tree.ensures.objects c.args.levels c.args.id.now c.entries-entry-items.result.now c.entries.entry-index c.entry-item.result c.entries.sum turn
    (ap is_directory (sym c.mode.ensures) ∙ sym c.is_directory.ensures ∙ c.if-is_directory.false) c.in_default-with_file.ensures

pub entries-preserved : goal.entries-preserved
entries-preserved t c =
    let turn = turn-of c.args.store.now c.args.levels c.args.id.now c.in-Some-tree.tree.now c.entries-entry-items.result.now c.entries.entry-index c.entry-item.result c.entries.sum
    c.in-Some-tree.ensures.tree c.entries-entry-items.ensures.entries c.entries.invariant.done c.entries-test.true c.entry-item.is in
    let E = Done c.args.store.now c.args.levels c.entries-entry-items.result.now (c.entries.entry-index + 1) in
    elim c.if-is_directory.branch [
      | then-is_directory+in_ok-below+in-Some-2+in-Some-with_entry w ↦ record {
        sums = subst (AreSums c.args.store.now) (sym w.self-is) w.in_ok-below.ensures.sums;
        stays = λ x h. subst (λ (sums : List (Id × Sum)). IsTrue (is_summed sums x)) (sym w.self-is) (w.in_ok-below.ensures.stays x (c.entries.invariant.stays x h));
        done = subst E (sym w.sum-is) (directory-on c.args.store.now c.in-Some-tree.ensures.objects c.args.levels c.requires.levels c.if-levels-eq0.false c.args.id.now c.entries-entry-items.result.now c.entries.entry-index c.entry-item.result c.entries.sum turn
            (ap is_directory (sym c.mode.ensures) ∙ sym c.is_directory.ensures ∙ w.if-is_directory.true) w.id.result.now w.id.ensures w.name.result.now w.name.ensures w.in-Some-2.below
            (subst (IsAnswer c.args.store.now (c.args.levels - 1) w.id.result.now) w.in-Some-2.is w.in_ok-below.ensures.ok) w.in-Some-with_entry.more w.in-Some-with_entry.ensures);
      }
      | else-is_directory+in-Some-with_file w ↦ record {
        sums = subst (AreSums c.args.store.now) (sym w.self-is) c.entries.invariant.sums;
        stays = λ x h. subst (λ (sums : List (Id × Sum)). IsTrue (is_summed sums x)) (sym w.self-is) (c.entries.invariant.stays x h);
        done = subst E (sym w.sum-is) (file-on c.args.store.now c.in-Some-tree.ensures.objects c.args.levels c.args.id.now c.entries-entry-items.result.now c.entries.entry-index c.entry-item.result c.entries.sum turn (ap is_directory (sym c.mode.ensures) ∙ sym c.is_directory.ensures ∙ w.if-is_directory.false) w.in-Some-with_file.more w.in-Some-with_file.ensures);
      }
    ]

pub returns-in_err-put-clause-sums : goal.returns-in_err-put-clause-sums
returns-in_err-put-clause-sums t c =
    c.in_err-put.ensures.sums c.args.store.now c.entries.invariant.sums
    (done-all c.args.store.now c.args.levels c.args.id.now c.in-Some-tree.tree.now c.entries-entry-items.result.now c.entries.entry-index c.entries.sum c.in-Some-tree.ensures.objects c.requires.levels c.in-Some-tree.ensures.tree c.entries-entry-items.ensures.entries
    (omega (arith, c.entries-test.false)) c.entries.invariant.done).1

pub returns-clause-sums : goal.returns-clause-sums
returns-clause-sums t c =
    c.in_ok-put.ensures.sums c.args.store.now c.entries.invariant.sums
    (done-all c.args.store.now c.args.levels c.args.id.now c.in-Some-tree.tree.now c.entries-entry-items.result.now c.entries.entry-index c.entries.sum c.in-Some-tree.ensures.objects c.requires.levels c.in-Some-tree.ensures.tree c.entries-entry-items.ensures.entries
    (omega (arith, c.entries-test.false)) c.entries.invariant.done).1

pub returns-clause-ok : goal.returns-clause-ok
returns-clause-ok t c =
    done-all c.args.store.now c.args.levels c.args.id.now c.in-Some-tree.tree.now c.entries-entry-items.result.now c.entries.entry-index c.entries.sum c.in-Some-tree.ensures.objects c.requires.levels c.in-Some-tree.ensures.tree c.entries-entry-items.ensures.entries
    (omega (arith, c.entries-test.false)) c.entries.invariant.done
