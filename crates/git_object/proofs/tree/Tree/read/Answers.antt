use Rattle.std.proofs.Common.{List, sym, subst, arith}
use Rattle.text_model.proofs.ByteLemmas.{IsBytes-by_index}
use Rattle.git_model.specs.Tree.{TreeEntry, tree_fault}
use Rattle.git_model.proofs.TreeLemmas.{first_entry-takes}
use Rattle.git_model.proofs.TreeReadLemmas.{TreeTo, tree_none, tree_more, tree_may_follow, tree_all, read_cut, read_all_fits, read_all_entries, nothing_left}
use Rattle.git_object.specs.Values.{mode_value, raw_entry}
use Rattle.git_object.proofs.TreeSteps.{bad_entry, refused}
use Rattle.git_object.proofs.tree.Tree.read.Goals as goal

pub entries-init : goal.entries-init
entries-init c =
    let content = c.args.content.now in
    record { to = subst (λ (t : List TreeEntry). TreeTo content t content) (sym c.new-tree.ensures) (tree_none content (IsBytes-by_index content (λ i. omega (arith, c.type_inv.content i)))); within = omega arith }

pub returns-in_default-clause-fault : goal.returns-in_default-clause-fault
returns-in_default-clause-fault c = read_cut c.args.content.now c.entries.tree c.entries.rest.now c.entries.invariant.to.to (sym c.in_default.ensures) (sym c.entries-test.ensures)

pub returns-in_err-mode-clause-fault : goal.returns-in_err-mode-clause-fault
returns-in_err-mode-clause-fault c =
    let bad = bad_entry c.args.content.now c.entries.tree c.entries.rest.now (raw_entry c.in-Some.raw) c.in-Some.after.now c.in_err-mode.field-0.0 c.entries.invariant.to (sym c.in-Some.ensures) c.in_err-mode.ensures.fault in
    refused (tree_fault c.args.content.now) c.in_err-mode.field-0.0 bad c.from_residual.result c.from_residual.ensures.1

pub push-requires : goal.push-requires
push-requires c =
    let raw = raw_entry c.in-Some.raw in
    let e : TreeEntry = record { mode = mode_value c.in_ok-mode.mode; name = raw.name; id = raw.id } in
    rw c.in_ok-name.ensures (tree_may_follow c.args.content.now c.entries.tree c.entries.rest.now raw c.in-Some.after.now e c.entries.invariant.to (sym c.in-Some.ensures) c.in_ok-mode.ensures.ok)

pub entries-smaller : goal.entries-smaller
entries-smaller c = omega (arith, (first_entry-takes c.entries.rest.now (raw_entry c.in-Some.raw) c.in-Some.after.now (sym c.in-Some.ensures)).len)

pub entries-preserved : goal.entries-preserved
entries-preserved c =
    let raw = raw_entry c.in-Some.raw in
    let e : TreeEntry = record { mode = mode_value c.in_ok-mode.mode; name = raw.name; id = raw.id } in
    let to = tree_more c.args.content.now c.entries.tree c.entries.rest.now raw c.in-Some.after.now e c.entries.invariant.to (sym c.in-Some.ensures) c.in_ok-mode.ensures.ok in
    rw (c.in_ok-push.ensures.ok, c.in_ok-name.ensures) (record { to = to; within = to.to.within })

pub returns-clause-ok : goal.returns-clause-ok
returns-clause-ok c = tree_all c.args.content.now c.entries.tree (nothing_left c.args.content.now c.entries.tree c.entries.rest.now c.entries.invariant.to (sym c.entries-test.ensures))

pub returns-clause-fits : goal.returns-clause-fits
returns-clause-fits c = read_all_fits c.args.content.now c.entries.tree (nothing_left c.args.content.now c.entries.tree c.entries.rest.now c.entries.invariant.to (sym c.entries-test.ensures)).to

pub returns-clause-entries : goal.returns-clause-entries
returns-clause-entries c = sym (read_all_entries c.args.content.now c.entries.tree (nothing_left c.args.content.now c.entries.tree c.entries.rest.now c.entries.invariant.to (sym c.entries-test.ensures)).to)
