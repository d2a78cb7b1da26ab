use Rattle.std.proofs.Common.{arith, sym}
use Rattle.text_model.proofs.ByteLemmas.{IsBytes-by_index}
use Rattle.git_model.specs.Commit.{Commit, IsCommitText}
use Rattle.git_model.proofs.CommitLemmas.{commit_fault-text, parent_ids-text}
use Rattle.git_object.proofs.CommitSteps.{no_tree, fathered, no_author, authored, no_committer, committed, no_blank, is_commit}
use Rattle.git_object.proofs.commit.Commit.read.Goals as goal

pub returns-in_default-clause-fault : goal.returns-in_default-clause-fault
returns-in_default-clause-fault c = no_tree c.args.content.now c.in_default.ensures

pub overflow_sub-result : goal.overflow_sub-result
overflow_sub-result c =
    let content = c.args.content.now in
    let rest = c.in_ok-rest.rest.now in
    let f = fathered content c.in-Some.tree.0 c.in-Some.tree.1.now c.new-parents.result c.read_parents.new.parents rest (IsBytes-by_index content (λ i. omega (arith, c.type_inv.content i))) c.in-Some.ensures c.new-parents.ensures c.in_ok-rest.ensures in
    f.within

pub returns-in_default-worded_line-clause-fault : goal.returns-in_default-worded_line-clause-fault
returns-in_default-worded_line-clause-fault c =
    let content = c.args.content.now in
    let rest = c.in_ok-rest.rest.now in
    let f = fathered content c.in-Some.tree.0 c.in-Some.tree.1.now c.new-parents.result c.read_parents.new.parents rest (IsBytes-by_index content (λ i. omega (arith, c.type_inv.content i))) c.in-Some.ensures c.new-parents.ensures c.in_ok-rest.ensures in
    no_author content c.in-Some.tree.0 c.read_parents.new.parents rest f c.in_default-worded_line.ensures

pub overflow_sub-result-in_default-worded_line-2 : goal.overflow_sub-result-in_default-worded_line-2
overflow_sub-result-in_default-worded_line-2 c =
    let content = c.args.content.now in
    let rest = c.in_ok-rest.rest.now in
    let f = fathered content c.in-Some.tree.0 c.in-Some.tree.1.now c.new-parents.result c.read_parents.new.parents rest (IsBytes-by_index content (λ i. omega (arith, c.type_inv.content i))) c.in-Some.ensures c.new-parents.ensures c.in_ok-rest.ensures in
    let a = authored content c.in-Some.tree.0 c.read_parents.new.parents rest c.in-Some-worded_line.author.now c.in-Some-worded_line.behind_author.now f c.in-Some-worded_line.ensures in
    a.within

pub returns-in_default-worded_line-2-clause-fault : goal.returns-in_default-worded_line-2-clause-fault
returns-in_default-worded_line-2-clause-fault c =
    let content = c.args.content.now in
    let rest = c.in_ok-rest.rest.now in
    let f = fathered content c.in-Some.tree.0 c.in-Some.tree.1.now c.new-parents.result c.read_parents.new.parents rest (IsBytes-by_index content (λ i. omega (arith, c.type_inv.content i))) c.in-Some.ensures c.new-parents.ensures c.in_ok-rest.ensures in
    let a = authored content c.in-Some.tree.0 c.read_parents.new.parents rest c.in-Some-worded_line.author.now c.in-Some-worded_line.behind_author.now f c.in-Some-worded_line.ensures in
    no_committer content rest c.in-Some-worded_line.author.now c.in-Some-worded_line.behind_author.now a c.in_default-worded_line-2.ensures

pub overflow_sub-result-in-Err : goal.overflow_sub-result-in-Err
overflow_sub-result-in-Err c =
    let content = c.args.content.now in
    let rest = c.in_ok-rest.rest.now in
    let f = fathered content c.in-Some.tree.0 c.in-Some.tree.1.now c.new-parents.result c.read_parents.new.parents rest (IsBytes-by_index content (λ i. omega (arith, c.type_inv.content i))) c.in-Some.ensures c.new-parents.ensures c.in_ok-rest.ensures in
    let a = authored content c.in-Some.tree.0 c.read_parents.new.parents rest c.in-Some-worded_line.author.now c.in-Some-worded_line.behind_author.now f c.in-Some-worded_line.ensures in
    let k = committed content rest c.in-Some-worded_line.author.now c.in-Some-worded_line.behind_author.now c.in-Some-worded_line-2.committer.now c.in-Some-worded_line-2.rest.now a c.in-Some-worded_line-2.ensures in
    k.within

pub returns-in-Err-clause-fault : goal.returns-in-Err-clause-fault
returns-in-Err-clause-fault c =
    let content = c.args.content.now in
    let rest = c.in_ok-rest.rest.now in
    let f = fathered content c.in-Some.tree.0 c.in-Some.tree.1.now c.new-parents.result c.read_parents.new.parents rest (IsBytes-by_index content (λ i. omega (arith, c.type_inv.content i))) c.in-Some.ensures c.new-parents.ensures c.in_ok-rest.ensures in
    let a = authored content c.in-Some.tree.0 c.read_parents.new.parents rest c.in-Some-worded_line.author.now c.in-Some-worded_line.behind_author.now f c.in-Some-worded_line.ensures in
    let k = committed content rest c.in-Some-worded_line.author.now c.in-Some-worded_line.behind_author.now c.in-Some-worded_line-2.committer.now c.in-Some-worded_line-2.rest.now a c.in-Some-worded_line-2.ensures in
    no_blank content c.in-Some-worded_line.behind_author.now c.in-Some-worded_line-2.committer.now c.in-Some-worded_line-2.rest.now c.in-Err.at k c.in-Err.ensures

pub returns : goal.returns
returns c =
    let content = c.args.content.now in
    let rest = c.in_ok-rest.rest.now in
    let f = fathered content c.in-Some.tree.0 c.in-Some.tree.1.now c.new-parents.result c.read_parents.new.parents rest (IsBytes-by_index content (λ i. omega (arith, c.type_inv.content i))) c.in-Some.ensures c.new-parents.ensures c.in_ok-rest.ensures in
    let a = authored content c.in-Some.tree.0 c.read_parents.new.parents rest c.in-Some-worded_line.author.now c.in-Some-worded_line.behind_author.now f c.in-Some-worded_line.ensures in
    let k = committed content rest c.in-Some-worded_line.author.now c.in-Some-worded_line.behind_author.now c.in-Some-worded_line-2.committer.now c.in-Some-worded_line-2.rest.now a c.in-Some-worded_line-2.ensures in
    let read : Commit = record {
      tree_id = c.in-Some.tree.0;
      parents = c.read_parents.new.parents;
      author = c.in-Some-worded_line.author.now;
      committer = c.in-Some-worded_line-2.committer.now;
      headers = c.in-Ok.parts.0.now;
      message = c.in-Ok.parts.1.now;
    } in
    let is : IsCommitText content read = is_commit content read rest c.in-Some-worded_line.behind_author.now c.in-Some-worded_line-2.rest.now f a k c.in-Ok.ensures in
    rw (c.in_ok-of.ensures, c.in_ok-of-2.ensures, c.in_ok-of-3.ensures, c.in_ok-of-4.ensures, c.parents.view_is)
    (record { ok = is; fits = commit_fault-text content read is; parents = sym (parent_ids-text content read is); fault = tt })
