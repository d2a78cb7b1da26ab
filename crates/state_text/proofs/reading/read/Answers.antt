use Rattle.std.proofs.Common.{◌≡◌, ◌≤◌, List, length, Some, None, sym, ap, subst, ◌∙◌, arith}
use Rattle.std.proofs.lemmas.Result.{err_from_is_err_and}
use Rattle.state_model.specs.Limits.{slot_limit}
use Rattle.git_model.specs.Tree.{has_distinct}
use Rattle.state_model.specs.Names.{Targets, AreNames}
use Rattle.name_model.specs.Targets.{AreTargets}
use Rattle.state_part.specs.Form.{head_line}
use Rattle.state_text.specs.declared.fault.StateFault.TheVariants.{StateShape}
use Rattle.state_text.specs.declared.heads.Head.{Head}
use Rattle.state_text.specs.Sections.{paired, HasNames, targets_read}
use Rattle.state_text.proofs.WholeText.{err-is, refused-by, no-hg, behind-hg, no-git, no-count, no-pairs, no-tags, no-end, are-targets, one-node, one-id, one-tag, state, is-text, are-sections}
use Rattle.state_text.proofs.reading.read.Goals as goal

pub returns-in_err-rest-clause-fault : goal.returns-in_err-rest-clause-fault
returns-in_err-rest-clause-fault c =
    let p = err_from_is_err_and c.from_residual.result c.from_residual.ensures.1 in
    err-is c.from_residual.result c.args.text.now p.0 c.in_err-rest.field-0.0 p.1 p.2 c.in_err-rest.ensures.fault

pub returns-in_err-hg-clause-fault : goal.returns-in_err-hg-clause-fault
returns-in_err-hg-clause-fault c =
    let p = err_from_is_err_and c.from_residual-in_err-hg.result c.from_residual-in_err-hg.ensures.1 in
    let none : c.in_ok-read_hg.field-0 ≡ None = c.in_err-hg.ensures.ok_part in
    let why = refused-by c.in_ok-read_hg.field-0 c.in_err-hg.field-0.0 (StateShape 1) c.in_err-hg.ensures.value none in
    let fault = no-hg c.args.text.now c.in_ok-rest.rest.now c.in_ok-rest.ensures.head (rw none at c.in_ok-read_hg.ensures) in
    err-is c.from_residual-in_err-hg.result c.args.text.now p.0 (StateShape 1) p.1 (p.2 ∙ why) (c.in_ok-rest.ensures.version, fault)

pub returns-in_err-git-clause-fault : goal.returns-in_err-git-clause-fault
returns-in_err-git-clause-fault c =
    let p = err_from_is_err_and c.from_residual-in_err-git.result c.from_residual-in_err-git.ensures.1 in
    let none : c.in_ok-read_git.field-0 ≡ None = c.in_err-git.ensures.ok_part in
    let why = refused-by c.in_ok-read_git.field-0 c.in_err-git.field-0.0 (StateShape 2) c.in_err-git.ensures.value none in
    let hg_is : c.in_ok-read_hg.field-0 ≡ Some c.in_ok-hg.hg = c.in_ok-hg.ensures.ok_part in
    let hg = rw hg_is at c.in_ok-read_hg.ensures in
    let fault = no-git c.args.text.now c.in_ok-rest.rest.now c.in_ok-rest.ensures.head c.in_ok-hg.hg.section c.in_ok-hg.hg.heads c.in_ok-hg.hg.rest.now hg.0 hg.1 (rw none at c.in_ok-read_git.ensures) in
    err-is c.from_residual-in_err-git.result c.args.text.now p.0 (StateShape 2) p.1 (p.2 ∙ why) (c.in_ok-rest.ensures.version, fault)

pub returns-then-as_slice-len-clause-fault : goal.returns-then-as_slice-len-clause-fault
returns-then-as_slice-len-clause-fault c =
    let hg_is : c.in_ok-read_hg.field-0 ≡ Some c.in_ok-hg.hg = c.in_ok-hg.ensures.ok_part in
    let hg = rw hg_is at c.in_ok-read_hg.ensures in
    let git_is : c.in_ok-read_git.field-0 ≡ Some c.in_ok-git.git = c.in_ok-git.ensures.ok_part in
    let git = rw git_is at c.in_ok-read_git.ensures in
    let fault = no-count c.args.text.now c.in_ok-rest.rest.now c.in_ok-rest.ensures.head c.in_ok-hg.hg.section c.in_ok-hg.hg.heads c.in_ok-hg.hg.rest.now hg.0 hg.1 c.in_ok-git.git.section c.in_ok-git.git.used c.in_ok-git.git.rest.now git.0 git.1
    (λ same. omega (arith, same, c.if-as_slice-len.true, c.len.ensures, ap (λ (l : List Head). length l) c.as_slice.ensures)) in
    (c.in_ok-rest.ensures.version, fault)

pub returns-in_err-rest-2-clause-fault : goal.returns-in_err-rest-2-clause-fault
returns-in_err-rest-2-clause-fault c =
    let p = err_from_is_err_and c.from_residual-in_err-rest-2.result c.from_residual-in_err-rest-2.ensures.1 in
    let none : c.in_ok-read_pairs.field-0 ≡ None = c.in_err-rest-2.ensures.ok_part in
    let why = refused-by c.in_ok-read_pairs.field-0 c.in_err-rest-2.field-0.0 (StateShape 3) c.in_err-rest-2.ensures.value none in
    let hg_is : c.in_ok-read_hg.field-0 ≡ Some c.in_ok-hg.hg = c.in_ok-hg.ensures.ok_part in
    let hg = rw hg_is at c.in_ok-read_hg.ensures in
    let git_is : c.in_ok-read_git.field-0 ≡ Some c.in_ok-git.git = c.in_ok-git.ensures.ok_part in
    let git = rw git_is at c.in_ok-read_git.ensures in
    let count : length c.in_ok-hg.hg.heads ≡ length c.in_ok-git.git.section.ids = omega (arith, c.if-as_slice-len.false, c.len.ensures, ap (λ (l : List Head). length l) c.as_slice.ensures) in
    let are : c.in_ok-blocks.blocks ≡ paired c.in_ok-hg.hg.heads c.in_ok-git.git.section.ids = c.in_ok-blocks.ensures ∙ (λ i. paired (c.as_slice-2.ensures i) (c.as_slice-3.ensures i)) in
    let fault = no-pairs c.args.text.now c.in_ok-rest.rest.now c.in_ok-rest.ensures.head c.in_ok-hg.hg.section c.in_ok-hg.hg.heads c.in_ok-hg.hg.rest.now hg.0 hg.1 c.in_ok-git.git.section c.in_ok-git.git.used c.in_ok-git.git.rest.now git.0 git.1 count c.in_ok-blocks.blocks are (rw none at c.in_ok-read_pairs.ensures) in
    err-is c.from_residual-in_err-rest-2.result c.args.text.now p.0 (StateShape 3) p.1 (p.2 ∙ why) (c.in_ok-rest.ensures.version, fault)

pub returns-in_err-tags-clause-fault : goal.returns-in_err-tags-clause-fault
returns-in_err-tags-clause-fault c =
    let p = err_from_is_err_and c.from_residual-in_err-tags.result c.from_residual-in_err-tags.ensures.1 in
    let none : c.in_ok-read_tagged.field-0 ≡ None = c.in_err-tags.ensures.ok_part in
    let why = refused-by c.in_ok-read_tagged.field-0 c.in_err-tags.field-0.0 (StateShape 4) c.in_err-tags.ensures.value none in
    let hg_is : c.in_ok-read_hg.field-0 ≡ Some c.in_ok-hg.hg = c.in_ok-hg.ensures.ok_part in
    let hg = rw hg_is at c.in_ok-read_hg.ensures in
    let git_is : c.in_ok-read_git.field-0 ≡ Some c.in_ok-git.git = c.in_ok-git.ensures.ok_part in
    let git = rw git_is at c.in_ok-read_git.ensures in
    let count : length c.in_ok-hg.hg.heads ≡ length c.in_ok-git.git.section.ids = omega (arith, c.if-as_slice-len.false, c.len.ensures, ap (λ (l : List Head). length l) c.as_slice.ensures) in
    let are : c.in_ok-blocks.blocks ≡ paired c.in_ok-hg.hg.heads c.in_ok-git.git.section.ids = c.in_ok-blocks.ensures ∙ (λ i. paired (c.as_slice-2.ensures i) (c.as_slice-3.ensures i)) in
    let rest_is : c.in_ok-read_pairs.field-0 ≡ Some c.in_ok-rest-2.rest = c.in_ok-rest-2.ensures.ok_part in
    let pairs = rw rest_is at c.in_ok-read_pairs.ensures in
    let fault = no-tags c.args.text.now c.in_ok-rest.rest.now c.in_ok-rest.ensures.head c.in_ok-hg.hg.section c.in_ok-hg.hg.heads c.in_ok-hg.hg.rest.now hg.0 hg.1 c.in_ok-git.git.section c.in_ok-git.git.used c.in_ok-git.git.rest.now git.0 git.1 count c.in_ok-blocks.blocks are c.in_ok-rest-2.rest.now pairs (rw none at (c.in_ok-read_tagged.ensures git.0 (git.1).holds (git.1).size)) in
    err-is c.from_residual-in_err-tags.result c.args.text.now p.0 (StateShape 4) p.1 (p.2 ∙ why) (c.in_ok-rest.ensures.version, fault)

pub read_hg-requires : goal.read_hg-requires
read_hg-requires c = record { ends = (head_line, c.in_ok-rest.ensures.head) }

pub read_git-requires : goal.read_git-requires
read_git-requires c =
    let hg_is : c.in_ok-read_hg.field-0 ≡ Some c.in_ok-hg.hg = c.in_ok-hg.ensures.ok_part in
    let hg = rw hg_is at c.in_ok-read_hg.ensures in
    record { ends = behind-hg c.args.text.now c.in_ok-rest.rest.now c.in_ok-rest.ensures.head c.in_ok-hg.hg.section c.in_ok-hg.hg.heads c.in_ok-hg.hg.rest.now hg.0 hg.1 }

pub returns-in_err-blocks-clause-fault : goal.returns-in_err-blocks-clause-fault
returns-in_err-blocks-clause-fault c =
    let p = err_from_is_err_and c.from_residual-in_err-blocks.result c.from_residual-in_err-blocks.ensures.1 in
    rw (p.1, p.2) tt

pub returns-in_err-read_pairs-clause-fault : goal.returns-in_err-read_pairs-clause-fault
returns-in_err-read_pairs-clause-fault c =
    let p = err_from_is_err_and c.from_residual-in_err-read_pairs.result c.from_residual-in_err-read_pairs.ensures.1 in
    rw (p.1, p.2) tt

pub returns-in_err-read_tagged-clause-fault : goal.returns-in_err-read_tagged-clause-fault
returns-in_err-read_tagged-clause-fault c =
    let p = err_from_is_err_and c.from_residual-in_err-read_tagged.result c.from_residual-in_err-read_tagged.ensures.1 in
    rw (p.1, p.2) tt

pub returns-in_err-read_named-clause-fault : goal.returns-in_err-read_named-clause-fault
returns-in_err-read_named-clause-fault c =
    let p = err_from_is_err_and c.from_residual-in_err-read_named.result c.from_residual-in_err-read_named.ensures.1 in
    rw (p.1, p.2) tt

pub returns-in_err-assemble-clause-fault : goal.returns-in_err-assemble-clause-fault
returns-in_err-assemble-clause-fault c =
    let p = err_from_is_err_and c.from_residual-in_err-assemble.result c.from_residual-in_err-assemble.ensures.1 in
    rw (p.1, p.2) tt

pub read_named-requires-clause-nodes : goal.read_named-requires-clause-nodes
read_named-requires-clause-nodes c =
    let hg_is : c.in_ok-read_hg.field-0 ≡ Some c.in_ok-hg.hg = c.in_ok-hg.ensures.ok_part in
    let hg = rw hg_is at c.in_ok-read_hg.ensures in
    let git_is : c.in_ok-read_git.field-0 ≡ Some c.in_ok-git.git = c.in_ok-git.ensures.ok_part in
    let git = rw git_is at c.in_ok-read_git.ensures in
    let count : length c.in_ok-hg.hg.heads ≡ length c.in_ok-git.git.section.ids = omega (arith, c.if-as_slice-len.false, c.len.ensures, ap (λ (l : List Head). length l) c.as_slice.ensures) in
    let are : c.in_ok-blocks.blocks ≡ paired c.in_ok-hg.hg.heads c.in_ok-git.git.section.ids = c.in_ok-blocks.ensures ∙ (λ i. paired (c.as_slice-2.ensures i) (c.as_slice-3.ensures i)) in
    let rest_is : c.in_ok-read_pairs.field-0 ≡ Some c.in_ok-rest-2.rest = c.in_ok-rest-2.ensures.ok_part in
    let pairs = rw rest_is at c.in_ok-read_pairs.ensures in
    let tags_is : c.in_ok-read_tagged.field-0 ≡ Some c.in_ok-tags.tags = c.in_ok-tags.ensures.ok_part in
    let tags = rw tags_is at (c.in_ok-read_tagged.ensures git.0 (git.1).holds (git.1).size) in
    one-node c.args.text.now c.in_ok-rest.rest.now c.in_ok-rest.ensures.head c.in_ok-hg.hg.section c.in_ok-hg.hg.heads c.in_ok-hg.hg.rest.now hg.0 hg.1 c.in_ok-git.git.section c.in_ok-git.git.used c.in_ok-git.git.rest.now git.0 git.1 count c.in_ok-blocks.blocks are c.in_ok-rest-2.rest.now pairs c.in_ok-tags.tags.section c.in_ok-tags.tags.rest.now tags.0 tags.1

pub read_named-requires-clause-commits : goal.read_named-requires-clause-commits
read_named-requires-clause-commits c =
    let hg_is : c.in_ok-read_hg.field-0 ≡ Some c.in_ok-hg.hg = c.in_ok-hg.ensures.ok_part in
    let hg = rw hg_is at c.in_ok-read_hg.ensures in
    let git_is : c.in_ok-read_git.field-0 ≡ Some c.in_ok-git.git = c.in_ok-git.ensures.ok_part in
    let git = rw git_is at c.in_ok-read_git.ensures in
    let count : length c.in_ok-hg.hg.heads ≡ length c.in_ok-git.git.section.ids = omega (arith, c.if-as_slice-len.false, c.len.ensures, ap (λ (l : List Head). length l) c.as_slice.ensures) in
    let are : c.in_ok-blocks.blocks ≡ paired c.in_ok-hg.hg.heads c.in_ok-git.git.section.ids = c.in_ok-blocks.ensures ∙ (λ i. paired (c.as_slice-2.ensures i) (c.as_slice-3.ensures i)) in
    let rest_is : c.in_ok-read_pairs.field-0 ≡ Some c.in_ok-rest-2.rest = c.in_ok-rest-2.ensures.ok_part in
    let pairs = rw rest_is at c.in_ok-read_pairs.ensures in
    let tags_is : c.in_ok-read_tagged.field-0 ≡ Some c.in_ok-tags.tags = c.in_ok-tags.ensures.ok_part in
    let tags = rw tags_is at (c.in_ok-read_tagged.ensures git.0 (git.1).holds (git.1).size) in
    one-id c.args.text.now c.in_ok-rest.rest.now c.in_ok-rest.ensures.head c.in_ok-hg.hg.section c.in_ok-hg.hg.heads c.in_ok-hg.hg.rest.now hg.0 hg.1 c.in_ok-git.git.section c.in_ok-git.git.used c.in_ok-git.git.rest.now git.0 git.1 count c.in_ok-blocks.blocks are c.in_ok-rest-2.rest.now pairs c.in_ok-tags.tags.section c.in_ok-tags.tags.rest.now tags.0 tags.1

pub read_named-requires-clause-tags : goal.read_named-requires-clause-tags
read_named-requires-clause-tags c =
    let hg_is : c.in_ok-read_hg.field-0 ≡ Some c.in_ok-hg.hg = c.in_ok-hg.ensures.ok_part in
    let hg = rw hg_is at c.in_ok-read_hg.ensures in
    let git_is : c.in_ok-read_git.field-0 ≡ Some c.in_ok-git.git = c.in_ok-git.ensures.ok_part in
    let git = rw git_is at c.in_ok-read_git.ensures in
    let count : length c.in_ok-hg.hg.heads ≡ length c.in_ok-git.git.section.ids = omega (arith, c.if-as_slice-len.false, c.len.ensures, ap (λ (l : List Head). length l) c.as_slice.ensures) in
    let are : c.in_ok-blocks.blocks ≡ paired c.in_ok-hg.hg.heads c.in_ok-git.git.section.ids = c.in_ok-blocks.ensures ∙ (λ i. paired (c.as_slice-2.ensures i) (c.as_slice-3.ensures i)) in
    let rest_is : c.in_ok-read_pairs.field-0 ≡ Some c.in_ok-rest-2.rest = c.in_ok-rest-2.ensures.ok_part in
    let pairs = rw rest_is at c.in_ok-read_pairs.ensures in
    let tags_is : c.in_ok-read_tagged.field-0 ≡ Some c.in_ok-tags.tags = c.in_ok-tags.ensures.ok_part in
    let tags = rw tags_is at (c.in_ok-read_tagged.ensures git.0 (git.1).holds (git.1).size) in
    let listed : c.as_slice-4.result.now ≡ c.in_ok-tags.tags.section.tags = c.as_slice-4.ensures in
    ap has_distinct listed ∙ one-tag c.args.text.now c.in_ok-rest.rest.now c.in_ok-rest.ensures.head c.in_ok-hg.hg.section c.in_ok-hg.hg.heads c.in_ok-hg.hg.rest.now hg.0 hg.1 c.in_ok-git.git.section c.in_ok-git.git.used c.in_ok-git.git.rest.now git.0 git.1 count c.in_ok-blocks.blocks are c.in_ok-rest-2.rest.now pairs c.in_ok-tags.tags.section c.in_ok-tags.tags.rest.now tags.0 tags.1

pub returns-in_err-named-clause-fault : goal.returns-in_err-named-clause-fault
returns-in_err-named-clause-fault c =
    let p = err_from_is_err_and c.from_residual-in_err-named.result c.from_residual-in_err-named.ensures.1 in
    let none : c.in_ok-read_named.field-0 ≡ None = c.in_err-named.ensures.ok_part in
    let why = refused-by c.in_ok-read_named.field-0 c.in_err-named.field-0.0 (StateShape 5) c.in_err-named.ensures.value none in
    let hg_is : c.in_ok-read_hg.field-0 ≡ Some c.in_ok-hg.hg = c.in_ok-hg.ensures.ok_part in
    let hg = rw hg_is at c.in_ok-read_hg.ensures in
    let git_is : c.in_ok-read_git.field-0 ≡ Some c.in_ok-git.git = c.in_ok-git.ensures.ok_part in
    let git = rw git_is at c.in_ok-read_git.ensures in
    let count : length c.in_ok-hg.hg.heads ≡ length c.in_ok-git.git.section.ids = omega (arith, c.if-as_slice-len.false, c.len.ensures, ap (λ (l : List Head). length l) c.as_slice.ensures) in
    let are : c.in_ok-blocks.blocks ≡ paired c.in_ok-hg.hg.heads c.in_ok-git.git.section.ids = c.in_ok-blocks.ensures ∙ (λ i. paired (c.as_slice-2.ensures i) (c.as_slice-3.ensures i)) in
    let rest_is : c.in_ok-read_pairs.field-0 ≡ Some c.in_ok-rest-2.rest = c.in_ok-rest-2.ensures.ok_part in
    let pairs = rw rest_is at c.in_ok-read_pairs.ensures in
    let tags_is : c.in_ok-read_tagged.field-0 ≡ Some c.in_ok-tags.tags = c.in_ok-tags.ensures.ok_part in
    let tags = rw tags_is at (c.in_ok-read_tagged.ensures git.0 (git.1).holds (git.1).size) in
    let listed : c.as_slice-4.result.now ≡ c.in_ok-tags.tags.section.tags = c.as_slice-4.ensures in
    let targets : targets_read c.in_ok-blocks.blocks c.as_slice-4.result.now ≡ targets_read c.in_ok-blocks.blocks c.in_ok-tags.tags.section.tags = ap (targets_read c.in_ok-blocks.blocks) listed in
    let over = subst AreTargets (sym targets) (are-targets c.args.text.now c.in_ok-rest.rest.now c.in_ok-rest.ensures.head c.in_ok-hg.hg.section c.in_ok-hg.hg.heads c.in_ok-hg.hg.rest.now hg.0 hg.1 c.in_ok-git.git.section c.in_ok-git.git.used c.in_ok-git.git.rest.now git.0 git.1 count c.in_ok-blocks.blocks are c.in_ok-rest-2.rest.now pairs c.in_ok-tags.tags.section c.in_ok-tags.tags.rest.now tags.0 tags.1) in
    let no = rw none at (c.in_ok-read_named.ensures over) in
    let fault = no-end c.args.text.now c.in_ok-rest.rest.now c.in_ok-rest.ensures.head c.in_ok-hg.hg.section c.in_ok-hg.hg.heads c.in_ok-hg.hg.rest.now hg.0 hg.1 c.in_ok-git.git.section c.in_ok-git.git.used c.in_ok-git.git.rest.now git.0 git.1 count c.in_ok-blocks.blocks are c.in_ok-rest-2.rest.now pairs c.in_ok-tags.tags.section c.in_ok-tags.tags.rest.now tags.0 tags.1 (λ names n e short. no names (subst (λ (t : Targets). AreNames t names) (sym targets) n) e) in
    err-is c.from_residual-in_err-named.result c.args.text.now p.0 (StateShape 5) p.1 (p.2 ∙ why) (c.in_ok-rest.ensures.version, fault)

pub returns-then-len-gt-SLOT_LIMIT-clause-fault : goal.returns-then-len-gt-SLOT_LIMIT-clause-fault
returns-then-len-gt-SLOT_LIMIT-clause-fault c =
    let hg_is : c.in_ok-read_hg.field-0 ≡ Some c.in_ok-hg.hg = c.in_ok-hg.ensures.ok_part in
    let hg = rw hg_is at c.in_ok-read_hg.ensures in
    let git_is : c.in_ok-read_git.field-0 ≡ Some c.in_ok-git.git = c.in_ok-git.ensures.ok_part in
    let git = rw git_is at c.in_ok-read_git.ensures in
    let count : length c.in_ok-hg.hg.heads ≡ length c.in_ok-git.git.section.ids = omega (arith, c.if-as_slice-len.false, c.len.ensures, ap (λ (l : List Head). length l) c.as_slice.ensures) in
    let are : c.in_ok-blocks.blocks ≡ paired c.in_ok-hg.hg.heads c.in_ok-git.git.section.ids = c.in_ok-blocks.ensures ∙ (λ i. paired (c.as_slice-2.ensures i) (c.as_slice-3.ensures i)) in
    let rest_is : c.in_ok-read_pairs.field-0 ≡ Some c.in_ok-rest-2.rest = c.in_ok-rest-2.ensures.ok_part in
    let pairs = rw rest_is at c.in_ok-read_pairs.ensures in
    let tags_is : c.in_ok-read_tagged.field-0 ≡ Some c.in_ok-tags.tags = c.in_ok-tags.ensures.ok_part in
    let tags = rw tags_is at (c.in_ok-read_tagged.ensures git.0 (git.1).holds (git.1).size) in
    let fault = no-end c.args.text.now c.in_ok-rest.rest.now c.in_ok-rest.ensures.head c.in_ok-hg.hg.section c.in_ok-hg.hg.heads c.in_ok-hg.hg.rest.now hg.0 hg.1 c.in_ok-git.git.section c.in_ok-git.git.used c.in_ok-git.git.rest.now git.0 git.1 count c.in_ok-blocks.blocks are c.in_ok-rest-2.rest.now pairs c.in_ok-tags.tags.section c.in_ok-tags.tags.rest.now tags.0 tags.1 (λ names n e short. omega (arith, short, c.if-len-gt-SLOT_LIMIT.true, c.len-2.ensures)) in
    (c.in_ok-rest.ensures.version, fault)

pub assemble-requires : goal.assemble-requires
assemble-requires c =
    let hg_is : c.in_ok-read_hg.field-0 ≡ Some c.in_ok-hg.hg = c.in_ok-hg.ensures.ok_part in
    let hg = rw hg_is at c.in_ok-read_hg.ensures in
    let git_is : c.in_ok-read_git.field-0 ≡ Some c.in_ok-git.git = c.in_ok-git.ensures.ok_part in
    let git = rw git_is at c.in_ok-read_git.ensures in
    let count : length c.in_ok-hg.hg.heads ≡ length c.in_ok-git.git.section.ids = omega (arith, c.if-as_slice-len.false, c.len.ensures, ap (λ (l : List Head). length l) c.as_slice.ensures) in
    let are : c.in_ok-blocks.blocks ≡ paired c.in_ok-hg.hg.heads c.in_ok-git.git.section.ids = c.in_ok-blocks.ensures ∙ (λ i. paired (c.as_slice-2.ensures i) (c.as_slice-3.ensures i)) in
    let rest_is : c.in_ok-read_pairs.field-0 ≡ Some c.in_ok-rest-2.rest = c.in_ok-rest-2.ensures.ok_part in
    let pairs = rw rest_is at c.in_ok-read_pairs.ensures in
    let tags_is : c.in_ok-read_tagged.field-0 ≡ Some c.in_ok-tags.tags = c.in_ok-tags.ensures.ok_part in
    let tags = rw tags_is at (c.in_ok-read_tagged.ensures git.0 (git.1).holds (git.1).size) in
    let listed : c.as_slice-4.result.now ≡ c.in_ok-tags.tags.section.tags = c.as_slice-4.ensures in
    let targets : targets_read c.in_ok-blocks.blocks c.as_slice-4.result.now ≡ targets_read c.in_ok-blocks.blocks c.in_ok-tags.tags.section.tags = ap (targets_read c.in_ok-blocks.blocks) listed in
    let over = subst AreTargets (sym targets) (are-targets c.args.text.now c.in_ok-rest.rest.now c.in_ok-rest.ensures.head c.in_ok-hg.hg.section c.in_ok-hg.hg.heads c.in_ok-hg.hg.rest.now hg.0 hg.1 c.in_ok-git.git.section c.in_ok-git.git.used c.in_ok-git.git.rest.now git.0 git.1 count c.in_ok-blocks.blocks are c.in_ok-rest-2.rest.now pairs c.in_ok-tags.tags.section c.in_ok-tags.tags.rest.now tags.0 tags.1) in
    let named_is : c.in_ok-read_named.field-0 ≡ Some c.in_ok-named.named = c.in_ok-named.ensures.ok_part in
    let named = rw named_is at (c.in_ok-read_named.ensures over) in
    let has = subst (λ (t : Targets). HasNames t c.in_ok-tags.tags.rest.now c.in_ok-named.named.names) targets named.1 in
    let short : length c.args.text.now ≤ slot_limit = omega (arith, c.if-len-gt-SLOT_LIMIT.false, c.len-2.ensures) in
    record {
      sections = (
        state c.args.text.now c.in_ok-rest.rest.now c.in_ok-rest.ensures.head c.in_ok-hg.hg.section c.in_ok-hg.hg.heads c.in_ok-hg.hg.rest.now hg.0 hg.1 c.in_ok-git.git.section c.in_ok-git.git.used c.in_ok-git.git.rest.now git.0 git.1 count c.in_ok-blocks.blocks are c.in_ok-rest-2.rest.now pairs c.in_ok-tags.tags.section c.in_ok-tags.tags.rest.now tags.0 tags.1 c.in_ok-named.named.names has short,
        are-sections c.args.text.now c.in_ok-rest.rest.now c.in_ok-rest.ensures.head c.in_ok-hg.hg.section c.in_ok-hg.hg.heads c.in_ok-hg.hg.rest.now hg.0 hg.1 c.in_ok-git.git.section c.in_ok-git.git.used c.in_ok-git.git.rest.now git.0 git.1 count c.in_ok-blocks.blocks are c.in_ok-rest-2.rest.now pairs c.in_ok-tags.tags.section c.in_ok-tags.tags.rest.now tags.0 tags.1 c.in_ok-named.named.names has short,
      );
      partners = named.0;
    }

pub returns-clause-ok : goal.returns-clause-ok
returns-clause-ok c =
    let hg_is : c.in_ok-read_hg.field-0 ≡ Some c.in_ok-hg.hg = c.in_ok-hg.ensures.ok_part in
    let hg = rw hg_is at c.in_ok-read_hg.ensures in
    let git_is : c.in_ok-read_git.field-0 ≡ Some c.in_ok-git.git = c.in_ok-git.ensures.ok_part in
    let git = rw git_is at c.in_ok-read_git.ensures in
    let count : length c.in_ok-hg.hg.heads ≡ length c.in_ok-git.git.section.ids = omega (arith, c.if-as_slice-len.false, c.len.ensures, ap (λ (l : List Head). length l) c.as_slice.ensures) in
    let are : c.in_ok-blocks.blocks ≡ paired c.in_ok-hg.hg.heads c.in_ok-git.git.section.ids = c.in_ok-blocks.ensures ∙ (λ i. paired (c.as_slice-2.ensures i) (c.as_slice-3.ensures i)) in
    let rest_is : c.in_ok-read_pairs.field-0 ≡ Some c.in_ok-rest-2.rest = c.in_ok-rest-2.ensures.ok_part in
    let pairs = rw rest_is at c.in_ok-read_pairs.ensures in
    let tags_is : c.in_ok-read_tagged.field-0 ≡ Some c.in_ok-tags.tags = c.in_ok-tags.ensures.ok_part in
    let tags = rw tags_is at (c.in_ok-read_tagged.ensures git.0 (git.1).holds (git.1).size) in
    let listed : c.as_slice-4.result.now ≡ c.in_ok-tags.tags.section.tags = c.as_slice-4.ensures in
    let targets : targets_read c.in_ok-blocks.blocks c.as_slice-4.result.now ≡ targets_read c.in_ok-blocks.blocks c.in_ok-tags.tags.section.tags = ap (targets_read c.in_ok-blocks.blocks) listed in
    let over = subst AreTargets (sym targets) (are-targets c.args.text.now c.in_ok-rest.rest.now c.in_ok-rest.ensures.head c.in_ok-hg.hg.section c.in_ok-hg.hg.heads c.in_ok-hg.hg.rest.now hg.0 hg.1 c.in_ok-git.git.section c.in_ok-git.git.used c.in_ok-git.git.rest.now git.0 git.1 count c.in_ok-blocks.blocks are c.in_ok-rest-2.rest.now pairs c.in_ok-tags.tags.section c.in_ok-tags.tags.rest.now tags.0 tags.1) in
    let named_is : c.in_ok-read_named.field-0 ≡ Some c.in_ok-named.named = c.in_ok-named.ensures.ok_part in
    let named = rw named_is at (c.in_ok-read_named.ensures over) in
    let has = subst (λ (t : Targets). HasNames t c.in_ok-tags.tags.rest.now c.in_ok-named.named.names) targets named.1 in
    let short : length c.args.text.now ≤ slot_limit = omega (arith, c.if-len-gt-SLOT_LIMIT.false, c.len-2.ensures) in
    let m = state c.args.text.now c.in_ok-rest.rest.now c.in_ok-rest.ensures.head c.in_ok-hg.hg.section c.in_ok-hg.hg.heads c.in_ok-hg.hg.rest.now hg.0 hg.1 c.in_ok-git.git.section c.in_ok-git.git.used c.in_ok-git.git.rest.now git.0 git.1 count c.in_ok-blocks.blocks are c.in_ok-rest-2.rest.now pairs c.in_ok-tags.tags.section c.in_ok-tags.tags.rest.now tags.0 tags.1 c.in_ok-named.named.names has short in
    let sections = are-sections c.args.text.now c.in_ok-rest.rest.now c.in_ok-rest.ensures.head c.in_ok-hg.hg.section c.in_ok-hg.hg.heads c.in_ok-hg.hg.rest.now hg.0 hg.1 c.in_ok-git.git.section c.in_ok-git.git.used c.in_ok-git.git.rest.now git.0 git.1 count c.in_ok-blocks.blocks are c.in_ok-rest-2.rest.now pairs c.in_ok-tags.tags.section c.in_ok-tags.tags.rest.now tags.0 tags.1 c.in_ok-named.named.names has short in
    (m, is-text c.args.text.now c.in_ok-rest.rest.now c.in_ok-rest.ensures.head c.in_ok-hg.hg.section c.in_ok-hg.hg.heads c.in_ok-hg.hg.rest.now hg.0 hg.1 c.in_ok-git.git.section c.in_ok-git.git.used c.in_ok-git.git.rest.now git.0 git.1 count c.in_ok-blocks.blocks are c.in_ok-rest-2.rest.now pairs c.in_ok-tags.tags.section c.in_ok-tags.tags.rest.now tags.0 tags.1 c.in_ok-named.named.names has short, c.in_ok-assemble.ensures.stands m sections, c.in_ok-assemble.ensures.exactly m sections)
