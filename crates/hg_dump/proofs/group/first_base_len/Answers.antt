use Rattle.std.proofs.Common.{sym, ◌∙◌, arith}
use Rattle.hg_store.specs.Groups.{group_value}
use Rattle.hg_dump.proofs.HeldLemmas.{text-short}
use Rattle.hg_dump.proofs.EntryLemmas.{of-at, of-known, base-of_first, base-null, base-text, base-unknown}
use Rattle.hg_dump.proofs.group.first_base_len.Goals as goal

pub parents-p-requires : goal.parents-p-requires
parents-p-requires c =
    let known = c.args.store.now in
    let group = group_value c.args.group in
    let reference = c.in-Some.reference.now in
    let o = of-at known group c.args.references.now c.requires.0 c.requires.1 0 reference (sym c.in-Some.ensures.value) in
    of-known known group reference o.revision o.is_of

pub returns-then-is_null-clause-len : goal.returns-then-is_null-clause-len
returns-then-is_null-clause-len c = λ rs are.
    let known = c.args.store.now in
    let group = group_value c.args.group in
    let reference = c.in-Some.reference.now in
    let pair = c.parents-p.result in
    let o = of-at known group c.args.references.now rs are 0 reference (sym c.in-Some.ensures.value) in
    sym (base-of_first known group reference rs o pair.0 pair.1 c.parents-p.ensures.parents ∙ base-null known group pair.0 (sym c.is_null.ensures ∙ c.if-is_null.true))

pub overflow_cast-result : goal.overflow_cast-result
overflow_cast-result c =
    omega (arith, text-short c.args.store.now (group_value c.args.group) c.parents-p.result.0 c.in-Some-revision_text.text.now c.in-Some-revision_text.ensures.known (sym c.in-Some-revision_text.ensures.value))

pub returns-in-Some-revision_text-clause-len : goal.returns-in-Some-revision_text-clause-len
returns-in-Some-revision_text-clause-len c = λ rs are.
    let known = c.args.store.now in
    let group = group_value c.args.group in
    let reference = c.in-Some.reference.now in
    let pair = c.parents-p.result in
    let o = of-at known group c.args.references.now rs are 0 reference (sym c.in-Some.ensures.value) in
    sym (base-of_first known group reference rs o pair.0 pair.1 c.parents-p.ensures.parents
    ∙ base-text known group pair.0 c.in-Some-revision_text.text.now (sym c.is_null.ensures ∙ c.if-is_null.false) (sym c.in-Some-revision_text.ensures.value))

pub returns-in-None-clause-len : goal.returns-in-None-clause-len
returns-in-None-clause-len c = λ rs are.
    let known = c.args.store.now in
    let group = group_value c.args.group in
    let reference = c.in-Some.reference.now in
    let pair = c.parents-p.result in
    let o = of-at known group c.args.references.now rs are 0 reference (sym c.in-Some.ensures.value) in
    sym (base-of_first known group reference rs o pair.0 pair.1 c.parents-p.ensures.parents
    ∙ base-unknown known group pair.0 (sym c.is_null.ensures ∙ c.if-is_null.false) (sym c.in-None.ensures.value))
