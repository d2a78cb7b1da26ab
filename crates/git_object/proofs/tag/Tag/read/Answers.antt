use Rattle.std.proofs.Common.{arith, sym}
use Rattle.text_model.proofs.ByteLemmas.{IsBytes-by_index}
use Rattle.bridge_text.specs.Kinds.{object_kind}
use Rattle.git_model.specs.Commit.{Tag, IsTagText}
use Rattle.git_model.proofs.TagLemmas.{tag_fault-text, tag_target-text}
use Rattle.git_object.proofs.TagSteps.{no_target, aimed, no_type, typed, no_name, is_tag}
use Rattle.git_object.proofs.tag.Tag.read.Goals as goal

pub returns-in_default-clause-fault : goal.returns-in_default-clause-fault
returns-in_default-clause-fault c = no_target c.args.content.now c.in_default.ensures

pub overflow_sub-result : goal.overflow_sub-result
overflow_sub-result c =
    let content = c.args.content.now in
    let a = aimed content c.in-Some.target.0 c.in-Some.target.1.now (IsBytes-by_index content (λ i. omega (arith, c.type_inv.content i))) c.in-Some.ensures in
    a.within

pub returns-in_default-type_line-clause-fault : goal.returns-in_default-type_line-clause-fault
returns-in_default-type_line-clause-fault c =
    let content = c.args.content.now in
    let a = aimed content c.in-Some.target.0 c.in-Some.target.1.now (IsBytes-by_index content (λ i. omega (arith, c.type_inv.content i))) c.in-Some.ensures in
    no_type content c.in-Some.target.0 c.in-Some.target.1.now a c.in_default-type_line.ensures

pub overflow_sub-result-in_default-worded_line : goal.overflow_sub-result-in_default-worded_line
overflow_sub-result-in_default-worded_line c =
    let content = c.args.content.now in
    let a = aimed content c.in-Some.target.0 c.in-Some.target.1.now (IsBytes-by_index content (λ i. omega (arith, c.type_inv.content i))) c.in-Some.ensures in
    let k = typed content c.in-Some.target.0 c.in-Some.target.1.now (object_kind c.in-Some-type_line.kind.0) c.in-Some-type_line.kind.1.now a c.in-Some-type_line.ensures in
    k.within

pub returns-in_default-worded_line-clause-fault : goal.returns-in_default-worded_line-clause-fault
returns-in_default-worded_line-clause-fault c =
    let content = c.args.content.now in
    let a = aimed content c.in-Some.target.0 c.in-Some.target.1.now (IsBytes-by_index content (λ i. omega (arith, c.type_inv.content i))) c.in-Some.ensures in
    let k = typed content c.in-Some.target.0 c.in-Some.target.1.now (object_kind c.in-Some-type_line.kind.0) c.in-Some-type_line.kind.1.now a c.in-Some-type_line.ensures in
    no_name content c.in-Some.target.1.now (object_kind c.in-Some-type_line.kind.0) c.in-Some-type_line.kind.1.now k c.in_default-worded_line.ensures

pub returns : goal.returns
returns c =
    let content = c.args.content.now in
    let a = aimed content c.in-Some.target.0 c.in-Some.target.1.now (IsBytes-by_index content (λ i. omega (arith, c.type_inv.content i))) c.in-Some.ensures in
    let k = typed content c.in-Some.target.0 c.in-Some.target.1.now (object_kind c.in-Some-type_line.kind.0) c.in-Some-type_line.kind.1.now a c.in-Some-type_line.ensures in
    let read : Tag = record { target = c.in-Some.target.0; target_kind = object_kind c.in-Some-type_line.kind.0; name = c.in-Some-worded_line.name.now; rest = c.in-Some-worded_line.rest.now } in
    let is : IsTagText content read = is_tag content read c.in-Some.target.1.now c.in-Some-type_line.kind.1.now a k c.in-Some-worded_line.ensures in
    rw (c.in_ok-of.ensures, c.in_ok-of-2.ensures) (record { ok = is; fits = tag_fault-text content read is; target = sym (tag_target-text content read is); fault = tt })
