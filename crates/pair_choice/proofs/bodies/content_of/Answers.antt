use Rattle.std.proofs.Common.{ap}
use Rattle.bridge_text.specs.Kinds.{object_kind}
use Rattle.bridge_text.specs.declared.kind.Kind.{Kind}
use Rattle.text_model.specs.Id.{blob, same_kind}
use Rattle.pair_choice.proofs.Contents.{content-front, content-other, content-fresh, content-none}
use Rattle.pair_choice.proofs.bodies.content_of.Goals as goal

pub returns-in-Some-Blob-default-clause-content : goal.returns-in-Some-Blob-default-clause-content
returns-in-Some-Blob-default-clause-content c =
    let found = c.in-Some-Blob-default in
    content-front c.args.known.now.git c.args.d.now.fresh c.args.id.now (object_kind found.field-0-0) found.content.now (ap object_kind found.field-0-0-is) found.ensures.content

pub returns-in-Some-Tree-default-clause-content : goal.returns-in-Some-Tree-default-clause-content
returns-in-Some-Tree-default-clause-content c =
    let found = c.in-Some-Tree-default in
    content-other c.args.known.now.git c.args.d.now.fresh c.args.id.now (object_kind found.field-0-0) found.field-0-1.now (ap (λ (kind : Kind). same_kind (object_kind kind) blob) found.field-0-0-is) found.ensures.content

pub returns-in-Some-Commit-default-clause-content : goal.returns-in-Some-Commit-default-clause-content
returns-in-Some-Commit-default-clause-content c =
    let found = c.in-Some-Commit-default in
    content-other c.args.known.now.git c.args.d.now.fresh c.args.id.now (object_kind found.field-0-0) found.field-0-1.now (ap (λ (kind : Kind). same_kind (object_kind kind) blob) found.field-0-0-is) found.ensures.content

pub returns-in-Some-Tag-default-clause-content : goal.returns-in-Some-Tag-default-clause-content
returns-in-Some-Tag-default-clause-content c =
    let found = c.in-Some-Tag-default in
    content-other c.args.known.now.git c.args.d.now.fresh c.args.id.now (object_kind found.field-0-0) found.field-0-1.now (ap (λ (kind : Kind). same_kind (object_kind kind) blob) found.field-0-0-is) found.ensures.content

pub returns-in-Some-clause-content : goal.returns-in-Some-clause-content
returns-in-Some-clause-content c =
    content-fresh c.args.known.now.git c.args.d.now.fresh c.args.id.now c.in-Some.blob.now c.as_slice.result.now c.in-None.ensures.content c.in-Some.ensures c.as_slice.ensures

pub returns-in-None-get-clause-content : goal.returns-in-None-get-clause-content
returns-in-None-get-clause-content c = content-none c.args.known.now.git c.args.d.now.fresh c.args.id.now c.in-None.ensures.content c.in-None-get.ensures
