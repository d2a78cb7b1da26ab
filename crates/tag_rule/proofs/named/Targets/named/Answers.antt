use Rattle.std.proofs.Common.{sym, ◌∙◌, ap}
use Rattle.git_model.specs.Commit.{Tag}
use Rattle.bridge_text.specs.Kinds.{object_kind}
use Rattle.bridge_text.specs.declared.kind.Kind.{Kind}
use Rattle.tag_rule.proofs.Names.{named-is, named_of}
use Rattle.tag_rule.proofs.named.Targets.named.Goals as goal

pub returns-in-Commit : goal.returns-in-Commit
returns-in-Commit c =
    let s = c.args.self.now in
    let is = named-is s.store.now s.kept.now s.came.now c.args.id.now c.in-Some.tag.now c.in-Some.ensures.tag in
    let view = ap (λ (t : Tag). named_of s.kept.now s.came.now t.target_kind t.target) c.tag-2.view_is in
    let kind = ap (λ (k : Kind). named_of s.kept.now s.came.now (object_kind k) c.tag-2.inside.target) c.in-Commit.is in
    sym (is ∙ sym view ∙ kind)

pub returns-in-Tag : goal.returns-in-Tag
returns-in-Tag c =
    let s = c.args.self.now in
    let is = named-is s.store.now s.kept.now s.came.now c.args.id.now c.in-Some.tag.now c.in-Some.ensures.tag in
    let view = ap (λ (t : Tag). named_of s.kept.now s.came.now t.target_kind t.target) c.tag-2.view_is in
    let kind = ap (λ (k : Kind). named_of s.kept.now s.came.now (object_kind k) c.tag-2.inside.target) c.in-Tag.is in
    c.behind.ensures ∙ sym (is ∙ sym view ∙ kind)

pub returns-in-Blob : goal.returns-in-Blob
returns-in-Blob c =
    let s = c.args.self.now in
    let is = named-is s.store.now s.kept.now s.came.now c.args.id.now c.in-Some.tag.now c.in-Some.ensures.tag in
    let view = ap (λ (t : Tag). named_of s.kept.now s.came.now t.target_kind t.target) c.tag-2.view_is in
    let kind = ap (λ (k : Kind). named_of s.kept.now s.came.now (object_kind k) c.tag-2.inside.target) c.in-Blob.is in
    sym (is ∙ sym view ∙ kind)

pub returns-in-Tree : goal.returns-in-Tree
returns-in-Tree c =
    let s = c.args.self.now in
    let is = named-is s.store.now s.kept.now s.came.now c.args.id.now c.in-Some.tag.now c.in-Some.ensures.tag in
    let view = ap (λ (t : Tag). named_of s.kept.now s.came.now t.target_kind t.target) c.tag-2.view_is in
    let kind = ap (λ (k : Kind). named_of s.kept.now s.came.now (object_kind k) c.tag-2.inside.target) c.in-Tree.is in
    sym (is ∙ sym view ∙ kind)
