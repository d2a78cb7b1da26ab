use Rattle.std.proofs.Common.{◌≡◌, ◌==◌, ◌<◌, ◌^◌, true≢false, [], length, codes, sym, ap, subst, ◌∙◌, arith}
use Rattle.text_model.specs.Text.{Bytes}
use Rattle.state_model.specs.Names.{Targets, AreNames}
use Rattle.name_model.specs.Targets.{AreTargets}
use Rattle.state_text.specs.Sections.{targets_read}
use Rattle.state_text.proofs.ReadLemmas.{text-short, no-names, names-there, no-section}
use Rattle.state_text.proofs.NameLemmas.{empty-is}
use Rattle.state_text.proofs.names.read_named.Goals as goal

pub returns-in_default : goal.returns-in_default
returns-in_default c = λ a. no-section c.args.bytes.now c.in_default.ensures (targets_read c.args.blocks.now c.args.tags.now)

pub returns-then-not-is_empty : goal.returns-then-not-is_empty
returns-then-not-is_empty c =
    let part = c.in-Some.part in
    let long : length c.args.bytes.now < 2 ^ 64 = omega arith in
    let short = text-short (codes "names") c.args.bytes.now part.text.now part.rest.now long c.in-Some.ensures in
    (λ a. no-names c.args.bytes.now part.text.now part.rest.now short c.in-Some.ensures (targets_read c.args.blocks.now c.args.tags.now) a
    (λ names n e rest. true≢false (sym (c.is_empty.ensures ∙ ap (λ (l : Bytes). length l == 0) rest) ∙ c.if-not-is_empty.true)))

pub returns-in_default-2 : goal.returns-in_default-2
returns-in_default-2 c =
    let part = c.in-Some.part in
    let t = targets_read c.args.blocks.now c.args.tags.now in
    let long : length c.args.bytes.now < 2 ^ 64 = omega arith in
    let short = text-short (codes "names") c.args.bytes.now part.text.now part.rest.now long c.in-Some.ensures in
    let same : record { pairs = c.in_ok-partners.partners; tags = c.in_ok-tags.tags } ≡ t =
    (λ i. record { pairs = c.in_ok-partners.ensures i; tags = c.in_ok-tags.ensures c.requires.tags i }) in
    (λ a. no-names c.args.bytes.now part.text.now part.rest.now short c.in-Some.ensures t a
    (λ names n e rest. (rw c.in_default-2.is at (c.in_ok-names.ensures (subst AreTargets (sym same) a))) names (subst (λ (u : Targets). AreNames u names) (sym same) n) e))

pub returns : goal.returns
returns c =
    let part = c.in-Some.part in
    let t = targets_read c.args.blocks.now c.args.tags.now in
    let same : record { pairs = c.in_ok-partners.partners; tags = c.in_ok-tags.tags } ≡ t =
    (λ i. record { pairs = c.in_ok-partners.ensures i; tags = c.in_ok-tags.ensures c.requires.tags i }) in
    let names = c.in-Some-2.names in
    let rest : part.rest.now ≡ [] = empty-is part.rest.now (sym c.is_empty.ensures ∙ c.if-not-is_empty.false) in
    (λ a.
    let x = rw c.in-Some-2.is at (c.in_ok-names.ensures (subst AreTargets (sym same) a)) in
    (c.in_ok-partners.ensures, record { kept = subst (λ (u : Targets). AreNames u names) same x.0; is = names-there c.args.bytes.now part.text.now part.rest.now names c.in-Some.ensures x.1 rest }))
