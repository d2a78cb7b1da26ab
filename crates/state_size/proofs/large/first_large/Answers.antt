use Rattle.std.proofs.Common.{◌≤◌, ◌-◌, length, sym, ap, ◌∙◌, arith, length-drop}
use Rattle.std.proofs.lemmas.List.{length-map}
use Rattle.git_model.specs.Object.{Object}
use Rattle.view_model.specs.View.{changeset_node}
use Rattle.pair_model.specs.Block.{changesets_in}
use Rattle.state_model.specs.Kept.{kept_of}
use Rattle.state_size.proofs.Prefixes.{blocks-count}
use Rattle.state_size.proofs.Grown.{all-is}
use Rattle.state_size.proofs.Places.{none-at-all, none-passes, block-is, tag-is}
use Rattle.state_size.proofs.large.first_large.Goals as goal

pub returns-then-not-are_past : goal.returns-then-not-are_past
returns-then-not-are_past c = λ m h p.
    let within : c.args.first_new ≤ length m.blocks = omega (arith, c.requires.within, blocks-count c.args.state.now m.blocks h.blocks.state) in
    let changesets = c.len.ensures ∙ ap length c.changesets.ensures ∙ ap length h.blocks.state.changesets ∙ length-map (changesets_in m.blocks) changeset_node in
    none-passes c.args.first_new c.args.first_tag m within (sym (c.are_past.ensures (kept_of m) changesets (c.requires.sizes m h)) ∙ c.if-not-are_past.true)

pub first_count-requires-clause-large : goal.first_count-requires-clause-large
first_count-requires-clause-large c = λ m g.
    let h = g.stands in
    let blocks = ap length (c.as_slice.ensures ∙ c.blocks-2.ensures) in
    let size = blocks ∙ blocks-count c.args.state.now m.blocks h.blocks.state in
    let held = ap length (c.as_slice-2.ensures ∙ c.tags.ensures) in
    let tags = ap length h.tags ∙ length-map m.tags (λ (o : Object). o.id) in
    let changesets = c.len.ensures ∙ ap length c.changesets.ensures ∙ ap length h.blocks.state.changesets ∙ length-map (changesets_in m.blocks) changeset_node in
    sym (all-is c.args.first_new c.args.first_tag m (length c.as_slice.result.now) size _ (omega (arith, c.requires.within, blocks)) (omega (arith, c.requires.tags, tags)) (omega (arith, held, tags)))
    ∙ sym (c.are_past.ensures (kept_of m) changesets (c.requires.sizes m h)) ∙ c.if-not-are_past.false

pub returns-then-all-eq0 : goal.returns-then-all-eq0
returns-then-all-eq0 c = λ m h p.
    let blocks = blocks-count c.args.state.now m.blocks h.blocks.state in
    let size = ap length (c.as_slice.ensures ∙ c.blocks-2.ensures) ∙ blocks in
    let within : c.args.first_new ≤ length m.blocks = omega (arith, c.requires.within, blocks) in
    let tags = ap length (c.as_slice-2.ensures ∙ c.tags.ensures) ∙ ap length h.tags ∙ length-map m.tags (λ (o : Object). o.id) in
    let added = length c.as_slice.result.now - c.args.first_new in
    none-at-all c.args.first_new c.args.first_tag m within added (omega (arith, size))
    (omega (arith, tags, length-drop c.args.first_tag m.tags, c.if-all-eq0.true))

pub returns-then-last-added : goal.returns-then-last-added
returns-then-last-added c = λ m h p.
    let blocks = blocks-count c.args.state.now m.blocks h.blocks.state in
    let size = ap length (c.as_slice.ensures ∙ c.blocks-2.ensures) ∙ blocks in
    let within : c.args.first_new ≤ length m.blocks = omega (arith, c.requires.within, blocks) in
    let added = length c.as_slice.result.now - c.args.first_new in
    block-is c.args.first_new c.args.first_tag m within added (omega (arith, size)) c.in_ok-last.field-0 c.in_ok-last.ensures.within.0 c.if-last-added.true
    (c.in_ok-last.ensures.first m (record { stands = h; parents = p }))

pub returns-else-last-added : goal.returns-else-last-added
returns-else-last-added c = λ m h p.
    let blocks = blocks-count c.args.state.now m.blocks h.blocks.state in
    let size = ap length (c.as_slice.ensures ∙ c.blocks-2.ensures) ∙ blocks in
    let within : c.args.first_new ≤ length m.blocks = omega (arith, c.requires.within, blocks) in
    let tags = ap length (c.as_slice-2.ensures ∙ c.tags.ensures) ∙ ap length h.tags ∙ length-map m.tags (λ (o : Object). o.id) in
    let added = length c.as_slice.result.now - c.args.first_new in
    tag-is c.args.first_new c.args.first_tag m within added (omega (arith, size)) c.in_ok-last.field-0 c.in_ok-last.ensures.within.0 c.if-last-added.false
    (omega (arith, c.in_ok-last.ensures.within.1, tags, length-drop c.args.first_tag m.tags)) (c.in_ok-last.ensures.first m (record { stands = h; parents = p }))
