use Rattle.std.proofs.Common.{List, ◌-◌, ◌^◌, min, length, length-append, take, ap, ◌∙◌, arith}
use Rattle.std.proofs.lemmas.List.{take_all}
use Rattle.text_model.specs.Text.{Bytes}
use Rattle.text_model.specs.Id.{Id}
use Rattle.git_dump.proofs.ListedLemmas.{text_of, text_at, text-none, text-more}
use Rattle.git_dump.proofs.listed.objects_len.Goals as goal

pub loop-id-init : goal.loop-id-init
loop-id-init c = omega (arith, ap (λ (b : Bytes). length b) (text-none c.args.store.now))

pub loop-id-preserved : goal.loop-id-preserved
loop-id-preserved c =
    let known = c.args.store.now in
    let ids = c.args.ids.now in
    let i = c.loop-id.id-index in
    omega (
      arith,
      c.loop-id.invariant,
      ap (λ (b : Bytes). length b) (text-more known ids i c.id-item.result c.loop-id-test.true c.id-item.is),
      length-append (text_of known (take i ids)) (text_at known c.id-item.result),
      c.len_at.ensures,
      c.saturating_add-len.ensures,
    )

pub returns : goal.returns
returns c = c.loop-id.invariant ∙ ap (λ (ids : List Id). min (length (text_of c.args.store.now ids)) (2 ^ 64 - 1)) (take_all c.loop-id.id-index c.args.ids.now c.loop-id-test.false)
