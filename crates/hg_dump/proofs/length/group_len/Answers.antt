use Rattle.std.proofs.Common.{◌≡◌, ◌≤◌, ◌+◌, ℕ, List, length, drop, ap, arith}
use Rattle.std.specs.Prelude.{min}
use Rattle.std.proofs.lemmas.List.{drop_all}
use Rattle.hg_model.specs.Revision.{Revision}
use Rattle.hg_store.specs.Groups.{group_value}
use Rattle.hg_dump.specs.Written.{chunks_over}
use Rattle.hg_dump.proofs.EntryLemmas.{at-place, of-at, of-length}
use Rattle.hg_dump.proofs.BundleLemmas.{chunks-size, group-size}
use Rattle.hg_dump.proofs.length.group_len.Goals as goal

pub entry_len-entry-requires : goal.entry_len-entry-requires
entry_len-entry-requires c =
    let i = c.loop-reference.reference-index in
    let r = c.reference-item.result in
    let o = of-at c.args.store.now (group_value c.args.group) c.args.references.now c.requires.0 c.requires.1 i r (at-place c.args.references.now i r c.loop-reference-test.true c.reference-item.is) in
    (o.revision, o.is_of)

pub loop-reference-preserved : goal.loop-reference-preserved
loop-reference-preserved c = record {
  small = omega (arith, c.saturating_add-len.ensures);
  counted = λ rs are.
      let i = c.loop-reference.reference-index in
      let r = c.reference-item.result in
      let o = of-at c.args.store.now (group_value c.args.group) c.args.references.now rs are i r (at-place c.args.references.now i r c.loop-reference-test.true c.reference-item.is) in
      omega (
        arith,
        c.loop-reference.invariant.counted rs are,
        chunks-size c.loop-reference.base_len i rs o.revision o.at_place,
        ap (λ (n : ℕ). length (chunks_over n (drop (i + 1) rs))) (c.entry_len-entry.ensures.len o.revision o.is_of),
        c.entry_len-entry.ensures.entry o.revision o.is_of,
        c.saturating_add-len.ensures,
      );
}

nothing-left : (rs : List Revision) (i size : ℕ) → length rs ≤ i → length (chunks_over size (drop i rs)) ≡ 0
nothing-left rs i size h = ap (λ (l : List Revision). length (chunks_over size l)) (drop_all i rs h)

pub loop-reference-init : goal.loop-reference-init
loop-reference-init c = record {
  small = omega arith;
  counted = λ rs are. ap (λ (n : ℕ). min (4 + length (chunks_over n rs)) 18446744073709551615) (c.first_base_len-base_len.ensures.len rs are);
}

pub returns : goal.returns
returns c = λ rs are.
    let i = c.loop-reference.reference-index in
    let group = group_value c.args.group in
    omega (
      arith,
      nothing-left rs i c.loop-reference.base_len (omega (arith, of-length c.args.store.now group c.args.references.now rs are)),
      c.loop-reference.invariant.counted rs are,
      c.loop-reference.invariant.small,
      group-size c.args.store.now group rs,
    )
