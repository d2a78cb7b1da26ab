use Rattle.std.proofs.Common.{◌≤◌, ℕ, [], List, length, sym, ap, subst, arith}
use Rattle.std.proofs.lemmas.List.{drop_all}
use Rattle.text_model.specs.Text.{Bytes}
use Rattle.hg_model.specs.Revision.{Revision}
use Rattle.hg_model.specs.Chunk.{chunk_text}
use Rattle.hg_store.specs.Groups.{group_value}
use Rattle.hg_dump.specs.Begins.{LacksFront, IsBehind, GoOnAlike}
use Rattle.hg_dump.specs.Written.{base_size, chunks_over}
use Rattle.hg_dump.proofs.EntryLemmas.{at-place, of-at, of-length, group-spelled}
use Rattle.hg_dump.proofs.StripLemmas.{lacks-first, behind-both, alike-begin, alike-end, entry-step, entry-lacks}
use Rattle.hg_dump.proofs.ToldLemmas.{told-end}
use Rattle.hg_dump.proofs.strip.strip_entries.Goals as goal

pub loop-reference-init : goal.loop-reference-init
loop-reference-init c = record {
  alike = λ rs are.
      let known = c.args.store.now in
      let group = group_value c.args.group in
      alike-begin c.args.bytes.now (chunks_over (base_size known group rs) rs) (chunks_over c.args.base_len rs)
      (ap (λ (n : ℕ). chunks_over n rs) (sym (c.requires.base rs are)));
  told = λ tail told. told;
}

pub strip_entry-requires : goal.strip_entry-requires
strip_entry-requires c =
    let i = c.loop-reference.reference-index in
    let r = c.reference-item.result in
    let o = of-at c.args.store.now (group_value c.args.group) c.args.references.now c.requires.are.0 c.requires.are.1 i r (at-place c.args.references.now i r c.loop-reference-test.true c.reference-item.is) in
    record { told = (c.requires.told.0, c.loop-reference.invariant.told c.requires.told.0 c.requires.told.1); is = (o.revision, o.is_of) }

pub returns-in_err-behind-clause-behind : goal.returns-in_err-behind-clause-behind
returns-in_err-behind-clause-behind c = rw c.from_residual.ensures (λ rs are.
    let known = c.args.store.now in
    let group = group_value c.args.group in
    let bytes = c.args.bytes.now in
    let i = c.loop-reference.reference-index in
    let r = c.reference-item.result in
    let o = of-at known group c.args.references.now rs are i r (at-place c.args.references.now i r c.loop-reference-test.true c.reference-item.is) in
    let chunks = chunks_over (base_size known group rs) rs in
    subst (λ (f : Bytes). LacksFront bytes f) (group-spelled known group rs)
    (lacks-first bytes chunks (chunk_text [])
    (entry-lacks bytes chunks c.loop-reference.rest.now c.loop-reference.base_len i rs o.revision o.at_place (c.loop-reference.invariant.alike rs are) (c.in_err-behind.ensures.entry o.revision o.is_of))))

pub loop-reference-preserved : goal.loop-reference-preserved
loop-reference-preserved c = record {
  alike = λ rs are.
      let known = c.args.store.now in
      let group = group_value c.args.group in
      let i = c.loop-reference.reference-index in
      let r = c.reference-item.result in
      let o = of-at known group c.args.references.now rs are i r (at-place c.args.references.now i r c.loop-reference-test.true c.reference-item.is) in
      let put = c.in_ok-behind.ensures.entry o.revision o.is_of in
      entry-step c.args.bytes.now (chunks_over (base_size known group rs) rs) c.loop-reference.rest.now c.in_ok-behind.behind.now c.loop-reference.base_len c.in_ok-behind.text_len i rs o.revision o.at_place
      (c.loop-reference.invariant.alike rs are) put.0 put.1;
  told = λ tail told. c.in_ok-behind.ensures.told tail (c.loop-reference.invariant.told tail told);
}

pub returns-clause-behind : goal.returns-clause-behind
returns-clause-behind c = λ rs are.
    let known = c.args.store.now in
    let group = group_value c.args.group in
    let bytes = c.args.bytes.now in
    let i = c.loop-reference.reference-index in
    let rest = c.loop-reference.rest.now in
    let chunks = chunks_over (base_size known group rs) rs in
    let end : length rs ≤ i = omega (arith, of-length known group c.args.references.now rs are) in
    let left = subst (λ (l : List Revision). GoOnAlike bytes chunks rest (chunks_over c.loop-reference.base_len l)) (drop_all i rs end) (c.loop-reference.invariant.alike rs are) in
    subst (λ (f : Bytes). IsBehind bytes f c.strip_empty.result) (group-spelled known group rs)
    (behind-both bytes chunks (chunk_text []) rest c.strip_empty.result (alike-end bytes chunks rest left) c.strip_empty.ensures)

pub returns-clause-tail : goal.returns-clause-tail
returns-clause-tail c = told-end c.args.store.now (group_value c.args.group) c.args.bytes.now c.loop-reference.rest.now c.strip_empty.result c.loop-reference.invariant.told c.strip_empty.ensures
