use Rattle.std.proofs.Common.{◌≡◌, ◌≤◌, ◌++◌, ℕ, [], List, length, drop, sym, ap, ◌∙◌, arith, append-nil, append_assoc}
use Rattle.std.proofs.lemmas.Result.{on_ok_weaker}
use Rattle.std.proofs.lemmas.List.{drop_all}
use Rattle.std.proofs.Transfers.{starts_with_trans}
use Rattle.text_model.specs.Text.{Bytes}
use Rattle.hg_model.specs.Revision.{Revision}
use Rattle.hg_model.specs.Chunk.{chunk_text}
use Rattle.hg_store.specs.Groups.{group_value}
use Rattle.hg_dump.specs.Written.{base_size, chunks_over}
use Rattle.hg_dump.proofs.EntryLemmas.{at-place, of-at, of-length, chunks-step, group-spelled}
use Rattle.hg_dump.proofs.group.put_entries.Goals as goal

pub put_entry-requires : goal.put_entry-requires
put_entry-requires c =
    let i = c.loop-reference.reference-index in
    let r = c.reference-item.result in
    let o = of-at c.args.store.now (group_value c.args.group) c.args.references.now c.requires.are.0 c.requires.are.1 i r (at-place c.args.references.now i r c.loop-reference-test.true c.reference-item.is) in
    (o.revision, o.is_of)

pub loop-reference-preserved : goal.loop-reference-preserved
loop-reference-preserved c = record {
  written = λ rs are.
      let known = c.args.store.now in
      let group = group_value c.args.group in
      let i = c.loop-reference.reference-index in
      let r = c.reference-item.result in
      let o = of-at known group c.args.references.now rs are i r (at-place c.args.references.now i r c.loop-reference-test.true c.reference-item.is) in
      chunks-step c.loop-reference.out c.put_entry.new.out c.args.out.now (chunks_over (base_size known group rs) rs) c.loop-reference.base_len c.in_ok-base_len.base_len i rs o.revision o.at_place
      (c.loop-reference.invariant.written rs are) (c.in_ok-base_len.ensures.entry o.revision o.is_of) (c.in_ok-base_len.ensures.len o.revision o.is_of);
  front = starts_with_trans _ _ _ c.put_entry.ensures.front c.loop-reference.invariant.front;
}

nothing-left : (rs : List Revision) (i : ℕ) (out from whole : Bytes) (size : ℕ) → length rs ≤ i → out ++ chunks_over size (drop i rs) ≡ from ++ whole → out ≡ from ++ whole
nothing-left rs i out from whole size h e = sym (append-nil out) ∙ ap (λ (l : List Revision). out ++ chunks_over size l) (sym (drop_all i rs h)) ∙ e

pub returns-clause-ok : goal.returns-clause-ok
returns-clause-ok c =
    on_ok_weaker c.put_empty.result
    (λ put rs are.
    let known = c.args.store.now in
    let group = group_value c.args.group in
    let i = c.loop-reference.reference-index in
    let end : length rs ≤ i = omega (arith, of-length known group c.args.references.now rs are) in
    let so_far = nothing-left rs i c.loop-reference.out c.args.out.now (chunks_over (base_size known group rs) rs) c.loop-reference.base_len end (c.loop-reference.invariant.written rs are) in
    put ∙ ap (λ (x : Bytes). x ++ chunk_text []) so_far
    ∙ append_assoc c.args.out.now (chunks_over (base_size known group rs) rs) (chunk_text [])
    ∙ ap (λ (x : Bytes). c.args.out.now ++ x) (group-spelled known group rs))
    c.put_empty.ensures.ok
