use Rattle.std.proofs.Common.{ℕ, length, sym, ap, ◌∙◌, arith, Bor, List, rules}
use Rattle.std.specs.Prelude.{option_map}
use Rattle.text_model.specs.Text.{Bytes}
use Rattle.text_model.specs.Id.{IsId}
use Rattle.hg_store.specs.Groups.{group_value}
use Rattle.hg_dump.proofs.HeldLemmas.{text-short}
use Rattle.hg_dump.proofs.BundleLemmas.{entry-size, entry-text}
use Rattle.hg_dump.proofs.entry.entry_len.Goals as goal

pub delta_len-len-requires : goal.delta_len-len-requires
delta_len-len-requires c =
    let at = sym c.revision_text.ensures.value ∙ ap (option_map (λ (t : Bor (List ℕ)). t.now)) c.unwrap-text.ensures in
    omega (arith, text-short c.args.store.now (group_value c.args.group) c.args.reference.node c.unwrap-text.result.now c.revision_text.ensures.known at)

pub overflow_cast-result : goal.overflow_cast-result
overflow_cast-result c =
    let at = sym c.revision_text.ensures.value ∙ ap (option_map (λ (t : Bor (List ℕ)). t.now)) c.unwrap-text.ensures in
    omega (arith, text-short c.args.store.now (group_value c.args.group) c.args.reference.node c.unwrap-text.result.now c.revision_text.ensures.known at)

pub returns-clause-entry : goal.returns-clause-entry
returns-clause-entry c = λ r is.
    let at = sym c.revision_text.ensures.value ∙ ap (option_map (λ (t : Bor (List ℕ)). t.now)) c.unwrap-text.ensures in
    let ids : IsId c.args.reference.node × IsId c.args.reference.link = search (c.well_formed, rules) in
    omega (
      arith,
      entry-size c.args.store.now (group_value c.args.group) c.args.reference r c.args.base_len c.delta_len-len.result c.unwrap-text.result.now c.revision_text.ensures.known is
          ids.0 ids.1 at c.delta_len-len.ensures.len,
    )

pub returns-clause-len : goal.returns-clause-len
returns-clause-len c = λ r is.
    let at = sym c.revision_text.ensures.value ∙ ap (option_map (λ (t : Bor (List ℕ)). t.now)) c.unwrap-text.ensures in
    ap (λ (t : Bytes). length t) (entry-text c.args.store.now (group_value c.args.group) c.args.reference r c.unwrap-text.result.now is at)
