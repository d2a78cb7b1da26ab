use Rattle.std.proofs.Common.{◌+◌, ◌<◌, ◌^◌, ◌++◌, ℕ, length, sym, ap, subst, ◌∙◌, arith, Bor, List}
use Rattle.std.specs.Prelude.{option_map}
use Rattle.byteorder.specs.Endian.{big_bytes}
use Rattle.text_model.specs.Text.{Bytes}
use Rattle.hg_model.specs.Delta.{whole_delta}
use Rattle.hg_store.specs.Groups.{group_value}
use Rattle.hg_dump.specs.Begins.{LacksFront, HasFront}
use Rattle.hg_dump.specs.ToldParts.{TellsDelta}
use Rattle.hg_dump.specs.Written.{entry_over}
use Rattle.hg_model.specs.Bundle.{entry_payload}
use Rattle.hg_model.proofs.ChunkLemmas.{length-chunk}
use Rattle.hg_dump.proofs.HeldLemmas.{text-short}
use Rattle.hg_dump.proofs.EntryLemmas.{entry-parts}
use Rattle.hg_dump.proofs.BundleLemmas.{entry-size, entry-text}
use Rattle.hg_dump.proofs.StripLemmas.{has-both, lacks-first, lacks-second}
use Rattle.hg_dump.proofs.ToldLemmas.{delta-told, told-behind}
use Rattle.hg_dump.proofs.strip.strip_entry.Goals as goal

pub delta_len-requires : goal.delta_len-requires
delta_len-requires c =
    let at = sym c.revision_text.ensures.value ∙ ap (option_map (λ (t : Bor (List ℕ)). t.now)) c.unwrap-text.ensures in
    omega (arith, text-short c.args.store.now (group_value c.args.group) c.args.reference.now.node c.unwrap-text.result.now c.revision_text.ensures.known at)

pub strip_header-requires : goal.strip_header-requires
strip_header-requires c =
    let at = sym c.revision_text.ensures.value ∙ ap (option_map (λ (t : Bor (List ℕ)). t.now)) c.unwrap-text.ensures in
    omega (arith, c.delta_len.ensures.most, text-short c.args.store.now (group_value c.args.group) c.args.reference.now.node c.unwrap-text.result.now c.revision_text.ensures.known at)

pub strip_delta-requires-clause-told : goal.strip_delta-requires-clause-told
strip_delta-requires-clause-told c =
    let at = sym c.revision_text.ensures.value ∙ ap (option_map (λ (t : Bor (List ℕ)). t.now)) c.unwrap-text.ensures in
    let known = c.args.store.now in
    let group = group_value c.args.group in
    let text = c.unwrap-text.result.now in
    let ref = c.args.reference.now in
    let pair = c.parents-p.result in
    let small : c.delta_len.result + 84 < 2 ^ 32 = omega (arith, c.delta_len.ensures.most, text-short known group ref.node text c.revision_text.ensures.known at) in
    subst (λ (n : ℕ). TellsDelta c.in_ok-delta.delta.now n text) c.delta_len.ensures.len
    (delta-told known group c.args.bytes.now c.in_ok-delta.delta.now c.requires.told.0 ref.node pair.0 pair.1 ref.link text c.delta_len.result c.requires.told.1 c.in_ok-delta.ensures.behind c.in_ok-delta.ensures.ids small at)

pub strip_delta-requires-clause-short : goal.strip_delta-requires-clause-short
strip_delta-requires-clause-short c =
    let at = sym c.revision_text.ensures.value ∙ ap (option_map (λ (t : Bor (List ℕ)). t.now)) c.unwrap-text.ensures in
    omega (arith, text-short c.args.store.now (group_value c.args.group) c.args.reference.now.node c.unwrap-text.result.now c.revision_text.ensures.known at)

pub overflow_cast-result : goal.overflow_cast-result
overflow_cast-result c =
    let at = sym c.revision_text.ensures.value ∙ ap (option_map (λ (t : Bor (List ℕ)). t.now)) c.unwrap-text.ensures in
    omega (arith, text-short c.args.store.now (group_value c.args.group) c.args.reference.now.node c.unwrap-text.result.now c.revision_text.ensures.known at)

pub returns-in_err-delta-clause-entry : goal.returns-in_err-delta-clause-entry
returns-in_err-delta-clause-entry c = rw c.from_residual.ensures (λ r is.
    let bytes = c.args.bytes.now in
    let at = sym c.revision_text.ensures.value ∙ ap (option_map (λ (t : Bor (List ℕ)). t.now)) c.unwrap-text.ensures in
    let text = c.unwrap-text.result.now in
    let ref = c.args.reference.now in
    let pair = c.parents-p.result in
    let header = big_bytes 4 (c.delta_len.result + 84) ++ ref.node ++ pair.0 ++ pair.1 ++ ref.link in
    subst (λ (f : Bytes). LacksFront bytes f)
    (entry-parts c.args.store.now (group_value c.args.group) ref r c.args.base_len c.delta_len.result pair.0 pair.1 text is at c.parents-p.ensures.parents c.in_err-delta.ensures.ids c.delta_len.ensures.len)
    (lacks-first bytes header (whole_delta c.args.base_len text) c.in_err-delta.ensures.behind))

pub returns-in_err-rest-clause-entry : goal.returns-in_err-rest-clause-entry
returns-in_err-rest-clause-entry c = rw c.from_residual-in_err-rest.ensures (λ r is.
    let bytes = c.args.bytes.now in
    let at = sym c.revision_text.ensures.value ∙ ap (option_map (λ (t : Bor (List ℕ)). t.now)) c.unwrap-text.ensures in
    let text = c.unwrap-text.result.now in
    let ref = c.args.reference.now in
    let pair = c.parents-p.result in
    let header = big_bytes 4 (c.delta_len.result + 84) ++ ref.node ++ pair.0 ++ pair.1 ++ ref.link in
    subst (λ (f : Bytes). LacksFront bytes f)
    (entry-parts c.args.store.now (group_value c.args.group) ref r c.args.base_len c.delta_len.result pair.0 pair.1 text is at c.parents-p.ensures.parents c.in_ok-delta.ensures.ids c.delta_len.ensures.len)
    (lacks-second bytes header (whole_delta c.args.base_len text) c.in_ok-delta.delta.now c.in_ok-delta.ensures.behind c.in_err-rest.ensures))

pub returns-clause-entry : goal.returns-clause-entry
returns-clause-entry c = λ r is.
    let bytes = c.args.bytes.now in
    let at = sym c.revision_text.ensures.value ∙ ap (option_map (λ (t : Bor (List ℕ)). t.now)) c.unwrap-text.ensures in
    let text = c.unwrap-text.result.now in
    let ref = c.args.reference.now in
    let pair = c.parents-p.result in
    let header = big_bytes 4 (c.delta_len.result + 84) ++ ref.node ++ pair.0 ++ pair.1 ++ ref.link in
    let rest = c.in_ok-rest.rest.now in (
      subst (λ (f : Bytes). HasFront bytes f rest)
          (entry-parts c.args.store.now (group_value c.args.group) ref r c.args.base_len c.delta_len.result pair.0 pair.1 text is at c.parents-p.ensures.parents c.in_ok-delta.ensures.ids c.delta_len.ensures.len)
          (has-both bytes header (whole_delta c.args.base_len text) c.in_ok-delta.delta.now rest c.in_ok-delta.ensures.behind c.in_ok-rest.ensures),
      ap (λ (t : Bytes). length t) (entry-text c.args.store.now (group_value c.args.group) ref r text is at),
    )

pub returns-clause-told : goal.returns-clause-told
returns-clause-told c = λ tail told.
    let known = c.args.store.now in
    let group = group_value c.args.group in
    let at = sym c.revision_text.ensures.value ∙ ap (option_map (λ (t : Bor (List ℕ)). t.now)) c.unwrap-text.ensures in
    let text = c.unwrap-text.result.now in
    let ref = c.args.reference.now in
    let r = c.requires.is.0 in
    let e = entry_over c.args.base_len r in
    let ids = c.in_ok-delta.ensures.ids in
    let short = text-short known group ref.node text c.revision_text.ensures.known at in
    let size = entry-size known group ref r c.args.base_len c.delta_len.result text c.revision_text.ensures.known c.requires.is.1 ids.0 ids.3 at c.delta_len.ensures.len in
    let chunk = length-chunk (entry_payload e) in
    told-behind known group c.args.bytes.now c.in_ok-rest.rest.now tail e told (returns-clause-entry c r c.requires.is.1).0 (omega (arith, size, chunk)) (omega (arith, size, chunk, short, c.delta_len.ensures.most))
