use Rattle.std.proofs.Common.{◌≡◌, Some, length, ap, sym, ◌∙◌}
use Rattle.text_model.specs.Text.{Bytes}
use Rattle.text_model.specs.Id.{IsId}
use Rattle.hg_model.specs.Manifest.{entry_text}
use Rattle.hg_manifest.specs.Values.{manifest_entry, file_flag}
use Rattle.hg_manifest.proofs.NearLemmas.{first-behind}
use Rattle.hg_manifest.proofs.near.Near.split.Goals as goal

pub split_at-requires-2 : goal.split_at-requires-2
split_at-requires-2 c =
    let entry = c.get-entry.result.now in
    let measures : IsId entry.node → c.line_len.result ≡ length (entry_text (manifest_entry entry)) =
    λ is. c.line_len.ensures ∙ ap (λ (p : Bytes). length (entry_text (record { path = p; node = entry.node; flag = file_flag entry.flag }))) c.as_slice.ensures in
    let parts = first-behind c.self.inside.entries.now c.self.inside.lines.now entry c.line_len.result c.self.invariant (sym c.in_ok-shared.ensures.value ∙ ap Some (sym c.get-entry.ensures)) measures in
    parts.within

pub invariant_of-result : goal.invariant_of-result
invariant_of-result c =
    let entry = c.get-entry.result.now in
    let measures : IsId entry.node → c.line_len.result ≡ length (entry_text (manifest_entry entry)) =
    λ is. c.line_len.ensures ∙ ap (λ (p : Bytes). length (entry_text (record { path = p; node = entry.node; flag = file_flag entry.flag }))) c.as_slice.ensures in
    let parts = first-behind c.self.inside.entries.now c.self.inside.lines.now entry c.line_len.result c.self.invariant (sym c.in_ok-shared.ensures.value ∙ ap Some (sym c.get-entry.ensures)) measures in
    rw (c.split_at-2.ensures.back, c.split_at.ensures.back) parts.behind

pub returns-clause-some : goal.returns-clause-some
returns-clause-some c =
    let entry = c.get-entry.result.now in
    let measures : IsId entry.node → c.line_len.result ≡ length (entry_text (manifest_entry entry)) =
    λ is. c.line_len.ensures ∙ ap (λ (p : Bytes). length (entry_text (record { path = p; node = entry.node; flag = file_flag entry.flag }))) c.as_slice.ensures in
    let parts = first-behind c.self.inside.entries.now c.self.inside.lines.now entry c.line_len.result c.self.invariant (sym c.in_ok-shared.ensures.value ∙ ap Some (sym c.get-entry.ensures)) measures in
    rw (c.split_at.ensures.back, c.split_at-2.ensures.front, ← c.self.view_is) (parts.first, parts.line, parts.fit)
