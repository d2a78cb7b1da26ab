use Rattle.std.proofs.Common.{◌≡◌, ◌++◌, [], ℕ, List, length, map, drop, Some, sym, ap, ◌∙◌, arith}
use Rattle.std.proofs.lemmas.List.{drop_all}
use Rattle.std.proofs.lemmas.Option.{slice_get-get_or}
use Rattle.text_model.specs.Id.{IsId}
use Rattle.hg_model.specs.Manifest.{entry_text, manifest_text}
use Rattle.hg_model.proofs.ManifestLemmas.{manifest_text-none}
use Rattle.hg_manifest.specs.Values.{manifest_entry, file_flag}
use Rattle.hg_manifest.specs.declared.entry.Entry.{Entry}
use Rattle.hg_manifest.proofs.NearLemmas.{line_behind}
use Rattle.hg_manifest.proofs.lines.len_behind.Goals as goal

pub overflow_sub-behind : goal.overflow_sub-behind
overflow_sub-behind c =
    let rest = c.requires.0 in
    let i = c.loop-entry.entry-index in
    let e = c.get-entry.result.now in
    let at = slice_get-get_or c.args.entries.now i c.entry-item.result c.loop-entry-test.true ∙ ap Some (sym c.entry-item.is ∙ sym c.get-entry.ensures) in
    let measures : IsId e.node → c.line_len-behind.result ≡ length (entry_text (manifest_entry e)) =
    λ is. c.line_len-behind.ensures ∙ ap (λ (p : List ℕ). length (entry_text (record { path = p; node = e.node; flag = file_flag e.flag }))) c.as_slice.ensures in
    omega (arith, line_behind c.args.entries.now i e at c.requires.1.1 rest c.line_len-behind.result measures, c.loop-entry.invariant rest c.requires.1)

pub loop-entry-preserved : goal.loop-entry-preserved
loop-entry-preserved c = λ rest starts.
    let i = c.loop-entry.entry-index in
    let e = c.get-entry.result.now in
    let at = slice_get-get_or c.args.entries.now i c.entry-item.result c.loop-entry-test.true ∙ ap Some (sym c.entry-item.is ∙ sym c.get-entry.ensures) in
    let measures : IsId e.node → c.line_len-behind.result ≡ length (entry_text (manifest_entry e)) =
    λ is. c.line_len-behind.ensures ∙ ap (λ (p : List ℕ). length (entry_text (record { path = p; node = e.node; flag = file_flag e.flag }))) c.as_slice.ensures in
    omega (arith, line_behind c.args.entries.now i e at starts.1 rest c.line_len-behind.result measures, c.loop-entry.invariant rest starts)

pub returns : goal.returns
returns c = λ rest starts.
    let none : drop c.loop-entry.entry-index c.args.entries.now ≡ [] = drop_all c.loop-entry.entry-index c.args.entries.now (omega (arith, c.loop-entry-test.false)) in
    c.loop-entry.invariant rest starts ∙ ap (λ (es : List Entry). length (manifest_text (map manifest_entry es) ++ rest)) none ∙ ap (λ (text : List ℕ). length (text ++ rest)) manifest_text-none
