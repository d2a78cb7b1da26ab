use Rattle.std.proofs.Common.{◌≡◌, true, false, not, sym, ap, ◌∙◌, arith}
use Rattle.std.proofs.lemmas.Option.{get_or_from_slice_get}
use Rattle.text_model.specs.Text.{Bytes}
use Rattle.hg_model.specs.Revision.{FilesAt, knows}
use Rattle.hg_manifest.specs.Values.{manifest_entry}
use Rattle.hg_store.specs.Views.{is_unknown}
use Rattle.hg_store.proofs.ViewLemmas.{position-first, position-none, one_more}
use Rattle.hg_store.proofs.store.HgStore.first_unknown.Goals as goal

pub returns-then-not-knows : goal.returns-then-not-knows
returns-then-not-knows c =
    let known = c.args.self.now in
    let e = manifest_entry c.at-entry.result.now in
    let is : c.knows.result ≡ knows known (FilesAt e.path) e.node = c.knows.ensures ∙ ap (λ (p : Bytes). knows known (FilesAt p) e.node) c.as_slice.ensures in
    let test : is_unknown known e ≡ true = ap not (sym is ∙ c.if-not-knows.true) in
    sym (position-first (is_unknown known) c.args.manifest.now c.loop-line.line e (omega (arith, c.loop-line-test.true, c.len-line-end.ensures.len))
    (ap (is_unknown known) (get_or_from_slice_get c.args.manifest.now c.loop-line.line e e c.at-entry.ensures) ∙ test) (λ k. c.loop-line.invariant k e))

pub loop-line-preserved : goal.loop-line-preserved
loop-line-preserved c =
    let known = c.args.self.now in
    let e = manifest_entry c.at-entry.result.now in
    let is : c.knows.result ≡ knows known (FilesAt e.path) e.node = c.knows.ensures ∙ ap (λ (p : Bytes). knows known (FilesAt p) e.node) c.as_slice.ensures in
    let test : is_unknown known e ≡ false = ap not (sym is ∙ c.if-not-knows.false) in
    one_more (is_unknown known) c.args.manifest.now c.loop-line.line e c.at-entry.ensures test c.loop-line.invariant

pub returns : goal.returns
returns c =
    sym (position-none (is_unknown c.args.self.now) c.args.manifest.now
    (λ k d within. c.loop-line.invariant k d (omega (arith, within, c.loop-line-test.false, c.len-line-end.ensures.len))))
