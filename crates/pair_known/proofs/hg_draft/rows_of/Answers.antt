use Rattle.std.proofs.Common.{◌≡◌, ◌∷◌, ◌++◌, [], true, not, List, length, map, refl, sym, ap, subst, ◌∙◌, arith, take_all}
use Rattle.std.specs.Prelude.{slice_get}
use Rattle.std.proofs.lemmas.List.{length-map}
use Rattle.std.proofs.lemmas.Option.{get_or_from_slice_get}
use Rattle.text_model.specs.Lists.{Each}
use Rattle.text_model.proofs.EachLemmas.{Each-append}
use Rattle.hg_model.specs.Manifest.{ManifestEntry}
use Rattle.hg_manifest.specs.Values.{manifest_entry}
use Rattle.hg_store.specs.Views.{is_unknown}
use Rattle.hg_store.proofs.ViewLemmas.{position-first, position-none, one_more}
use Rattle.view_model.specs.View.{entry_of_row}
use Rattle.pair_known.specs.Rows.{row_value}
use Rattle.pair_known.specs.Drafts.{IsRowKnown}
use Rattle.pair_known.proofs.HeldViews.{rows-more, row-made, blob-known}
use Rattle.pair_known.proofs.hg_draft.rows_of.Goals as goal

pub returns-in_default-clause-fault : goal.returns-in_default-clause-fault
returns-in_default-clause-fault c =
    let known = c.args.store.now in
    let e = manifest_entry c.at-entry.result.now in
    let test : is_unknown known e ≡ true = ap not c.in_default.ensures.blob in
    position-first (is_unknown known) c.args.manifest.now c.loop-line.line e (omega (arith, c.loop-line-test.true, c.len-line-end.ensures.len))
    (ap (is_unknown known) (get_or_from_slice_get c.args.manifest.now c.loop-line.line e e c.at-entry.ensures) ∙ test) (λ k. c.loop-line.invariant.known k e)

pub loop-line-preserved : goal.loop-line-preserved
loop-line-preserved c =
    let known = c.args.store.now in
    let e = manifest_entry c.at-entry.result.now in
    let blob = c.in-Some.blob in
    record {
      near = c.in-Some.ensures.same ∙ c.loop-line.invariant.near;
      known = one_more (is_unknown known) c.args.manifest.now c.loop-line.line e c.at-entry.ensures (blob-known known e.path e blob refl c.in-Some.ensures.blob) c.loop-line.invariant.known;
      rows = λ rows same held.
          let at = ap (λ (l : List ManifestEntry). slice_get l c.loop-line.line) same ∙ c.at-entry.ensures in
          c.in_ok-push.ensures.ok
          ∙ (λ i. c.loop-line.invariant.rows rows same held i ++ c.in_ok-row.row ∷ [])
          ∙ sym (rows-more known c.in_ok-row.row rows c.loop-line.line e at held
          (λ row same held. c.in_ok-row.ensures ∙ row-made known row e e.path blob same held refl c.in-Some.ensures.blob));
      blobs = subst (Each (IsRowKnown known)) (sym c.in_ok-push.ensures.ok) (Each-append (IsRowKnown known) _ (c.in_ok-row.row ∷ []) c.loop-line.invariant.blobs (subst (IsRowKnown known) (sym c.in_ok-row.ensures) c.in-Some.ensures.blob, tt));
    }

pub returns : goal.returns
returns c = record {
  known = position-none (is_unknown c.args.store.now) c.args.manifest.now (λ k d within. c.loop-line.invariant.known k d (omega (arith, within, c.loop-line-test.false, c.len-line-end.ensures.len)));
  rows = λ rows same held.
      let len = length-map rows entry_of_row in
      c.loop-line.invariant.rows rows same held
      ∙ ap (map row_value) (take_all c.loop-line.line rows (omega (arith, len, ap length same, c.len-line-end.ensures.len, c.loop-line-test.false)));
  blobs = c.loop-line.invariant.blobs;
  fault = tt;
}
