use Rattle.std.proofs.Common.{◌≡◌, ◌<◌, ℕ, List, Some, true≢false, length, map, get_or, sym, ap, ◌∙◌, arith}
use Rattle.std.specs.Prelude.{slice_get}
use Rattle.std.proofs.lemmas.Option.{slice_get-get_or}
use Rattle.text_model.proofs.Elements.{each_at}
use Rattle.hg_model.specs.Revision.{Revision}
use Rattle.pair_known.specs.Fresh.{fresh_revision}
use Rattle.pair_known.specs.declared.fresh_files.FreshFile.{FreshFile}
use Rattle.manifest_rule.proofs.ManifestLemmas.{get-map}
use Rattle.changeset_rule.proofs.FitsLemmas.{IsShort, each-more}
use Rattle.changeset_rule.proofs.fits.files_fit.Goals as goal

-- the revision at a place
file-at : (fresh : List Revision) (list : List FreshFile) (i : ℕ) (file : FreshFile) → map fresh_revision list ≡ fresh → i < length list → file ≡ get_or list i file → slice_get fresh i ≡ Some (fresh_revision file)
file-at fresh list i file same below is =
    ap (λ (l : List Revision). slice_get l i) (sym same) ∙ get-map fresh_revision list i file (slice_get-get_or list i file below ∙ ap Some (sym is))

pub returns-then-len-gt-TEXT_LIMIT : goal.returns-then-len-gt-TEXT_LIMIT
returns-then-len-gt-TEXT_LIMIT c =
    let at = file-at c.args.fresh.now c.as_slice-file-items.result.now c.loop-file.file-index c.file-item.result c.as_slice-file-items.ensures c.loop-file-test.true c.file-item.is in (
      (λ e. absurd (true≢false (sym e))),
      (λ all. absurd (omega (arith, each_at IsShort c.args.fresh.now c.loop-file.file-index (fresh_revision c.file-item.result) at all, c.len.ensures, c.if-len-gt-TEXT_LIMIT.true))),
    )

pub loop-file-preserved : goal.loop-file-preserved
loop-file-preserved c =
    let at = file-at c.args.fresh.now c.as_slice-file-items.result.now c.loop-file.file-index c.file-item.result c.as_slice-file-items.ensures c.loop-file-test.true c.file-item.is in
    each-more c.args.fresh.now c.loop-file.file-index (fresh_revision c.file-item.result) at (omega (arith, c.len.ensures, c.if-len-gt-TEXT_LIMIT.false)) c.loop-file.invariant
