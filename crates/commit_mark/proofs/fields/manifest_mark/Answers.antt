use Rattle.std.proofs.Common.{Bool, [], ◌∷◌, sym, ap, ◌∙◌}
use Rattle.std.specs.Prelude.{if◌then◌else◌}
use Rattle.pair_model.specs.MarkList.{Manifest}
use Rattle.hg_manifest.specs.Values.{manifest_value}
use Rattle.commit_mark.proofs.FieldMarks.{is-manifest, rows-over, manifest-mark}
use Rattle.commit_mark.proofs.fields.manifest_mark.Goals as goal

pub returns-then-is_ruled_manifest : goal.returns-then-is_ruled_manifest
returns-then-is_ruled_manifest c = λ ps v over.
    let o = c.args.over.now in
    let h = c.args.h.now in
    let test = c.is_ruled_manifest.ensures ps v.rows (rows-over o h ps v over) (is-manifest v over.view) in
    ap (λ (b : Bool). if b then [] else Manifest (manifest_value h.manifest) ∷ []) (sym c.if-is_ruled_manifest.true) ∙ manifest-mark o h ps v over c.is_ruled_manifest.result test

pub returns : goal.returns
returns c = λ ps v over.
    let o = c.args.over.now in
    let h = c.args.h.now in
    let test = c.is_ruled_manifest.ensures ps v.rows (rows-over o h ps v over) (is-manifest v over.view) in
    ap (λ (b : Bool). if b then [] else Manifest (manifest_value h.manifest) ∷ []) (sym c.if-is_ruled_manifest.false) ∙ manifest-mark o h ps v over c.is_ruled_manifest.result test
