use Rattle.std.proofs.Common.{sym, ap, ◌∙◌}
use Rattle.std.specs.Prelude.{option_map}
use Rattle.bridge_text.specs.Kinds.{object_kind}
use Rattle.hg_manifest.specs.Values.{manifest_entry}
use Rattle.hg_store.specs.Known.{IsFileBlob}
use Rattle.pair_state.proofs.BodyLemmas.{of-some, blob-line, else-line}
use Rattle.pair_state.proofs.bodies.has_body.Goals as goal

pub returns-clause-yes : goal.returns-clause-yes
returns-clause-yes c = λ yes.
    let known = c.args.known.now in
    let text = sym (ap (option_map (λ t. t.now)) c.unwrap-text.ensures) ∙ c.file_text.ensures.value in
    let blob = of-some (IsFileBlob known.hg c.as_slice-path.result.now c.args.line.now.node) _ c.file_blob.result c.unwrap-blob.result
    c.unwrap-blob.ensures c.file_blob.ensures.value in
    blob-line known.hg known.git (manifest_entry c.args.line.now) c.requires.line c.as_slice-path.result.now c.as_slice-path.ensures
    c.unwrap-text.result.now _ c.in-Ok.body.now c.in-Ok.ensures.only text c.unwrap-blob.result blob
    (object_kind c.in-Some.kind) c.in-Some.content.now c.in-Some.ensures.content (sym c.is_blob_of.ensures ∙ yes)

pub returns-clause-otherwise : goal.returns-clause-otherwise
returns-clause-otherwise c = λ no.
    let known = c.args.known.now in
    let text = sym (ap (option_map (λ t. t.now)) c.unwrap-text.ensures) ∙ c.file_text.ensures.value in
    let blob = of-some (IsFileBlob known.hg c.as_slice-path.result.now c.args.line.now.node) _ c.file_blob.result c.unwrap-blob.result
    c.unwrap-blob.ensures c.file_blob.ensures.value in
    else-line known.hg known.git (manifest_entry c.args.line.now) c.requires.line c.as_slice-path.result.now c.as_slice-path.ensures
    c.unwrap-text.result.now _ c.in-Ok.body.now c.in-Ok.ensures.only text c.unwrap-blob.result blob
    (object_kind c.in-Some.kind) c.in-Some.content.now c.in-Some.ensures.content (sym c.is_blob_of.ensures ∙ no)
