use Rattle.std.proofs.Common.{sym, ap, ◌∙◌}
use Rattle.std.specs.Prelude.{option_map}
use Rattle.hg_model.specs.Revision.{FilesAt}
use Rattle.bridge_text.specs.Kinds.{object_kind}
use Rattle.hg_store.specs.Known.{text_of}
use Rattle.pair_known.specs.Rows.{RowValue}
use Rattle.pair_state.proofs.BodyLemmas.{body-is, value-is}
use Rattle.state_audit.proofs.Rows.{body-test}
use Rattle.state_audit.proofs.files.has_body.Goals as goal

pub returns : goal.returns
returns c = λ x asked.
    let known = c.args.known.now in
    let v = c.row.view_is ∙ value-is known.hg known.git c.args.row.now x asked in
    let text = sym (ap (option_map (λ t. t.now)) c.unwrap-text.ensures) ∙ c.file_text.ensures.value ∙ (λ i. text_of known.hg (FilesAt ((c.as_slice.ensures ∙ ap (λ (r : RowValue). r.path) v) i)) (ap (λ (r : RowValue). r.node) v i)) in
    let body = body-is known.hg x c.unwrap-text.result.now _ c.in-Ok.body.now c.in-Ok.ensures.only asked.held.0 text in
    body-test known.git x c.row.inside.blob (object_kind c.in-Some.field-0-0) c.in-Some.content.now c.in-Ok.body.now _ (ap (λ (r : RowValue). r.blob) v) body c.in-Some.ensures.content c.eq.ensures
