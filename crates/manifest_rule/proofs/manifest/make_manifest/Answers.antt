use Rattle.std.proofs.Common.{sym, ap, ◌∙◌, bytes_eq}
use Rattle.text_model.specs.Id.{node_id}
use Rattle.text_model.specs.Text.{Bytes}
use Rattle.text_model.proofs.TestLemmas.{bytes_eq-is}
use Rattle.view_model.specs.View.{rows_text, manifest_node}
use Rattle.manifest_rule.proofs.ManifestLemmas.{ruled-first, ruled-new, held-there, text-held, node-held, node-new, lines-are}
use Rattle.manifest_rule.proofs.manifest.make_manifest.Goals as goal

pub returns-then-has_text : goal.returns-then-has_text
returns-then-has_text c = λ ps hs over.
    let known = c.args.store.now in
    let lines = c.in_ok-text.ensures ∙ lines-are c.args.rows.now hs over.of_rows in
    let held = held-there known c.args.first.now ps.first over.in_first in
    let test = c.has_text.ensures.same (rows_text (ps.first).rows) (text-held known c.has_text.ensures.known c.args.first.now.manifest_node (ps.first).manifest (ps.first).rows held) in
    let same = ap (λ (t : Bytes). bytes_eq t (rows_text (ps.first).rows)) (sym lines ∙ sym c.as_slice.ensures) ∙ sym test ∙ c.if-has_text.true in
    let ruled = ruled-first ps hs same in
    record {
      manifest = sym (c.manifest_of_node.ensures (ps.first).manifest (ps.first).rows held) ∙ sym ruled;
      node = node-held known c.has_text.ensures.known c.args.first.now.manifest_node (ps.first).manifest (ps.first).rows hs held (bytes_eq-is (rows_text hs) (rows_text (ps.first).rows) same) ∙ ap (λ m. manifest_node m hs) (sym ruled);
      text = tt;
    }

pub returns : goal.returns
returns c = λ ps hs over.
    let known = c.args.store.now in
    let lines = c.in_ok-text.ensures ∙ lines-are c.args.rows.now hs over.of_rows in
    let held = held-there known c.args.first.now ps.first over.in_first in
    let test = c.has_text.ensures.same (rows_text (ps.first).rows) (text-held known c.has_text.ensures.known c.args.first.now.manifest_node (ps.first).manifest (ps.first).rows held) in
    let same = ap (λ (t : Bytes). bytes_eq t (rows_text (ps.first).rows)) (sym lines ∙ sym c.as_slice.ensures) ∙ sym test ∙ c.if-has_text.false in
    let ruled = ruled-new known c.args.first.now c.args.second.now ps hs over.in_first over.in_second same c.parents_over-p.result c.parents_over-p.ensures in
    record {
      manifest = ruled;
      node = c.node_id-node.ensures ∙ ap (node_id c.parents_over-p.result.0 c.parents_over-p.result.1) (c.as_slice-2.ensures ∙ lines) ∙ node-new c.parents_over-p.result.0 c.parents_over-p.result.1 hs ∙ ap (λ m. manifest_node m hs) ruled;
      text = lines;
    }
