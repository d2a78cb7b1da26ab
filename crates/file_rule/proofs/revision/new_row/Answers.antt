use Rattle.std.proofs.Common.{ap, sym, ◌∙◌}
use Rattle.std.specs.Prelude.{option_map}
use Rattle.std.specs.Option.{option_copied}
use Rattle.std.proofs.lemmas.Result.{IfOk-weaker}
use Rattle.hg_model.specs.FileText.{plain_meta}
use Rattle.hg_manifest.specs.Values.{manifest_entry}
use Rattle.file_rule.proofs.NewRow.{IsMade, ordered, made-text, made-revision}
use Rattle.file_rule.proofs.revision.new_row.Goals as goal

made : (c : goal.After-row_with_text) → IsMade c.content_text.result.now c.in_ok-text.text (option_map manifest_entry (option_copied c.args.first)) (option_map manifest_entry (option_copied c.args.second)) c.parents_over-parents.result
made c = record {
  bytes = c.plain_text.ensures.bytes;
  text_is = c.in_ok-text.ensures.text;
  parents = c.parents_over-parents.ensures ∙ (λ i. ordered (c.node_or_null.ensures i) (c.node_or_null-2.ensures i));
}

pub row_with_text-requires : goal.row_with_text-requires
row_with_text-requires c = record {
  text = (
    plain_meta c.content_text.result.now,
    c.content_text.result.now,
    made-text c.content_text.result.now c.in_ok-text.text (option_map manifest_entry (option_copied c.args.first)) (option_map manifest_entry (option_copied c.args.second)) c.parents_over-parents.result (record {
      bytes = c.plain_text.ensures.bytes;
      text_is = c.in_ok-text.ensures.text;
      parents = c.parents_over-parents.ensures ∙ (λ i. ordered (c.node_or_null.ensures i) (c.node_or_null-2.ensures i));
    }),
  );
}

pub returns-clause-ok : goal.returns-clause-ok
returns-clause-ok c = IfOk-weaker c.row_with_text.result _ _
    (λ x h r s t is. h _ (made-revision _ _ c.args.file.now _ _ r s t is c.content_text.result.now c.in_ok-text.text (c.content_text.ensures t (ap (λ x. x.id) is.of_file ∙ sym c.blob.ensures) is.content) c.parents_over-parents.result (made c)))
    c.row_with_text.ensures.ok
