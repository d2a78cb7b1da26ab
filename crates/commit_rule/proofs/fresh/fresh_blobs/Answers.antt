use Rattle.std.proofs.Common.{◌≡◌, ◌++◌, ◌∙◌, map, sym, ap, subst, take}
use Rattle.text_model.specs.Lists.{Each}
use Rattle.text_model.proofs.Elements.{map_take_push}
use Rattle.git_model.specs.Object.{knows_object}
use Rattle.pair_model.specs.Rule.{tree_row_of}
use Rattle.pair_known.specs.Rows.{RowValue}
use Rattle.commit_rule.specs.Parts.{AreBrought, HasStoredBlob}
use Rattle.commit_rule.proofs.ListLemmas.{get-at}
use Rattle.commit_rule.proofs.BlobLemmas.{row-there, brought-none, knows-back, stored-blob}
use Rattle.commit_rule.proofs.fresh.fresh_blobs.Goals as goal

pub add_blob-requires : goal.add_blob-requires
add_blob-requires c =
    let at = get-at c.args.h.now.rows c.as_slice-rows.result.now c.loop-row.row-index c.row-item.result c.as_slice-rows.ensures c.loop-row-test.true c.row-item.is in
    let r = row-there (c.args.h.now.fresh ++ c.args.known.now.hg) c.args.h.now.rows c.requires.held.0 c.loop-row.row-index c.row-item.result c.requires.held.1 at in
    record { held = (r.0, r.2) }

-- the blob stands among the near rows
pub loop-row-preserved-then-has : goal.loop-row-preserved-then-has
loop-row-preserved-then-has c = record {
  brought = λ rows are.
      let i = c.loop-row.row-index in
      let known = c.args.known.now.git in
      let at = get-at c.args.h.now.rows c.as_slice-rows.result.now i c.row-item.result c.as_slice-rows.ensures c.loop-row-test.true c.row-item.is in
      let r = row-there (c.args.h.now.fresh ++ c.args.known.now.hg) c.args.h.now.rows rows i c.row-item.result are at in
      let id : c.row-item.result.blob ≡ (tree_row_of r.0).id = ap (λ (v : RowValue). v.blob) (sym r.2.0) in
      let stored = stored-blob known c.loop-row.walk c.row-item.result.blob c.loop-row.invariant.near_stored (c.has.ensures.among c.if-has.true) in
      subst (AreBrought known c.loop-row.fresh) (sym (map_take_push tree_row_of rows i r.0 r.1))
      (brought-none known c.loop-row.fresh (map tree_row_of (take i rows)) (tree_row_of r.0) (c.loop-row.invariant.brought rows are) (knows-back c.loop-row.fresh known (tree_row_of r.0).id (ap (knows_object known) (sym id) ∙ stored)));
  near_stored = subst (Each (HasStoredBlob c.args.known.now.git)) (sym c.has.ensures.same) c.loop-row.invariant.near_stored;
}

pub loop-row-preserved : goal.loop-row-preserved
loop-row-preserved c = record {
  brought = λ rows are.
      let i = c.loop-row.row-index in
      let at = get-at c.args.h.now.rows c.as_slice-rows.result.now i c.row-item.result c.as_slice-rows.ensures c.loop-row-test.true c.row-item.is in
      let r = row-there (c.args.h.now.fresh ++ c.args.known.now.hg) c.args.h.now.rows rows i c.row-item.result are at in
      subst (AreBrought c.args.known.now.git c.add_blob.new.fresh) (sym (map_take_push tree_row_of rows i r.0 r.1)) (c.in_ok-add_blob.ensures (take i rows) r.0 (c.loop-row.invariant.brought rows are) r.2);
  near_stored = subst (Each (HasStoredBlob c.args.known.now.git)) (sym c.has.ensures.same) c.loop-row.invariant.near_stored;
}
