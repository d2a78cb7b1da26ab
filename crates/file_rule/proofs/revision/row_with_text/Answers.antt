use Rattle.std.proofs.Common.{refl, sym, ap, ◌∙◌}
use Rattle.text_model.specs.Text.{Bytes}
use Rattle.text_model.specs.Id.{node_id}
use Rattle.hg_store.specs.Known.{knows_same}
use Rattle.pair_known.specs.declared.fresh_files.FreshFile.{FreshFile}
use Rattle.file_rule.specs.Made.{revision_with, IsTextOver}
use Rattle.file_rule.proofs.NewRow.{known-at, ruled-known, ruled-fresh}
use Rattle.file_rule.proofs.revision.row_with_text.Goals as goal

pub returns-then-is_held-clause-ok : goal.returns-then-is_held-clause-ok
returns-then-is_held-clause-ok c = λ r is.
    ruled-known c.args.store.now c.args.file.now _ r c.args.parents c.args.text is c.node_id-node.result (c.node_id-node.ensures ∙ ap (node_id c.args.parents.0 c.args.parents.1) c.as_slice.ensures) _ c.in_ok-row.ensures refl
    (known-at c.args.store.now c.path.result.now c.args.file.now.path c.node_id-node.result c.args.parents.0 c.args.parents.1 c.as_slice-2.result.now c.args.text c.path.ensures c.as_slice-2.ensures (c.if-is_held.ensures.held refl))

pub returns-clause-ok : goal.returns-clause-ok
returns-clause-ok c = λ r is.
    let f : FreshFile = record { path = c.in_ok-of.field-0; node = c.node_id-node.result; p = c.args.parents.0; q = c.args.parents.1; text = c.args.text } in
    ruled-fresh c.args.store.now c.args.file.now _ r c.args.parents c.args.text is c.node_id-node.result (c.node_id-node.ensures ∙ ap (node_id c.args.parents.0 c.args.parents.1) c.as_slice.ensures) _ f c.in_ok-row.ensures refl
    (λ i. record { path = (c.in_ok-of.ensures ∙ c.path-2.ensures) i; node = c.node_id-node.result; p = c.args.parents.0; q = c.args.parents.1; text = c.args.text })

pub returns-clause-fresh : goal.returns-clause-fresh
returns-clause-fresh c =
    let pq = c.args.parents in
    let is : IsTextOver c.args.text c.requires.text.0 c.requires.text.1 pq.0 pq.1 = c.requires.text.2 in
    let path = c.in_ok-of.ensures ∙ c.path-2.ensures in
    let free = c.if-is_held.ensures.free refl c.requires.text.0 c.requires.text.1 (is.spells.0, c.as_slice-2.ensures ∙ is.spells.1) is.order in (
      path,
      ap (λ (x : Bytes). knows_same c.args.store.now (revision_with x c.node_id-node.result pq.0 pq.1 c.args.text)) (path ∙ sym c.path.ensures)
          ∙ ap (λ (x : Bytes). knows_same c.args.store.now (revision_with c.path.result.now c.node_id-node.result pq.0 pq.1 x)) (sym c.as_slice-2.ensures)
          ∙ free,
    )
