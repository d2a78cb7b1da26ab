use Rattle.std.proofs.Common.{Option, Bor, true, sym, ap, subst}
use Rattle.std.specs.Prelude.{option_map}
use Rattle.std.specs.Option.{option_copied}
use Rattle.hg_manifest.specs.Values.{manifest_entry}
use Rattle.hg_manifest.specs.declared.entry.Entry.{Entry}
use Rattle.pair_known.specs.Rows.{RowValue}
use Rattle.pair_known.proofs.NearLemmas.{near-blob}
use Rattle.file_rule.specs.Parents.{IsRevisionAt}
use Rattle.file_rule.proofs.RowLemmas.{blob-kept}
use Rattle.file_rule.proofs.near.near_node.Goals as goal

pub returns-then-eq-clause-node : goal.returns-then-eq-clause-node
returns-then-eq-clause-node c = λ known path r near is.
    let e = manifest_entry c.in_ok-entry.entry.now in
    let at = subst (λ (o : Option (Bor Entry)). IsRevisionAt known path (option_map manifest_entry (option_copied o)) r) c.in_ok-entry.was is in
    let blob = near-blob known c.args.near.now c.in_ok-row.row.now e.path e.node c.row.inside.blob near c.in_ok-row.ensures.among c.in_ok-row.ensures.same_file (sym (ap (λ (x : RowValue). x.blob) c.row.view_is)) in
    blob-kept known path e r c.row.inside.blob c.args.blob.now true at blob (sym c.if-eq.ensures)
