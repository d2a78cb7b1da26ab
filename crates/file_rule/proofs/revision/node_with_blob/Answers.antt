use Rattle.std.proofs.Common.{Option, Bor, true, false, sym, subst}
use Rattle.std.specs.Prelude.{option_map}
use Rattle.std.specs.Option.{option_copied}
use Rattle.text_model.specs.Text.{Bytes}
use Rattle.hg_manifest.specs.Values.{manifest_entry}
use Rattle.hg_manifest.specs.declared.entry.Entry.{Entry}
use Rattle.hg_store.specs.Known.{IsFileBlob}
use Rattle.file_rule.specs.Parents.{IsRevisionAt}
use Rattle.file_rule.proofs.RowLemmas.{blob-kept}
use Rattle.file_rule.proofs.revision.node_with_blob.Goals as goal

pub returns-then-eq-clause-node : goal.returns-then-eq-clause-node
returns-then-eq-clause-node c = λ path r is.
    let known = c.args.store.now in
    let e = manifest_entry c.in-Some.entry.now in
    let at = subst (λ (o : Option (Bor Entry)). IsRevisionAt known path (option_map manifest_entry (option_copied o)) r) c.in-Some.is is in
    let blob = subst (λ (p : Bytes). IsFileBlob known p e.node c.in-Some-file_blob.found) c.as_slice.ensures c.in-Some-file_blob.ensures.value in
    blob-kept known path e r c.in-Some-file_blob.found c.args.blob.now true at blob (sym c.if-eq.ensures)

pub returns-else-eq-clause-node : goal.returns-else-eq-clause-node
returns-else-eq-clause-node c = λ path r is.
    let known = c.args.store.now in
    let e = manifest_entry c.in-Some.entry.now in
    let at = subst (λ (o : Option (Bor Entry)). IsRevisionAt known path (option_map manifest_entry (option_copied o)) r) c.in-Some.is is in
    let blob = subst (λ (p : Bytes). IsFileBlob known p e.node c.in-Some-file_blob.found) c.as_slice.ensures c.in-Some-file_blob.ensures.value in
    blob-kept known path e r c.in-Some-file_blob.found c.args.blob.now false at blob (sym c.if-eq.ensures)
