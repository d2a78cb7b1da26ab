use Rattle.std.proofs.Common.{◌∷◌, ◌++◌, [], Some, sym, ap, ◌∙◌}
use Rattle.std.proofs.lemmas.Option.{slice_get-get_or}
use Rattle.hg_manifest.specs.Values.{manifest_entry}
use Rattle.hg_manifest.proofs.ReadLemmas.{next-at, next-pushed}
use Rattle.hg_manifest.proofs.list.Manifest.push_all.Goals as goal

pub push_shared-requires-clause-fit : goal.push_shared-requires-clause-fit
push_shared-requires-clause-fit c =
    let at = slice_get-get_or c.args.entries.now c.loop-entry.entry-index c.entry-item.result c.loop-entry-test.true ∙ ap Some (sym c.entry-item.is) in
    let n = next-at c.args.self.now c.args.entries.now c.loop-entry.entry-index c.entry-item.result at c.requires in
    rw c.in_ok-again.ensures n.fit

pub push_shared-requires-clause-rises : goal.push_shared-requires-clause-rises
push_shared-requires-clause-rises c =
    let at = slice_get-get_or c.args.entries.now c.loop-entry.entry-index c.entry-item.result c.loop-entry-test.true ∙ ap Some (sym c.entry-item.is) in
    let n = next-at c.args.self.now c.args.entries.now c.loop-entry.entry-index c.entry-item.result at c.requires in
    rw (c.in_ok-again.ensures, c.loop-entry.invariant) n.rises

pub loop-entry-preserved : goal.loop-entry-preserved
loop-entry-preserved c =
    let at = slice_get-get_or c.args.entries.now c.loop-entry.entry-index c.entry-item.result c.loop-entry-test.true ∙ ap Some (sym c.entry-item.is) in
    c.in_ok-push_shared.ensures.ok ∙ (λ i. c.loop-entry.invariant i ++ manifest_entry (c.in_ok-again.ensures i) ∷ []) ∙ next-pushed c.args.self.now c.args.entries.now c.loop-entry.entry-index c.entry-item.result at
