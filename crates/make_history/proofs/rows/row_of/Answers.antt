use Rattle.std.proofs.Common.{◌∙◌}
use Rattle.hg_manifest.specs.Values.{manifest_entry}
use Rattle.pair_known.proofs.HeldViews.{row-made}
use Rattle.make_history.proofs.rows.row_of.Goals as goal

pub returns : goal.returns
returns c = λ row same held.
    let e = manifest_entry c.args.entry.now in
    let path = c.in_ok-again-in-Some.ensures in
    (λ i. record { path = path i; flag = e.flag; node = e.node; blob = c.in-Some.blob })
    ∙ row-made c.args.store.now row e c.as_slice-path.result.now c.in-Some.blob same held c.as_slice-path.ensures c.in-Some.ensures.value
