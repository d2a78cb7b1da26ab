use Rattle.std.proofs.Common.{sym, ap}
use Rattle.pair_known.specs.Rows.{RowValue}
use Rattle.pair_known.proofs.NearLemmas.{near-blob}
use Rattle.pair_known.proofs.hg_draft.blob_near.Goals as goal

pub returns-in-Some-clause-blob : goal.returns-in-Some-clause-blob
returns-in-Some-clause-blob c = near-blob c.args.store.now c.args.near.now c.in-Some.row.now c.args.entry.now.path c.args.entry.now.node _ c.requires.near c.in-Some.ensures.among c.in-Some.ensures.same_file (sym (ap (λ (r : RowValue). r.blob) c.row.view_is))
