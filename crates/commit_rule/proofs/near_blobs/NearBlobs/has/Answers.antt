use Rattle.std.proofs.Common.{◌≡◌, List, subst}
use Rattle.text_model.specs.Lists.{SomeOf}
use Rattle.pair_known.specs.Rows.{RowValue}
use Rattle.commit_rule.proofs.BlobLemmas.{some-blob}
use Rattle.commit_rule.proofs.near_blobs.NearBlobs.has.Goals as goal

pub returns-clause-among : goal.returns-clause-among
returns-clause-among c = λ yes.
    subst (λ (rows : List RowValue). SomeOf rows (λ row. row.blob ≡ c.args.file.now.blob)) c.self.view_is
    (some-blob c.self.inside.rows.now c.place_from-self-inside.result c.in-Some.row.now c.args.file.now.blob c.in-Some.ensures.lookup.3.0 c.in-Some.ensures.lookup.1 (c.is_same_blob.ensures c.if-not-is_same_blob.false))
