use Rattle.std.proofs.Common.{ap, not, ◌∙◌}
use Rattle.text_model.specs.Text.{Bytes}
use Rattle.hg_model.specs.Revision.{FilesAt, revision_of}
use Rattle.pair_known.specs.Rows.{RowValue}
use Rattle.commit_rule.proofs.BlobLemmas.{one-none, stored-short}
use Rattle.commit_rule.proofs.fresh.is_stored.Goals as goal

pub returns : goal.returns
returns c = λ stored known r added is.
    let fresh = c.args.h.now.fresh in
    let none = one-none _ c.get.result (revision_of fresh (FilesAt c.as_slice.result.now) c.row.inside.node) c.get.ensures (c.is_none.ensures ∙ ap not stored) in
    let at = none ∙ ap (λ (p : Bytes). revision_of fresh (FilesAt p) c.row.inside.node) c.as_slice.ensures ∙ ap (λ (v : RowValue). revision_of fresh (FilesAt v.path) v.node) c.row.view_is in
    stored-short fresh known c.args.row.now r is added at
