use Rattle.std.proofs.Common.{sym, ap, ◌∙◌}
use Rattle.text_model.specs.Text.{Bytes}
use Rattle.hg_model.specs.Revision.{FilesAt, revision_of}
use Rattle.pair_model.specs.Rule.{revision_at}
use Rattle.pair_known.specs.Rows.{RowValue}
use Rattle.commit_mark.proofs.Revisions.{stored-row}
use Rattle.commit_mark.proofs.Brought.{by-same}
use Rattle.commit_mark.proofs.entry.is_given.Goals as goal

pub returns-in-None : goal.returns-in-None
returns-in-None c = λ ps w at.
    let is = at.of_row in
    let entries = at.entries in
    let fresh = (c.args.over.now.fresh).now in
    let known = (c.args.over.now.store).now in
    let row = c.args.row.now in
    let none = c.in-None.ensures ∙ ap (λ (p : Bytes). revision_of fresh (FilesAt p) c.row.inside.node) c.as_slice.ensures ∙ ap (λ (v : RowValue). revision_of fresh (FilesAt v.path) v.node) c.row.view_is in
    let held = stored-row fresh known row w is none in
    by-same ps w c.is_ruled.result (c.is_ruled.ensures (revision_at (ps.first).rows w.path) (revision_at (ps.second).rows w.path) w
    (record { of_row = sym is.0; held = held.1; in_first = entries.in_first; in_second = entries.in_second }))
