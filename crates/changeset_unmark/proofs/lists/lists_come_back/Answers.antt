use Rattle.std.proofs.Common.{true≢false, sym, ◌∙◌}
use Rattle.plain_rule.proofs.OverLemmas.{if_weaker}
use Rattle.changeset_unmark.proofs.ListLemmas.{rows-over, is-manifest}
use Rattle.changeset_unmark.proofs.lists.lists_come_back.Goals as goal

pub returns-then-not-is_ruled_manifest : goal.returns-then-not-is_ruled_manifest
returns-then-not-is_ruled_manifest c = λ ps v over.
    let test = c.is_ruled_manifest.ensures ps v.rows (rows-over c.args.store.now c.args.h.now c.args.first.now c.args.second.now ps v over) (is-manifest v over.view) in (
      (λ e. absurd (true≢false (sym e))),
      (λ back. absurd (true≢false (sym (test.1 (sym (over.draft).manifest ∙ back.manifest)) ∙ c.if-not-is_ruled_manifest.true))),
    )

pub returns : goal.returns
returns c =
    if_weaker c.has_ruled_files.result _ _ (λ t same ps v over.
    let test = c.is_ruled_manifest.ensures ps v.rows (rows-over c.args.store.now c.args.h.now c.args.first.now c.args.second.now ps v over) (is-manifest v over.view) in
    let rows = c.are_rows_ruled.ensures ps v over in
    let listed = same c.args.store.now ps v over in (
      (λ is. record { rows = rows.0 c.if-not-are_rows_ruled.false; manifest = (over.draft).manifest ∙ test.0 c.if-not-is_ruled_manifest.false; files = listed.0 is }),
      (λ back. listed.1 back.files),
    )) c.has_ruled_files.ensures
