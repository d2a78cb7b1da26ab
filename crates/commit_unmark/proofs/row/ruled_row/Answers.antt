use Rattle.std.proofs.Common.{refl, ◌∙◌}
use Rattle.file_rule.proofs.RowsLoop.{seen}
use Rattle.file_rule.proofs.RowsStep.{copied}
use Rattle.commit_unmark.proofs.RowLemmas.{row-of, ruled-named}
use Rattle.commit_unmark.proofs.row.ruled_row.Goals as goal

pub returns-clause-found : goal.returns-clause-found
returns-clause-found c = λ ps t over.
    let first = c.args.first.now in
    let second = c.args.second.now in
    let e = copied c.get-in_first.result ∙ seen first first _ c.args.file.now.path _ refl c.path.ensures c.get-in_first.ensures.entry in
    let f = copied c.get-in_second.result ∙ seen second second _ c.args.file.now.path _ refl c.path-2.ensures c.get-in_second.ensures.entry in
    ruled-named c.args.known.now.hg _ first second c.args.file.now ps t over c.in_ok-made.made (c.in_ok-made.ensures.ok _ _ t (row-of c.args.known.now.hg _ first second c.args.file.now ps t over _ _ e f))
