use Rattle.std.proofs.Common.{Some, sym, ap, ◌∙◌, subst}
use Rattle.std.specs.Prelude.{MatchOption}
use Rattle.std.proofs.lemmas.Result.{IfOk-weaker}
use Rattle.text_model.specs.Text.{Bytes}
use Rattle.pair_model.specs.MarkList.{Mark}
use Rattle.mark_code.specs.Values.{mark_value}
use Rattle.commit_unmark.specs.Named.{NamesNone, NamesRow, NamesNoCopy, NamesCopy, node_at}
use Rattle.commit_unmark.proofs.RowLemmas.{copy-named}
use Rattle.commit_unmark.proofs.row.marked_row.Goals as goal

pub returns-in-Rename-clause-found : goal.returns-in-Rename-clause-found
returns-in-Rename-clause-found c =
    let known = c.args.known.now.hg in
    let first = c.args.first.now in
    let second = c.args.second.now in
    let node = c.node_in_parents-node.result in
    let is = c.node_in_parents-node.ensures.node ∙ ap (λ (p : Bytes). node_at p first second) c.as_slice.ensures in
    IfOk-weaker c.copied_row.result _ _
    (λ found h ps t over. subst (λ (m : Mark). MatchOption found (NamesNone ps (Some m) t) (NamesRow known ps (Some m) t)) (sym (ap mark_value c.in-Rename.is))
    (copy-named known _ first second c.args.file.now ps t over c.in-Rename.path c.in-Rename.from node is found
    (subst (λ (p : Bytes). MatchOption found (NamesNoCopy node p t) (NamesCopy known c.args.file.now node p t)) c.as_slice-in-Rename.ensures (h t over.blob))))
    c.copied_row.ensures.found
