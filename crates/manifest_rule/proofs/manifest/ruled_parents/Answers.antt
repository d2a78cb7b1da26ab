use Rattle.std.proofs.Common.{sym, ◌∙◌}
use Rattle.manifest_rule.proofs.ManifestLemmas.{ruled-first, ruled-new, held-there, same-lines, other-lines}
use Rattle.manifest_rule.proofs.manifest.ruled_parents.Goals as goal

pub returns-then-have_same_lines : goal.returns-then-have_same_lines
returns-then-have_same_lines c = λ ps hs over is.
    let same = same-lines c.args.rows.now hs (ps.first).rows (c.args.first.now.manifest).now over.of_rows (over.in_first).entries (c.have_same_lines.ensures.same.0 c.if-have_same_lines.true) in
    sym (c.manifest_of_node.ensures (ps.first).manifest (ps.first).rows (held-there c.args.store.now c.args.first.now ps.first over.in_first)) ∙ sym (ruled-first ps hs same)

pub returns : goal.returns
returns c = λ ps hs over is.
    let other = other-lines c.args.rows.now hs (ps.first).rows (c.args.first.now.manifest).now over.of_rows (over.in_first).entries is c.have_same_lines.ensures.manifest c.have_same_lines.result c.have_same_lines.ensures.same.1 c.if-have_same_lines.false in
    ruled-new c.args.store.now c.args.first.now c.args.second.now ps hs over.in_first over.in_second other c.parents_over-p.result c.parents_over-p.ensures
