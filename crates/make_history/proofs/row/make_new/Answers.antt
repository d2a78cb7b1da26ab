use Rattle.std.proofs.Common.{◌∙◌, ◌++◌, ap, arith}
use Rattle.text_model.specs.Text.{Bytes}
use Rattle.text_model.proofs.ByteLemmas.{IsBytes-by_index}
use Rattle.hg_model.specs.FileText.{file_text, plain_meta}
use Rattle.pair_model.specs.Rule.{revision_at}
use Rattle.file_rule.proofs.NewRow.{ordered}
use Rattle.make_history.proofs.RowLemmas.{node-at, new-over}
use Rattle.make_history.proofs.row.make_new.Goals as goal

pub returns : goal.returns
returns c = λ known ps a b.
    new-over (revision_at (ps.first).rows c.args.path.now) (revision_at (ps.second).rows c.args.path.now) c.args.body.now c.parents_over-p.result _ (IsBytes-by_index c.args.body.now (λ i. omega (arith, c.type_inv.body i)))
    (c.parents_over-p.ensures ∙ (λ i. ordered
    (node-at known c.args.first.now ps.first c.args.path.now c.get.result c.node_or_null-p.result a c.get.ensures c.node_or_null-p.ensures i)
    (node-at known c.args.second.now ps.second c.args.path.now c.get-2.result c.node_or_null-q.result b c.get-2.ensures c.node_or_null-q.ensures i)))
    (c.in_ok-keep.ensures ∙ c.in_ok-plain_into.ensures.ok ∙ ap (λ (l : Bytes). l ++ file_text (plain_meta c.args.body.now) c.args.body.now) c.new-text.ensures.items)
