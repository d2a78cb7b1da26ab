use Rattle.std.proofs.Common.{◌≡◌, ◌∙◌, ap, refl, Option, Some, bytes_eq}
use Rattle.std.specs.Prelude.{option_map}
use Rattle.std.specs.Option.{option_or}
use Rattle.view_model.specs.View.{FileRevision, file_node}
use Rattle.pair_model.specs.Rule.{with_body}
use Rattle.pair_known.specs.Rows.{RowValue}
use Rattle.file_rule.proofs.BackLemmas.{back-kept, back-new, back-first}
use Rattle.file_rule.proofs.back.is_ruled.Goals as goal

blobs : (r s : Option FileRevision) {x y : RowValue} → x ≡ y → option_map file_node (option_or (with_body x.blob r) (with_body x.blob s)) ≡ option_map file_node (option_or (with_body y.blob r) (with_body y.blob s))
blobs r s e = ap (λ (z : RowValue). option_map file_node (option_or (with_body z.blob r) (with_body z.blob s))) e

pub returns-then-has_node : goal.returns-then-has_node
returns-then-has_node c = λ r s w is.
    let same = back-first c.args.store.now c.args.row.now _ _ r s w is (c.has_node.ensures.0 c.if-has_node.true ∙ ap (λ (x : RowValue). Some x.node) c.row.view_is) in
    ((λ _. same), (λ _. refl))

pub returns-in-Some : goal.returns-in-Some
returns-in-Some c = λ r s w is.
    back-kept c.args.store.now c.args.row.now _ _ r s w is c.in-Some.node (c.in-Some.ensures.node w.path r s is.in_first is.in_second ∙ blobs r s c.row.view_is) c.eq.result (c.eq.ensures ∙ ap (λ (x : RowValue). bytes_eq c.in-Some.node x.node) c.row.view_is)

pub returns-in-None : goal.returns-in-None
returns-in-None c = λ r s w is.
    back-new c.args.store.now c.args.row.now _ _ r s w is c.is_new.result (c.in-None.ensures.node w.path r s is.in_first is.in_second ∙ blobs r s c.row.view_is) (c.is_new.ensures r s w is)
