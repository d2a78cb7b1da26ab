use Rattle.std.proofs.Common.{◌≡◌, Bool, true, false, true≢false, refl, sym, ap, subst, ◌∙◌, bytes_eq}
use Rattle.std.specs.Prelude.{◌↔◌, IsTrue, option_map}
use Rattle.std.specs.Option.{option_or}
use Rattle.text_model.specs.Text.{Bytes}
use Rattle.hg_model.specs.FileText.{IsFileText, file_order}
use Rattle.view_model.specs.View.{file_node, SameRow}
use Rattle.pair_model.specs.Rule.{with_body}
use Rattle.pair_known.specs.Rows.{RowValue}
use Rattle.pair_known.specs.Fresh.{fresh_revision}
use Rattle.file_rule.specs.Back.{row_again}
use Rattle.file_rule.proofs.BackLemmas.{plain-at}
use Rattle.file_rule.proofs.NewRow.{ordered}
use Rattle.changeset_unmark.proofs.FreshRows.{kept_back, new_back, not_new, lent_meta, pairs_same, same_pairs}
use Rattle.changeset_unmark.proofs.rows.is_fresh_ruled.Goals as goal

pub returns-then-eq : goal.returns-then-eq
returns-then-eq c = λ r s w is.
    let parts = c.in-Ok.ensures.only (w.revision).meta (w.revision).body (subst (λ (x : Bytes). IsFileText x (w.revision).meta (w.revision).body) (sym c.as_slice.ensures) is.text) in
    let order = c.file_order-parents.ensures ∙ ap (λ m. file_order m c.args.file.now.p c.args.file.now.q) (lent_meta c.in-Ok.meta ∙ parts.0) in
    let at = c.in-Some.ensures.node w.path r s is.in_first is.in_second ∙ ap (λ (x : RowValue). option_map file_node (option_or (with_body x.blob r) (with_body x.blob s))) c.row.view_is in
    let test = sym c.if-eq.true ∙ c.eq.ensures ∙ ap (λ (x : RowValue). bytes_eq c.in-Some.node x.node) c.row.view_is in
    kept_back c.args.store.now (fresh_revision c.args.file.now) c.args.row.now _ _ r s w is c.in-Some.node at c.file_order-parents.result order
    (option_map (λ m. m.now) c.in-Ok.meta) parts.0 true c.is_held_so.result test (λ e x path node held. c.is_held_so.ensures x path node held)

pub returns-else-eq : goal.returns-else-eq
returns-else-eq c = λ r s w is.
    let parts = c.in-Ok.ensures.only (w.revision).meta (w.revision).body (subst (λ (x : Bytes). IsFileText x (w.revision).meta (w.revision).body) (sym c.as_slice.ensures) is.text) in
    let order = c.file_order-parents.ensures ∙ ap (λ m. file_order m c.args.file.now.p c.args.file.now.q) (lent_meta c.in-Ok.meta ∙ parts.0) in
    let at = c.in-Some.ensures.node w.path r s is.in_first is.in_second ∙ ap (λ (x : RowValue). option_map file_node (option_or (with_body x.blob r) (with_body x.blob s))) c.row.view_is in
    let test = sym c.if-eq.false ∙ c.eq.ensures ∙ ap (λ (x : RowValue). bytes_eq c.in-Some.node x.node) c.row.view_is in
    let none = kept_back c.args.store.now (fresh_revision c.args.file.now) c.args.row.now _ _ r s w is c.in-Some.node at c.file_order-parents.result order
    (option_map (λ m. m.now) c.in-Ok.meta) parts.0 false false test (λ e x path node held. absurd (true≢false (sym e))) in
    subst (λ (b : Bool). IsTrue b ↔ SameRow (row_again r s w) w) (sym c.if-eq.false) none

pub returns-then-eq-2 : goal.returns-then-eq-2
returns-then-eq-2 c = λ r s w is.
    let parts = c.in-Ok.ensures.only (w.revision).meta (w.revision).body (subst (λ (x : Bytes). IsFileText x (w.revision).meta (w.revision).body) (sym c.as_slice.ensures) is.text) in
    let order = c.file_order-parents.ensures ∙ ap (λ m. file_order m c.args.file.now.p c.args.file.now.q) (lent_meta c.in-Ok.meta ∙ parts.0) in
    let at = c.in-None.ensures.node w.path r s is.in_first is.in_second ∙ ap (λ (x : RowValue). option_map file_node (option_or (with_body x.blob r) (with_body x.blob s))) c.row.view_is in
    let new = c.parents_over-new.ensures ∙ (λ i. ordered (c.node_or_null.ensures i) (c.node_or_null-in-None.ensures i)) in
    let same = pairs_same c.file_order-parents.result c.parents_over-new.result (sym c.eq-in-None.ensures ∙ c.if-eq-2.true) in
    let plain = plain-at c.is_plain.result (option_map (λ m. m.now) c.in-Ok.meta) (w.revision).meta c.in-Ok.body.now (w.revision).body parts.0 parts.1 (c.is_plain.ensures (c.in-Ok.ensures.ok).0) in
    new_back c.args.store.now (fresh_revision c.args.file.now) c.args.row.now _ _ r s w is at c.file_order-parents.result order c.parents_over-new.result new
    true c.is_plain.result ((λ _. same), (λ _. refl)) plain

pub returns-else-eq-2 : goal.returns-else-eq-2
returns-else-eq-2 c = λ r s w is.
    let parts = c.in-Ok.ensures.only (w.revision).meta (w.revision).body (subst (λ (x : Bytes). IsFileText x (w.revision).meta (w.revision).body) (sym c.as_slice.ensures) is.text) in
    let order = c.file_order-parents.ensures ∙ ap (λ m. file_order m c.args.file.now.p c.args.file.now.q) (lent_meta c.in-Ok.meta ∙ parts.0) in
    let at = c.in-None.ensures.node w.path r s is.in_first is.in_second ∙ ap (λ (x : RowValue). option_map file_node (option_or (with_body x.blob r) (with_body x.blob s))) c.row.view_is in
    let new = c.parents_over-new.ensures ∙ (λ i. ordered (c.node_or_null.ensures i) (c.node_or_null-in-None.ensures i)) in
    let differ = λ (e : c.file_order-parents.result ≡ c.parents_over-new.result). true≢false (sym (same_pairs c.file_order-parents.result c.parents_over-new.result e) ∙ sym c.eq-in-None.ensures ∙ c.if-eq-2.false) in (
      (λ t. absurd (true≢false (sym t ∙ c.if-eq-2.false))),
      (λ same. absurd (not_new c.args.store.now (fresh_revision c.args.file.now) c.args.row.now _ _ r s w is at c.file_order-parents.result order c.parents_over-new.result new differ same)),
    )
