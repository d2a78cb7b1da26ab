use Rattle.std.proofs.Common.{◌≡◌, true, false, true≢false, refl, sym, ap, ◌∙◌}
use Rattle.std.specs.Prelude.{option_map}
use Rattle.std.proofs.lemmas.Slice.Eq.{bytes_eq-Decides}
use Rattle.view_model.specs.View.{file_node}
use Rattle.pair_model.specs.Rule.{revision_at}
use Rattle.pair_known.specs.Rows.{RowValue}
use Rattle.file_rule.specs.Parents.{row_with}
use Rattle.commit_mark.proofs.Brought.{kept_of, kept, kept-row, by-kept, by-new}
use Rattle.commit_mark.proofs.entry.is_brought_as_given.Goals as goal

pub stored_parts-requires : goal.stored_parts-requires
stored_parts-requires c =
    let known = (c.args.over.now.store).now in
    let row = c.args.row.now in
    let ps = c.requires.held.0 in
    let w = c.requires.held.1 in
    let is = (c.requires.held.2).of_row in
    let entries = (c.requires.held.2).entries in
    let node = c.in-Some.node in
    let at = c.in-Some.ensures.node w.path (revision_at (ps.first).rows w.path) (revision_at (ps.second).rows w.path) entries.in_first entries.in_second ∙ ap (λ (x : RowValue). option_map file_node (kept_of ps w x.blob)) c.row.view_is in
    let same = (bytes_eq-Decides node c.row.inside.node).0 (sym c.eq.ensures ∙ c.if-eq.true) ∙ ap (λ (x : RowValue). x.node) c.row.view_is in
    record { held = (row_with w.path w.flag (kept ps w row is.0 known c.in-Some.ensures.known _ _ entries node at).rev, kept-row ps w row is.0 known c.in-Some.ensures.known _ _ entries node at same) }

pub returns-then-eq : goal.returns-then-eq
returns-then-eq c = λ ps w over.
    let is = over.of_row in
    let entries = over.entries in
    let known = (c.args.over.now.store).now in
    let row = c.args.row.now in
    let node = c.in-Some.node in
    let at = c.in-Some.ensures.node w.path (revision_at (ps.first).rows w.path) (revision_at (ps.second).rows w.path) entries.in_first entries.in_second ∙ ap (λ (x : RowValue). option_map file_node (kept_of ps w x.blob)) c.row.view_is in
    let same = (bytes_eq-Decides node c.row.inside.node).0 (sym c.eq.ensures ∙ c.if-eq.true) ∙ ap (λ (x : RowValue). x.node) c.row.view_is in
    let rev = (kept ps w row is.0 known c.in-Some.ensures.known _ _ entries node at).rev in
    let stored = c.stored_parts.ensures (row_with w.path w.flag rev) (kept-row ps w row is.0 known c.in-Some.ensures.known _ _ entries node at same) in
    by-kept ps w row is.0 known c.in-Some.ensures.known _ _ entries node at true c.says_the_same.result ((λ _. same), (λ _. refl)) (λ _. c.says_the_same.ensures rev w.revision stored (c.parts_of-parts.ensures w is))

pub returns-else-eq : goal.returns-else-eq
returns-else-eq c = λ ps w over.
    let is = over.of_row in
    let entries = over.entries in
    let known = (c.args.over.now.store).now in
    let row = c.args.row.now in
    let node = c.in-Some.node in
    let at = c.in-Some.ensures.node w.path (revision_at (ps.first).rows w.path) (revision_at (ps.second).rows w.path) entries.in_first entries.in_second ∙ ap (λ (x : RowValue). option_map file_node (kept_of ps w x.blob)) c.row.view_is in
    let differs = λ (e : node ≡ row.node). true≢false (sym ((bytes_eq-Decides node c.row.inside.node).1 (e ∙ ap (λ (x : RowValue). x.node) (sym c.row.view_is))) ∙ sym c.eq.ensures ∙ c.if-eq.false) in
    c.if-eq.false ∙ by-kept ps w row is.0 known c.in-Some.ensures.known _ _ entries node at false false ((λ e. absurd (true≢false (sym e))), (λ e. absurd (differs e))) (λ e. absurd (true≢false (sym e)))

pub returns-in-None : goal.returns-in-None
returns-in-None c = λ ps w over.
    let is = over.of_row in
    let entries = over.entries in
    let row = c.args.row.now in
    let none = c.in-None.ensures.node w.path (revision_at (ps.first).rows w.path) (revision_at (ps.second).rows w.path) entries.in_first entries.in_second ∙ ap (λ (x : RowValue). option_map file_node (kept_of ps w x.blob)) c.row.view_is in
    by-new ps w row is.0 none c.is_new.result (c.is_new.ensures ps w (c.parts_of-parts.ensures w is) (is.1).text.0 ((c.args.over.now.store).now, entries))
