use Rattle.std.proofs.Common.{◌≡◌, ◌∙◌, ◌++◌, [], ◌∷◌, length, take, sym, ap, Some, None}
use Rattle.std.proofs.lemmas.List.{append-nil}
use Rattle.text_model.specs.Text.{Bytes}
use Rattle.git_model.specs.Unfold.{joined_path}
use Rattle.tree_shape.specs.Walks.{row_at}
use Rattle.tree_shape.proofs.FitLemmas.{cut-back}
use Rattle.tree_residue.specs.Items.{item_rows}
use Rattle.tree_residue.proofs.Visits.{turn-skip, turn-walk}
use Rattle.tree_residue.proofs.walk.+visit_tree.Goals as goal
use Rattle.tree_residue.proofs.walk.+visit_tree.Goals.{then-has_item+in_ok-push_name+in_ok-put_entry, in-Some+in_ok-visit_tree, in_default, else-has_item}

pub entries-preserved : goal.entries-preserved
entries-preserved g t c =
    let known = g.G.Objects.objects c.args.store.now in
    let path = c.args.path.now.items in
    let e = c.entry-item.result in
    let len : c.len-front.result ≡ length path = c.len-front.ensures ∙ c.args.path.now.ok.0 in
    elim c.if-has_item.branch [
      | then-has_item+in_ok-push_name+in_ok-put_entry w ↦
          let whole = w.push_name.new.path.items in
          let joins : whole ≡ joined_path path e.name = w.in_ok-push_name.ensures ∙ (λ k. joined_path (c.entries.invariant.path k) (w.name.ensures k)) in
          let front : take c.len-front.result whole ≡ path = (λ k. take (len k) (joins k)) ∙ cut-back path e.name in
          let mid : w.put_entry.new.rows.items ≡ c.entries.rows.items ++ item_rows known (row_at whole e ∷ []) = w.in_ok-put_entry.ensures ∙ ap (λ (p : Bytes). c.entries.rows.items ++ item_rows known (row_at p e ∷ [])) w.deref.ensures.value in
          elim w.match-subtree_of.branch [
            | in-Some+in_ok-visit_tree w' ↦ record {
              path = rw w.path-is (w.truncate.ensures.items ∙ ap (take c.len-front.result) (ap (λ p. p.items) w'.path-is ∙ w'.in_ok-visit_tree.ensures.path) ∙ front);
              rows = rw (w.rows-is, w'.rows-is) (turn-walk known c.args.levels path c.entries-entries.result.now c.entries.entry-index e whole (Some w'.in-Some.subtree.now) c.args.rows.now.items c.entries.rows.items w.put_entry.new.rows.items w'.visit_tree.new.rows.items
                  c.entries-test.true c.entry-item.is joins w'.in-Some.ensures c.entries.invariant.rows mid w'.in_ok-visit_tree.ensures.rows);
            }
            | in_default w' ↦ record {
              path = rw w.path-is (w.truncate.ensures.items ∙ ap (take c.len-front.result) (ap (λ p. p.items) w'.path-is) ∙ front);
              rows = rw (w.rows-is, w'.rows-is) (turn-walk known c.args.levels path c.entries-entries.result.now c.entries.entry-index e whole None c.args.rows.now.items c.entries.rows.items w.put_entry.new.rows.items w.put_entry.new.rows.items
                  c.entries-test.true c.entry-item.is joins w'.in_default.ensures c.entries.invariant.rows mid (sym (append-nil w.put_entry.new.rows.items)));
            }
          ]
      | else-has_item w ↦ record {
        path = rw w.path-is c.entries.invariant.path;
        rows = rw w.rows-is (turn-skip known c.args.levels path c.entries-entries.result.now c.entries.entry-index e c.args.rows.now.items c.entries.rows.items c.entries-test.true c.entry-item.is
            (cc (c.mode.ensures, c.has_item.ensures, w.if-has_item.false)) c.entries.invariant.rows);
      }
    ]
