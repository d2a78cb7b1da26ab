-- Whether one file more comes back.
use Rattle.std.proofs.Common.{◌≡◌, ◌++◌, ◌<◌, ℕ, Bool, List, Option, None, Some, Bor, length, get_or, refl, sym, ap, ◌∙◌, IsTrue}
use Rattle.std.specs.Prelude.{option_map, slice_get, ◌↔◌}
use Rattle.std.specs.Option.{option_copied}
use Rattle.std.proofs.lemmas.Option.{slice_get-get_or}
use Rattle.text_model.specs.Text.{Bytes}
use Rattle.text_model.proofs.Elements.{each_at, get_unmap}
use Rattle.hg_manifest.specs.Values.{manifest_entry}
use Rattle.hg_manifest.specs.declared.entry.Entry.{Entry}
use Rattle.hg_model.specs.Revision.{Revision}
use Rattle.view_model.specs.View.{FileRevision, Row, SameRow, ChangesetView}
use Rattle.view_model.specs.Held.{IsFileHeld}
use Rattle.pair_model.specs.Block.{Parents}
use Rattle.pair_model.specs.Rule.{revision_at}
use Rattle.pair_known.specs.Rows.{RowValue, row_value}
use Rattle.pair_known.specs.declared.hg_draft.HgDraft.{HgDraft}
use Rattle.file_rule.specs.Back.{row_again}
use Rattle.file_rule.specs.declared.parents.Parent.{Parent}
use Rattle.file_rule.proofs.BackLemmas.{Here}
use Rattle.file_rule.proofs.BackStep.{found}
use Rattle.file_rule.proofs.RowsLoop.{entry-in}
use Rattle.changeset_unmark.specs.Over.{IsDraftOver}
use Rattle.changeset_unmark.specs.Rows.{IsDraftRow}

pub item-at : (rows list : List RowValue) (i : ℕ) (item : RowValue) → list ≡ rows → i < length list → item ≡ get_or list i item → slice_get rows i ≡ Some item
item-at rows list i item same below is = ap (λ (l : List RowValue). slice_get l i) (sym same) ∙ slice_get-get_or list i item below ∙ ap Some (sym is)

-- the entry that a walk lends, as it is said in two ways
copied : (o : Option (Bor Entry)) → option_map manifest_entry (option_copied o) ≡ option_map (λ e. manifest_entry e.now) o
copied o = elim o as (λ x. option_map manifest_entry (option_copied x) ≡ option_map (λ e. manifest_entry e.now) x) [ None ↦ refl | Some e ↦ refl ]

-- the row at a place, and what the test of it says
pub here : (known : List Revision) (d : HgDraft) (first second : Parent) (ps : Parents) (v : ChangesetView) → IsDraftOver known d first second ps v
    → (i : ℕ) (item : RowValue) → slice_get d.rows i ≡ Some item → (p q : Bytes) → p ≡ item.path → q ≡ item.path → (e f : Option (Bor Entry))
    → option_map (λ x. manifest_entry x.now) e ≡ found first p → option_map (λ x. manifest_entry x.now) f ≡ found second q → (t : Bool)
    → ((r s : Option FileRevision) (w : Row) → IsDraftRow d.fresh known item (option_map manifest_entry (option_copied e)) (option_map manifest_entry (option_copied f)) r s w → (IsTrue t ↔ SameRow (row_again r s w) w))
    → Here ps v.rows i t
here known d first second ps v over i item at p q p_is q_is e f e_is f_is t test =
    let w = get_unmap row_value v.rows i item (ap (λ (l : List RowValue). slice_get l i) (sym (over.draft).rows) ∙ at) in
    let path : item.path ≡ (w.0).path = ap (λ (x : RowValue). x.path) (sym w.2) in
    let is : IsDraftRow d.fresh known item (option_map manifest_entry (option_copied e)) (option_map manifest_entry (option_copied f)) (revision_at (ps.first).rows (w.0).path) (revision_at (ps.second).rows (w.0).path) w.0 =
    record {
      of_row = sym w.2;
      held = each_at (IsFileHeld (d.fresh ++ known)) v.rows i w.0 w.1 (over.draft).files;
      in_first = entry-in known (first.manifest).now (ps.first).rows (w.0).path (option_map manifest_entry (option_copied e)) (over.in_first).entries (over.in_first).files (copied e ∙ e_is ∙ ap (found first) (p_is ∙ path));
      in_second = entry-in known (second.manifest).now (ps.second).rows (w.0).path (option_map manifest_entry (option_copied f)) (over.in_second).entries (over.in_second).files (copied f ∙ f_is ∙ ap (found second) (q_is ∙ path));
    } in
    record { row = w.0; at = w.1; same = test _ _ w.0 is }
