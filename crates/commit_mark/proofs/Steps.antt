-- One file more of a changeset that is marked.
use Rattle.std.proofs.Common.{◌≡◌, ◌+◌, ℕ, List, ◌++◌, take, drop, Option, Some, None, Bor, refl, sym, ap, subst, ◌∙◌, bytes_eq, append_assoc, take-append-drop}
use Rattle.std.specs.Prelude.{option_map, slice_get}
use Rattle.std.specs.List.{find, flat_map}
use Rattle.std.specs.Option.{option_copied}
use Rattle.text_model.specs.Text.{Bytes}
use Rattle.text_model.proofs.Elements.{flat_map_append}
use Rattle.hg_manifest.specs.Values.{manifest_entry}
use Rattle.hg_manifest.specs.declared.entry.Entry.{Entry}
use Rattle.hg_model.specs.Manifest.{ManifestEntry}
use Rattle.hg_model.specs.Revision.{Revision}
use Rattle.view_model.specs.View.{ChangesetView, Row}
use Rattle.pair_model.specs.Block.{Parents}
use Rattle.pair_model.specs.MarkList as model
use Rattle.pair_known.specs.Rows.{RowValue}
use Rattle.pair_known.specs.declared.hg_draft.HgDraft.{HgDraft}
use Rattle.file_rule.proofs.RowsLoop.{entry-in}
use Rattle.commit_rule.specs.Parts.{IsRowOf}
use Rattle.commit_rule.proofs.BlobLemmas.{row-there}
use Rattle.mark_code.specs.declared.mark.Mark.{Mark}
use Rattle.partner_model.specs.Mark.{entry_marks}
use Rattle.mark_law.proofs.Entries.{entries-more}
use Rattle.commit_mark.specs.Over.{IsOver, IsRowOver}
use Rattle.commit_mark.specs.Parts.{marks_in, BeginList}
use Rattle.commit_mark.specs.declared.over.Over.{Over}
use Rattle.commit_mark.proofs.Begun.{begin-front, begin-same}

copied : (o : Option (Bor Entry)) → option_map manifest_entry (option_copied o) ≡ option_map (λ e. manifest_entry e.now) o
copied None = refl
copied (Some e) = refl

module _ (over : Over) (d : HgDraft) (ps : Parents) (v : ChangesetView) (is : IsOver over d ps v) (i : ℕ) (item : RowValue) (at : slice_get d.rows i ≡ Some item) where
  pub row-here : (w : Row) × (slice_get v.rows i ≡ Some w) × IsRowOf ((over.fresh).now ++ (over.store).now) item w
  row-here =
      let r = row-there (d.fresh ++ (over.store).now) d.rows v.rows i item ((is.draft).rows, (is.draft).files) at in
      (r.0, r.1, subst (λ (fs : List Revision). IsRowOf (fs ++ (over.store).now) item r.0) is.fresh r.2)

  path-here : item.path ≡ (row-here.0).path
  path-here = ap (λ (x : RowValue). x.path) (sym (row-here.2).0)

  pub over-here : (p q : Bytes) → p ≡ item.path → q ≡ item.path → (e f : Option (Bor Entry)) → option_map (λ x. manifest_entry x.now) e ≡ find (λ x. bytes_eq x.path p) ((over.first).manifest).now
      → option_map (λ x. manifest_entry x.now) f ≡ find (λ x. bytes_eq x.path q) ((over.second).manifest).now
      → IsRowOver over item e f ps row-here.0
  over-here p q p_is q_is e f e_is f_is =
      let first = (over.first).manifest in
      let second = (over.second).manifest in
      record {
        of_row = row-here.2;
        entries = record {
          in_first = entry-in (over.store).now first.now (ps.first).rows (row-here.0).path (option_map manifest_entry (option_copied e)) ((is.parents).first).entries ((is.parents).first).files
              (copied e ∙ e_is ∙ ap (λ (x : Bytes). find (λ (y : ManifestEntry). bytes_eq y.path x) first.now) (p_is ∙ path-here));
          in_second = entry-in (over.store).now second.now (ps.second).rows (row-here.0).path (option_map manifest_entry (option_copied f)) ((is.parents).second).entries ((is.parents).second).files
              (copied f ∙ f_is ∙ ap (λ (x : Bytes). find (λ (y : ManifestEntry). bytes_eq y.path x) second.now) (q_is ∙ path-here));
        };
      }

  module _ (old marks : List model.Mark) (so_far : marks ≡ old ++ flat_map (entry_marks ps) (take i v.rows)) (mark : Option Mark) (mark-is : marks_in mark ≡ entry_marks ps row-here.0) where
    pub marks-more : marks ++ marks_in mark ≡ old ++ flat_map (entry_marks ps) (take (i + 1) v.rows)
    marks-more =
        (λ j. so_far j ++ mark-is j) ∙ append_assoc old (flat_map (entry_marks ps) (take i v.rows)) (entry_marks ps row-here.0)
        ∙ ap (λ (ms : List model.Mark). old ++ ms) (sym (entries-more ps v.rows i row-here.0 row-here.1))

    pub marks-begin : BeginList (old ++ flat_map (entry_marks ps) v.rows) → BeginList (marks ++ marks_in mark)
    marks-begin begins =
        let rest = flat_map (entry_marks ps) (drop (i + 1) v.rows) in
        let front = flat_map (entry_marks ps) (take (i + 1) v.rows) in
        let whole : flat_map (entry_marks ps) v.rows ≡ front ++ rest = ap (flat_map (entry_marks ps)) (sym (take-append-drop (i + 1) v.rows)) ∙ flat_map_append (entry_marks ps) (take (i + 1) v.rows) (drop (i + 1) v.rows) in
        begin-same (old ++ front) _ (sym marks-more) (begin-front (old ++ front) rest (begin-same _ _ (ap (λ (ms : List model.Mark). old ++ ms) whole ∙ sym (append_assoc old front rest)) begins))
