-- A commit's residue is marked where it isn't what the first parent hands on to the files of its changeset.
use Rattle.std.proofs.Common.{◌≡◌, Bool, true, false, true≢false, List, [], ◌∷◌, map, Some, None, refl, sym, ap, ◌∙◌}
use Rattle.std.specs.Prelude.{◌↔◌, IsTrue, if◌then◌else◌}
use Rattle.std.proofs.lemmas.Slice.Eq.{bytes_eq-Decides}
use Rattle.text_model.specs.Lists.{Each}
use Rattle.git_model.specs.Unfold.{FileRow}
use Rattle.git_model.specs.Residue.{ResidueKind, Group, Link, Empty, ResidueItem, residue_of, carried, plain_files}
use Rattle.view_model.specs.View.{CommitView}
use Rattle.view_model.specs.Held.{file_row_of}
use Rattle.pair_model.specs.Block.{Block}
use Rattle.pair_model.specs.Octopus.{parents_of_commit}
use Rattle.pair_model.specs.Rule.{rule_changeset}
use Rattle.pair_model.proofs.RuledFiles.{IsRow, files-again}
use Rattle.partner_model.specs.Mark.{same_item_kind, same_items, residue_unless, residue_in, first_residue}
use Rattle.unmark_law.proofs.ChangesetOne.{same_items_is}
use Rattle.changeset_mark.specs.Marks.{handed_to}

-- ---- the test of two residues

same-kind : (kind : ResidueKind) → same_item_kind kind kind ≡ true
same-kind Group = refl
same-kind (Link id) = (bytes_eq-Decides id id).1 refl
same-kind Empty = refl

same-own : (items : List ResidueItem) → same_items items items ≡ true
same-own [] = refl
same-own (x ∷ items) = rw ((bytes_eq-Decides x.path x.path).1 refl, same-kind x.kind, same-own items) refl

unless-test : (items given : List ResidueItem) (t : Bool) → IsTrue t ↔ (items ≡ given) → residue_unless items given ≡ (if t then None else Some items)
unless-test items given true h =
    let same : same_items items given ≡ true = ap (same_items items) (sym (h.0 refl)) ∙ same-own items in
    rw same refl
unless-test items given false h = by (same_items items given) refl
  where
    by : (s : Bool) → same_items items given ≡ s → residue_unless items given ≡ Some items
    by true e = absurd (true≢false (sym (h.1 (same_items_is items given e))))
    by false e = rw e refl

-- ---- what is handed on to the files of the changeset

handed-is : (blocks : List Block) (v : CommitView) → Each IsRow v.rows → handed_to blocks v ≡ carried (first_residue blocks (v.value).parents) (plain_files (map file_row_of v.rows))
unfolding rule_changeset
handed-is blocks v rows = ap (carried (first_residue blocks (v.value).parents)) (files-again (parents_of_commit blocks v) v.rows rows)

-- ---- the mark

module _ (blocks : List Block) (v : CommitView) (rows : Each IsRow v.rows) (files : List FileRow) (files-are : files ≡ map file_row_of v.rows)
    (old : List ResidueItem) (old-is : old ≡ first_residue blocks (v.value).parents) (t : Bool) (test : IsTrue t ↔ (residue_of files ≡ carried old (plain_files files))) where
  mark-is : residue_unless (residue_in v.rows) (handed_to blocks v) ≡ (if t then None else Some (residue_in v.rows))
  mark-is =
      let given : carried old (plain_files files) ≡ handed_to blocks v = (λ i. carried (old-is i) (plain_files (files-are i))) ∙ sym (handed-is blocks v rows) in
      let items : residue_of files ≡ residue_in v.rows = ap residue_of files-are in
      unless-test (residue_in v.rows) (handed_to blocks v) t ((λ yes'. sym items ∙ test.0 yes' ∙ given), (λ same. test.1 (items ∙ same ∙ sym given)))

  pub mark-none : t ≡ true → None ≡ residue_unless (residue_in v.rows) (handed_to blocks v)
  mark-none is = sym (mark-is ∙ ap (λ (u : Bool). if u then None else Some (residue_in v.rows)) is)

  pub mark-some : t ≡ false → (residue : List ResidueItem) → residue ≡ residue_of files → Some residue ≡ residue_unless (residue_in v.rows) (handed_to blocks v)
  mark-some is residue e = ap (λ (x : List ResidueItem). Some x) (e ∙ ap residue_of files-are) ∙ sym (mark-is ∙ ap (λ (u : Bool). if u then None else Some (residue_in v.rows)) is)
