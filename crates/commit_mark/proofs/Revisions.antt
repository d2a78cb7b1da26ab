-- What a file revision says, which a draft brings or else the store holds.
use Rattle.std.proofs.Common.{◌≡◌, List, ◌++◌, Option, Some, None, sym, ap, subst, ◌∙◌}
use Rattle.std.proofs.lemmas.List.Folds.{find-append}
use Rattle.std.specs.Prelude.{option_map}
use Rattle.std.specs.Option.{option_or}
use Rattle.text_model.specs.Text.{Bytes}
use Rattle.text_model.specs.Id.{Id}
use Rattle.text_model.proofs.Options.{some_is}
use Rattle.hg_model.specs.FileText.{IsFileText, file_order}
use Rattle.hg_model.specs.Revision.{Revision, FilesAt, revision_of, is_of}
use Rattle.hg_filelog.proofs.MarkLemmas.{one_pair}
use Rattle.hg_store.specs.Known.{AreFileParents, text_of}
use Rattle.view_model.specs.View.{FileRevision, Row}
use Rattle.pair_known.specs.Rows.{RowValue}
use Rattle.file_rule.proofs.RowLemmas.{found-parents}
use Rattle.commit_rule.specs.Parts.{IsRowOf}
use Rattle.commit_mark.specs.Parts.{ArePartsOf}
use Rattle.commit_mark.specs.declared.file_parts.FileParts.{FileParts}

abbrev pub meta_in : FileParts → Option Bytes
meta_in parts = option_map (λ m. m.now) parts.meta

-- parts are those of the revision that has their text and their parents
pub parts-are : (rev : FileRevision) (p q : Id) (text : Bytes) (parts : FileParts) → ◌≡◌ {A = Id × Id} (rev.p, rev.q) (file_order rev.meta p q) → IsFileText text rev.meta rev.body
    → IsFileText text (meta_in parts) (parts.body).now → ◌≡◌ {A = Id × Id} (parts.p, parts.q) (file_order (meta_in parts) p q) → ArePartsOf parts rev
parts-are rev p q text parts order spells says in_order =
    let same = one_pair (meta_in parts) rev.meta (parts.body).now rev.body says.0 spells.0 (sym says.1 ∙ spells.1) in
    let both : ◌≡◌ {A = Id × Id} (parts.p, parts.q) (rev.p, rev.q) = in_order ∙ (λ i. file_order (same.0 i) p q) ∙ sym order in
    record { p = ap (λ (x : Id × Id). x.0) both; q = ap (λ (x : Id × Id). x.1) both; meta = same.0; body = same.1 }

module _ (fresh known : List Revision) (value : RowValue) (w : Row) (is : IsRowOf (fresh ++ known) value w) where
  place : revision_of (fresh ++ known) (FilesAt value.path) value.node ≡ Some (is.1).revision
  place = (λ i. revision_of (fresh ++ known) (FilesAt ((sym is.0) i).path) ((sym is.0) i).node) ∙ (is.1).is_held

  split-at : revision_of (fresh ++ known) (FilesAt value.path) value.node ≡ option_or (revision_of fresh (FilesAt value.path) value.node) (revision_of known (FilesAt value.path) value.node)
  split-at = find-append (is_of (FilesAt value.path) value.node) fresh known

  -- the revision that is brought is the row's
  pub brought-revision : (f : Revision) → Some f ≡ revision_of fresh (FilesAt value.path) value.node → f ≡ (is.1).revision
  brought-revision f at = some_is (ap (λ (o : Option Revision). option_or o (revision_of known (FilesAt value.path) value.node)) at ∙ sym split-at ∙ place)

  pub brought-parts : (f : Revision) → Some f ≡ revision_of fresh (FilesAt value.path) value.node → (parts : FileParts) → IsFileText f.text (meta_in parts) (parts.body).now
      → ◌≡◌ {A = Id × Id} (parts.p, parts.q) (file_order (meta_in parts) f.p f.q) → ArePartsOf parts w.revision
  brought-parts f at parts says in_order =
      let same = brought-revision f at in
      parts-are w.revision f.p f.q f.text parts ((is.1).parents ∙ (λ i. file_order (w.revision).meta (sym same i).p (sym same i).q))
      (subst (λ (x : Revision). IsFileText x.text (w.revision).meta (w.revision).body) (sym same) (is.1).text) says in_order

  -- a row whose revision isn't brought is held
  pub stored-row : None ≡ revision_of fresh (FilesAt value.path) value.node → IsRowOf known value w
  stored-row none =
      let held : revision_of known (FilesAt value.path) value.node ≡ Some (is.1).revision = ap (λ (o : Option Revision). option_or o (revision_of known (FilesAt value.path) value.node)) none ∙ sym split-at ∙ place in (
        is.0,
        record {
          revision = (is.1).revision;
          is_held = (λ i. revision_of known (FilesAt (is.0 i).path) (is.0 i).node) ∙ held;
          parents = (is.1).parents;
          text = (is.1).text;
        },
      )

module _ (known : List Revision) (value : RowValue) (w : Row) (is : IsRowOf known value w) where
  pub held-at : revision_of known (FilesAt value.path) value.node ≡ Some (is.1).revision
  held-at = (λ i. revision_of known (FilesAt ((sym is.0) i).path) ((sym is.0) i).node) ∙ (is.1).is_held

  pub held-text : text_of known (FilesAt value.path) value.node ≡ Some (is.1).revision.text
  held-text = ap (option_map (λ (x : Revision). x.text)) held-at

  pub text-spells : (text : Bytes) → Some text ≡ text_of known (FilesAt value.path) value.node → IsFileText text (w.revision).meta (w.revision).body
  text-spells text at = subst (λ (x : Bytes). IsFileText x (w.revision).meta (w.revision).body) (sym (some_is (at ∙ held-text))) (is.1).text

  pub stored-parts : (text : Bytes) (parts : FileParts) → AreFileParents known value.path value.node (parts.p, parts.q) → Some text ≡ text_of known (FilesAt value.path) value.node
      → IsFileText text (meta_in parts) (parts.body).now → ArePartsOf parts w.revision
  stored-parts text parts found at says =
      let rev = w.revision in
      let spells = text-spells text at in
      let same = one_pair (meta_in parts) rev.meta (parts.body).now rev.body says.0 spells.0 (sym says.1 ∙ spells.1) in
      let both : ◌≡◌ {A = Id × Id} (parts.p, parts.q) (rev.p, rev.q) =
      found-parents known value.path value.node (parts.p, parts.q) rev.meta rev.body (is.1).revision found held-at (is.1).text ∙ sym (is.1).parents in
      record { p = ap (λ (x : Id × Id). x.0) both; q = ap (λ (x : Id × Id). x.1) both; meta = same.0; body = same.1 }
