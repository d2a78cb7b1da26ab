-- The marks of a changeset's manifest and of its list of files, by the tests of them.
use Rattle.std.proofs.Common.{◌≡◌, Bool, true, false, true≢false, List, [], ◌∷◌, map, Option, Some, None, refl, sym, ap, subst, ◌∙◌}
use Rattle.std.specs.Prelude.{◌↔◌, not, IsTrue, if◌then◌else◌}
use Rattle.text_model.specs.Lists.{Each, rises}
use Rattle.text_model.specs.Path.{is_fit_path}
use Rattle.text_model.specs.Text.{Bytes, IsBytes, is_below}
use Rattle.text_model.specs.Id.{Id, IsId, is_null}
use Rattle.text_model.proofs.Digests.{IsId-node_id}
use Rattle.hg_model.specs.Changeset.{Changeset}
use Rattle.hg_model.specs.FileText.{file_text}
use Rattle.hg_model.specs.Manifest.{ManifestEntry, IsManifest}
use Rattle.hg_changeset.specs.Values.{changeset_value}
use Rattle.view_model.specs.View.{ChangesetView, IsChangesetView, Row, IsRevision, ManifestParents, entry_of_row}
use Rattle.pair_model.specs.Block.{Parents}
use Rattle.pair_model.specs.Rule.{ruled_manifest, ruled_files}
use Rattle.pair_model.specs.MarkList.{Manifest, Files}
use Rattle.pair_known.specs.declared.hg_draft.HgDraft.{HgDraft}
use Rattle.hg_manifest.specs.Values.{manifest_value}
use Rattle.manifest_rule.specs.Listed.{AreListed, AreParentEntries}
use Rattle.manifest_rule.specs.Over.{AreRowsOver}
use Rattle.manifest_rule.proofs.FilesLemmas.{paths-are}
use Rattle.partner_model.specs.Mark.{manifest_marks, files_marks}
use Rattle.mark_law.proofs.Entries.{manifest-by_test, files-by_test}
use Rattle.commit_mark.specs.Over.{IsOver}
use Rattle.commit_mark.specs.declared.over.Over.{Over}

-- ---- the rows of a changeset are the lines of a manifest

lines-are : (rows : List Row) → Each (λ row. IsTrue (is_fit_path row.path) × IsBytes row.path × IsRevision row.revision) rows
    → Each (λ e. IsTrue (is_fit_path e.path) × IsBytes e.path × IsId e.node) (map entry_of_row rows)
lines-are [] h = tt
lines-are (x ∷ rows) h = ((h.0.0, h.0.1, IsId-node_id (x.revision).p (x.revision).q (file_text (x.revision).meta (x.revision).body)), lines-are rows h.1)

pub is-manifest : (v : ChangesetView) → IsChangesetView v → IsManifest (map entry_of_row v.rows)
is-manifest v view = (lines-are v.rows view.rows, ap (rises is_below) (paths-are v.rows) ∙ view.in_order)

-- ---- the entries of a parent

is_false : (b : Bool) → true ≡ not b → b ≡ false
is_false true h = absurd (true≢false h)
is_false false h = refl

is_true : (b : Bool) → false ≡ not b → b ≡ true
is_true true h = refl
is_true false h = absurd (true≢false (sym h))

parent-entries : (there : Bool) (entries : List ManifestEntry) (id : Id) (rows : List Row) → there ≡ not (is_null id) → (is_null id ≡ true → rows ≡ []) → map entry_of_row rows ≡ entries
    → AreParentEntries (if there then Some entries else None) id rows
parent-entries true entries id rows t none same = (is_false (is_null id) t, same)
parent-entries false entries id rows t none same = let n = is_true (is_null id) t in (n, none n)

module _ (over : Over) (d : HgDraft) (ps : Parents) (v : ChangesetView) (is : IsOver over d ps v) where
  pub rows-over : AreRowsOver (over.store).now d.rows over.first over.second ps v.rows
  rows-over = record { of_rows = (is.draft).rows; in_first = (is.parents).first; in_second = (is.parents).second }

  listed : AreListed d.rows (if (over.first).is_there then Some ((over.first).manifest).now else None) (if (over.second).is_there then Some ((over.second).manifest).now else None) ps v.rows
  listed = record {
    of_rows = (is.draft).rows;
    rising = (is.view).in_order;
    in_first = parent-entries (over.first).is_there ((over.first).manifest).now ps.p (ps.first).rows is.there.0 (λ n. ap (λ (h : ChangesetView). h.rows) (is.no_first n)) ((is.parents).first).entries;
    in_second = parent-entries (over.second).is_there ((over.second).manifest).now ps.q (ps.second).rows is.there.1 (λ n. ap (λ (h : ChangesetView). h.rows) (is.no_second n)) ((is.parents).second).entries;
  }

  pub listed-by : (e f : Option (List ManifestEntry)) → e ≡ (if (over.first).is_there then Some ((over.first).manifest).now else None) → f ≡ (if (over.second).is_there then Some ((over.second).manifest).now else None)
      → AreListed d.rows e f ps v.rows
  listed-by e f first second =
      subst (λ (x : Option (List ManifestEntry)). AreListed d.rows x f ps v.rows) (sym first)
      (subst (λ (x : Option (List ManifestEntry)). AreListed d.rows (if (over.first).is_there then Some ((over.first).manifest).now else None) x ps v.rows) (sym second) listed)

  pub manifest-mark : (t : Bool) → (IsTrue t ↔ manifest_value d.manifest ≡ ruled_manifest ps v.rows) → (if t then [] else Manifest (manifest_value d.manifest) ∷ []) ≡ manifest_marks ps v
  manifest-mark t test =
      let same = (is.draft).manifest in
      ap (λ (m : ManifestParents). if t then [] else Manifest m ∷ []) (sym same) ∙ sym (manifest-by_test ps v t ((λ h. same ∙ test.0 h), (λ e. test.1 (sym same ∙ e))))

  pub files-mark : (t : Bool) (files : List Bytes) → files ≡ ruled_files ps v.rows → (IsTrue t ↔ (changeset_value d.changeset).files ≡ files) → (if t then [] else Files (changeset_value d.changeset).files ∷ []) ≡ files_marks ps v
  files-mark t files right test =
      let same : (v.fields).files ≡ (changeset_value d.changeset).files = ap (λ (x : Changeset). x.files) (is.draft).fields in
      ap (λ (fs : List Bytes). if t then [] else Files fs ∷ []) (sym same) ∙ sym (files-by_test ps v t ((λ h. same ∙ test.0 h ∙ right), (λ e. test.1 (sym same ∙ e ∙ sym right))))
