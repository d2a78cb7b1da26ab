-- What the rules for a manifest and for a list of files are asked over.
use Rattle.std.proofs.Common.{List, [], ◌∷◌, map, ap, ◌∙◌}
use Rattle.std.specs.Prelude.{IsTrue}
use Rattle.text_model.specs.Lists.{Each, rises}
use Rattle.text_model.specs.Path.{is_fit_path}
use Rattle.text_model.specs.Text.{IsBytes, is_below}
use Rattle.text_model.specs.Id.{IsId}
use Rattle.text_model.proofs.Digests.{IsId-node_id}
use Rattle.hg_model.specs.Manifest.{IsManifest}
use Rattle.hg_model.specs.FileText.{file_text}
use Rattle.hg_model.specs.Revision.{Revision}
use Rattle.view_model.specs.View.{ChangesetView, IsChangesetView, Row, IsRevision, entry_of_row}
use Rattle.pair_model.specs.Block.{Parents}
use Rattle.pair_known.specs.declared.hg_draft.HgDraft.{HgDraft}
use Rattle.file_rule.specs.declared.parents.Parent.{Parent}
use Rattle.manifest_rule.specs.Over.{AreRowsOver}
use Rattle.manifest_rule.proofs.FilesLemmas.{paths-are}
use Rattle.changeset_unmark.specs.Over.{IsDraftOver}

lines-are : (rows : List Row) → Each (λ row. IsTrue (is_fit_path row.path) × IsBytes row.path × IsRevision row.revision) rows → Each (λ e. IsTrue (is_fit_path e.path) × IsBytes e.path × IsId e.node) (map entry_of_row rows)
lines-are [] h = tt
lines-are (x ∷ rows) h = ((h.0.0, h.0.1, IsId-node_id (x.revision).p (x.revision).q (file_text (x.revision).meta (x.revision).body)), lines-are rows h.1)

-- the rows of a changeset are the lines of a manifest
pub is-manifest : (v : ChangesetView) → IsChangesetView v → IsManifest (map entry_of_row v.rows)
is-manifest v view = (lines-are v.rows view.rows, ap (rises is_below) (paths-are v.rows) ∙ view.in_order)

pub rows-over : (known : List Revision) (d : HgDraft) (first second : Parent) (ps : Parents) (v : ChangesetView) → IsDraftOver known d first second ps v → AreRowsOver known d.rows first second ps v.rows
rows-over known d first second ps v over = record { of_rows = (over.draft).rows; in_first = over.in_first; in_second = over.in_second }
