-- What drafts stand for, where a store holds what they don't bring themselves.
use Rattle.std.specs.Prelude.{◌≡◌, ℕ, List, ◌++◌, map, Option, Some, IfSome, ⊤}
use Rattle.text_model.specs.Lists.{Each, SomeOf}
use Rattle.hg_model.specs.Revision.{Revision}
use Rattle.text_model.specs.Id.{Id, null}
use Rattle.hg_model.specs.Changeset.{changeset_text}
use Rattle.hg_changeset.specs.Values.{changeset_value}
use Rattle.hg_store.specs.Known.{IsFileBlob}
use Rattle.hg_store.specs.Views.{IsView, IsViewFault}
use Rattle.hg_store.specs.declared.view.View.{View}
use Rattle.hg_store.specs.declared.fault.ViewFault.TheVariants.{ChangesetUnknown, ManifestUnknown, FileUnknown}
use Rattle.view_model.specs.View.{ChangesetView, Row, rows_text}
use Rattle.view_model.specs.Dump.{file_revision}
use Rattle.view_model.specs.Held.{IsFileHeld}
use Rattle.pair_known.specs.Rows.{RowValue, row_value}
use Rattle.hg_manifest.specs.Values.{manifest_value}
use Rattle.pair_known.specs.declared.draft_texts.DraftTexts.{DraftTexts}
use Rattle.pair_known.specs.declared.hg_draft.HgDraft.{HgDraft}
use Rattle.pair_known.specs.declared.draft_fault.DraftFault.{DraftFault}
use Rattle.pair_known.specs.declared.draft_fault.DraftFault.TheVariants.{Unknown, Memory}

-- the texts that were made for a changeset, where they were, are its own and that of its manifest
pub record AreTextsOf (t : DraftTexts) (h : ChangesetView) : Type 0 where
  pub changeset : IfSome t.changeset (λ text. text ≡ changeset_text h.fields)
  pub manifest : IfSome t.manifest (λ text. text ≡ rows_text h.rows)

-- each of the file revisions is that of a row
abbrev pub AreFreshOf : List Revision → List Row → Type 0
AreFreshOf fresh rows = Each (λ r. SomeOf rows (λ row. r ≡ file_revision null row)) fresh

-- the changeset has these fields and these files; each file revision is one that the draft brings, or else is held
pub record IsHgDraft (known : List Revision) (d : HgDraft) (h : ChangesetView) : Type 0 where
  pub parents : (h.p ≡ d.p1) × (h.q ≡ d.p2)
  pub fields : h.fields ≡ changeset_value d.changeset
  pub manifest : h.manifest ≡ manifest_value d.manifest
  pub rows : d.rows ≡ map row_value h.rows
  pub files : Each (IsFileHeld (d.fresh ++ known)) h.rows
  pub texts : AreTextsOf d.texts h

-- the blob of a row is that of its file revision's body
abbrev pub IsRowKnown : List Revision → RowValue → Type 0
IsRowKnown known row = IsFileBlob known row.path row.node row.blob

-- the changeset, its manifest and the file revisions that this names are known
abbrev pub HasView : List Revision → Id → Type 0
HasView known node = (v : View) × IsView known node v

-- why a changeset has no draft
abbrev pub IsDraftFault : List Revision → Id → DraftFault → Type 0
IsDraftFault known node (Unknown fault) = IsViewFault known node fault
IsDraftFault known node Memory = ⊤

-- the fault names the first line whose file revision is unknown, or memory ran out
abbrev pub IsLineFault : Option ℕ → DraftFault → Type 0
IsLineFault first (Unknown ChangesetUnknown) = ⊥
IsLineFault first (Unknown ManifestUnknown) = ⊥
IsLineFault first (Unknown (FileUnknown line)) = first ≡ Some line
IsLineFault first Memory = ⊤
