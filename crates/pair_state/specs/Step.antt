-- One pair more, and files whose bodies are asked of a store.
use Rattle.std.specs.Prelude.{◌≡◌, true, List, length, ◌++◌, ◌∷◌, [], map, IfSome, IsTrue}
use Rattle.std.specs.List.{flat_map}
use Rattle.text_model.specs.Lists.{Each, In}
use Rattle.text_model.specs.Id.{Id, has_id}
use Rattle.text_model.specs.Text.{Bytes}
use Rattle.hg_model.specs.Manifest.{ManifestEntry, entry_text}
use Rattle.hg_model.specs.Revision.{Revision}
use Rattle.git_model.specs.Object.{Object, knows_object, is_other_content}
use Rattle.tree_shape.specs.Laws.{IsKnown}
use Rattle.view_model.specs.View.{Row, ChangesetView, entry_of_row}
use Rattle.view_model.specs.Held.{IsFileHeld, IsChangesetHeld}
use Rattle.pair_known.specs.Rows.{RowValue, row_value}
use Rattle.hg_model.specs.Changeset.{changeset_text}
use Rattle.hg_changeset.specs.Values.{changeset_value}
use Rattle.pair_known.specs.declared.draft_texts.DraftTexts.{DraftTexts}
use Rattle.pair_known.specs.declared.hg_draft.HgDraft.{HgDraft}
use Rattle.pair_known.specs.Partners.{ArePartners}
use Rattle.pair_state.specs.Blocks.{value_of, body_blob}
use Rattle.pair_state.specs.declared.state_parts.StateParts.{StateParts}

-- the links, the changeset and the commit stand behind the others, and all else is as it was
pub record IsPushed (old new : StateParts) (links : List Id) (node id : Id) : Type 0 where
  pub hg : new.known.hg ≡ old.known.hg
  pub git : new.known.git ≡ old.known.git
  pub partners : new.known.partners ≡ old.known.partners ++ (node, id) ∷ []
  pub blocks : map value_of new.blocks ≡ map value_of old.blocks ++ record { node = node; commit = id; links = length links } ∷ []
  pub changesets : new.changesets ≡ old.changesets ++ (links ++ node ∷ [])
  pub commits : new.commits ≡ old.commits ++ id ∷ []
  pub agreed : new.agreed ≡ old.agreed
  pub tags : new.tags ≡ old.tags
  pub names : new.names ≡ old.names
  pub one : ArePartners new.known.partners

-- the files are these, their revisions are known, and so are the ids of their blobs
pub record AreAsked (hg : List Revision) (git : List Object) (values : List RowValue) (rows : List Row) : Type 0 where
  pub are : values ≡ map row_value rows
  pub held : Each (IsFileHeld hg) rows
  pub blobs : Each (λ row. knows_object git (body_blob row).id ≡ true) rows

-- the changeset with this node is known, and so are the ids of its files' blobs
pub record IsAskedOf (hg : List Revision) (git : List Object) (node : Id) (v : ChangesetView) : Type 0 where
  pub held : IsChangesetHeld hg node v
  pub blobs : Each (λ row. knows_object git (body_blob row).id ≡ true) v.rows

-- the object is another content than one of the store
abbrev pub IsElse : List Object → Object → Type 0
IsElse git o = (other : Object) × In other git × (is_other_content o other ≡ true)

-- the line of a file in a manifest
abbrev pub line_of : RowValue → Bytes
line_of v = entry_text (record { path = v.path; node = v.node; flag = v.flag })

-- the texts are those of the draft's changeset and of its manifest, where they were made
pub record AreItsTexts (d : HgDraft) (t : DraftTexts) : Type 0 where
  pub changeset : IfSome t.changeset (λ text. text ≡ changeset_text (changeset_value d.changeset))
  pub manifest : IfSome t.manifest (λ text. text ≡ flat_map line_of d.rows)

-- the line is that of a file whose revision is known, and of which this holds
abbrev pub IsLineWith : List Revision → (Row → Type 0) → ManifestEntry → Type 0
IsLineWith hg P e = (y : Row) × (e ≡ entry_of_row y) × IsFileHeld hg y × P y

-- the id of its body's blob is known
abbrev pub IsAskedLine : List Revision → List Object → ManifestEntry → Type 0
IsAskedLine hg git = IsLineWith hg (λ y. knows_object git (body_blob y).id ≡ true)

-- its body is a blob of the store
abbrev pub IsBlobLine : List Revision → List Object → ManifestEntry → Type 0
IsBlobLine hg git = IsLineWith hg (λ y. IsKnown git (body_blob y))

-- its body is another content than an object of the store
abbrev pub IsElseLine : List Revision → List Object → ManifestEntry → Type 0
IsElseLine hg git = IsLineWith hg (λ y. IsElse git (body_blob y))

-- each line is that of a file whose revision is known and whose body is a blob of the store
abbrev pub AreBlobs : List Revision → List Object → List ManifestEntry → Type 0
AreBlobs hg git entries = Each (IsBlobLine hg git) entries

-- the lines of an agreed changeset's manifest
abbrev pub HaveBlobs : List Revision → List Object → List Id → Type 0
HaveBlobs hg git agreed = (node : Id) → IsTrue (has_id agreed node) → (entries : List ManifestEntry)
    → ((w : ChangesetView) → IsChangesetHeld hg node w → map entry_of_row w.rows ≡ entries) → AreBlobs hg git entries
