-- The marks of the parts of a changeset, one after the other.
use Rattle.std.specs.Prelude.{◌≡◌, ◌++◌, List, [], ◌∷◌, Option, Some, None, option_map, unwrap_or, bytes_eq}
use Rattle.std.specs.Borrow.{Bor}
use Rattle.std.specs.List.{find}
use Rattle.std.specs.Option.{option_copied}
use Rattle.text_model.specs.Text.{Bytes}
use Rattle.text_model.specs.Id.{Id, null}
use Rattle.hg_manifest.specs.Values.{manifest_entry}
use Rattle.hg_manifest.specs.declared.entry.Entry.{Entry}
use Rattle.hg_model.specs.Manifest.{ManifestEntry}
use Rattle.hg_model.specs.Revision.{Revision}
use Rattle.view_model.specs.View.{FileRevision, Row}
use Rattle.pair_model.specs.Block.{Parents}
use Rattle.pair_model.specs.Rule.{revision_at}
use Rattle.pair_model.specs.MarkList as model
use Rattle.pair_model.specs.MarkList.{IsMarkList}
use Rattle.file_rule.specs.Parents.{IsRevisionAt}
use Rattle.mark_code.specs.Values.{mark_value}
use Rattle.mark_code.specs.declared.mark.Mark.{Mark}
use Rattle.commit_mark.specs.declared.file_parts.FileParts.{FileParts}

-- the mark, where there is one
abbrev pub marks_in : Option Mark → List model.Mark
marks_in None = []
marks_in (Some m) = mark_value m ∷ []

-- more marks may stand behind these, so that all are a mark list
abbrev pub BeginList : List model.Mark → Type 0
BeginList marks = (rest : List model.Mark) × IsMarkList (marks ++ rest)

-- the node of a path; the null id where no entry has it
abbrev pub node_at : List ManifestEntry → Bytes → Id
node_at entries path = unwrap_or (option_map (λ e. e.node) (find (λ e. bytes_eq e.path path) entries)) null

-- the parts are those of the revision
pub record ArePartsOf (parts : FileParts) (r : FileRevision) : Type 0 where
  pub p : parts.p ≡ r.p
  pub q : parts.q ≡ r.q
  pub meta : option_map (λ m. m.now) parts.meta ≡ r.meta
  pub body : (parts.body).now ≡ r.body

-- two revisions have the same parents and the same metadata
pub record SaysTheSame (r s : FileRevision) : Type 0 where
  pub p : r.p ≡ s.p
  pub q : r.q ≡ s.q
  pub meta : r.meta ≡ s.meta

-- the entries of the row's path in the parents, with their revisions
pub record AreEntriesAt (known : List Revision) (first second : Option ManifestEntry) (ps : Parents) (w : Row) : Type 0 where
  pub in_first : IsRevisionAt known w.path first (revision_at (ps.first).rows w.path)
  pub in_second : IsRevisionAt known w.path second (revision_at (ps.second).rows w.path)

-- the entries that are lent are these
abbrev pub AreLentAt : List Revision → Option (Bor Entry) → Option (Bor Entry) → Parents → Row → Type 0
AreLentAt known first second ps w = AreEntriesAt known (option_map manifest_entry (option_copied first)) (option_map manifest_entry (option_copied second)) ps w
