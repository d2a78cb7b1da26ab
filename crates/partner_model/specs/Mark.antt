-- What a rule loses of a member is marked on its partner: in headers of the commit, or in extras of the changeset. A part is marked exactly where
-- it differs from what the other rule gives when the parts before it are those of the member. Which parts are marked, their order and their forms
-- are this project's own; docs/translation.md says them in words.
use Rattle.std.specs.Prelude.{Bool, true, false, not, ◌&&◌, nat_le, if◌then◌else◌, List, [], ◌∷◌, ◌++◌, length, map, Option, Some, None, option_map, unwrap_or, ℤ, bytes_eq}
use Rattle.std.specs.List.{flat_map}
use Rattle.std.specs.Option.{option_or}
use Rattle.std.specs.Ordering.{int_eq}
use Rattle.text_model.specs.Text.{Bytes}
use Rattle.text_model.specs.Id.{Id, is_null, blob_id}
use Rattle.hg_model.specs.Changeset.{DateLine, Plain, Raw, Extra}
use Rattle.hg_model.specs.FileText.{copy_of}
use Rattle.git_model.specs.Commit.{Commit}
use Rattle.git_model.specs.Residue.{ResidueKind, Group, Link, Empty, ResidueItem, residue_of, carried}
use Rattle.pair_model.specs.User.{line_of_user, user_of_line, UserDate, message_of}
use Rattle.view_model.specs.Held.{file_row_of}
use Rattle.view_model.specs.View.{FileRevision, file_node, Row, ManifestParents, NoManifest, Over, ChangesetView, TreeRow, CommitView}
use Rattle.pair_model.specs.MarkList.{Mark, Rename, File, Manifest, Files, User, Date, RawDate, OneExtra, marks_text, ChangesetMarks, extras_of}
use Rattle.pair_model.specs.Block.{Block, block_of_id, changesets_in, Parents, parents_among}
use Rattle.pair_model.specs.Rule.{rule_commit, author_by, tree_row_of, revision_at, node_or_null, ruled_row, ruled_manifest, ruled_files, rule_changeset}
use Rattle.pair_model.specs.Octopus.{parents_of_commit}

-- ---- the headers of a commit

abbrev pub same_meta : Option Bytes → Option Bytes → Bool
same_meta None None = true
same_meta (Some a) (Some b) = bytes_eq a b
same_meta _ _ = false

-- the nodes are compared, and the bodies by their blob ids
abbrev pub same_file_revision : FileRevision → FileRevision → Bool
same_file_revision a b = bytes_eq (file_node a) (file_node b) && bytes_eq a.p b.p && bytes_eq a.q b.q && same_meta a.meta b.meta && bytes_eq (blob_id a.body) (blob_id b.body)

-- the node that a path has in the first parent, or, where absent there, in the second
abbrev pub node_in_parents : Parents → Bytes → Id
node_in_parents ps path = node_or_null (option_or (revision_at (ps.first).rows path) (revision_at (ps.second).rows path))

-- the path that the metadata of a revision without parents name, where they name it at that node
abbrev pub named_source : Parents → Option (Bytes × Id) → Option Bytes
named_source ps None = None
named_source ps (Some copy) = if not (is_null copy.1) && bytes_eq (node_in_parents ps copy.0) copy.1 then Some copy.0 else None

abbrev pub copy_in : Option Bytes → Option (Bytes × Id)
copy_in None = None
copy_in (Some meta) = copy_of meta

abbrev pub rename_source : Parents → FileRevision → Option Bytes
rename_source ps r = if is_null r.p && is_null r.q then named_source ps (copy_in r.meta) else None

abbrev pub revision_mark : Bytes → FileRevision → Option Bytes → Mark
revision_mark path r (Some source) = Rename path source
revision_mark path r None = File path r.p r.q r.meta

-- the revision of an entry is the one that the rule gives, so it has no mark
abbrev pub is_ruled : Parents → Row → Bool
is_ruled ps row = same_file_revision row.revision (ruled_row ps (tree_row_of row)).revision

unfoldable pub entry_marks : Parents → Row → List Mark
entry_marks ps row = if is_ruled ps row then [] else revision_mark row.path row.revision (rename_source ps row.revision) ∷ []

abbrev pub same_manifest : ManifestParents → ManifestParents → Bool
same_manifest NoManifest NoManifest = true
same_manifest (Over p q) (Over p' q') = bytes_eq p p' && bytes_eq q q'
same_manifest _ _ = false

abbrev pub manifest_marks : Parents → ChangesetView → List Mark
manifest_marks ps h = if same_manifest h.manifest (ruled_manifest ps h.rows) then [] else Manifest h.manifest ∷ []

abbrev pub same_paths : List Bytes → List Bytes → Bool
same_paths [] [] = true
same_paths (a ∷ as') (b ∷ bs) = bytes_eq a b && same_paths as' bs
same_paths _ _ = false

abbrev pub files_marks : Parents → ChangesetView → List Mark
files_marks ps h = if same_paths (h.fields).files (ruled_files ps h.rows) then [] else Files (h.fields).files ∷ []

abbrev pub user_marks : Bytes → UserDate → List Mark
user_marks user given = if bytes_eq user given.user then [] else User user ∷ []

abbrev pub same_numbers : ℤ → ℤ → UserDate → Bool
same_numbers time tz given = int_eq time given.time && int_eq tz given.tz

-- the date's numbers and the extras, or the raw line
abbrev pub date_marks : DateLine → UserDate → List Mark
date_marks (Plain time tz extras) given = (if same_numbers time tz given then [] else Date time tz ∷ []) ++ map OneExtra extras
date_marks (Raw text) given = RawDate text ∷ []

-- entries, manifest, files, user, date or raw line, extras
unfoldable pub commit_marks : Parents → ChangesetView → List Mark
commit_marks ps h =
    let given = user_of_line (author_by (h.fields).user (h.fields).date) in
    flat_map (entry_marks ps) h.rows ++ manifest_marks ps h ++ files_marks ps h ++ user_marks (h.fields).user given ++ date_marks (h.fields).date given

abbrev pub parents_of_changeset : List Block → ChangesetView → Parents
parents_of_changeset blocks h = parents_among (changesets_in blocks) h.p h.q

abbrev pub with_headers : CommitView → Bytes → CommitView
with_headers c headers = record c { value = record (c.value) { headers = headers } }

-- the marked commit of a changeset: the plain one with the marks as its headers
unfoldable pub mark_commit : List Block → ChangesetView → CommitView
mark_commit blocks h = with_headers (rule_commit blocks h) (marks_text (commit_marks (parents_of_changeset blocks h) h))

-- ---- the extras of a changeset

-- a part, where it isn't the given one
abbrev pub part_unless : Bytes → Bytes → Option Bytes
part_unless part given = if bytes_eq part given then None else Some part

abbrev pub same_item_kind : ResidueKind → ResidueKind → Bool
same_item_kind Group Group = true
same_item_kind (Link a) (Link b) = bytes_eq a b
same_item_kind Empty Empty = true
same_item_kind _ _ = false

abbrev pub same_items : List ResidueItem → List ResidueItem → Bool
same_items [] [] = true
same_items (a ∷ as') (b ∷ bs) = bytes_eq a.path b.path && same_item_kind a.kind b.kind && same_items as' bs
same_items _ _ = false

-- a residue, where it isn't the given one
abbrev pub residue_unless : List ResidueItem → List ResidueItem → Option (List ResidueItem)
residue_unless items given = if same_items items given then None else Some items

-- what a commit's tree has beside its files
abbrev pub residue_in : List TreeRow → List ResidueItem
residue_in rows = residue_of (map file_row_of rows)

-- that of the first of a commit's parents; none where it has no parents
abbrev pub first_residue : List Block → List Id → List ResidueItem
first_residue blocks [] = []
first_residue blocks (id ∷ ids) = unwrap_or (option_map (λ b. residue_in (b.commit).rows) (block_of_id blocks id)) []

-- what the first of these parents hands on to the files of a changeset
abbrev pub handed_on : List Block → List Id → List Row → List ResidueItem
handed_on blocks parents rows = carried (first_residue blocks parents) (map file_row_of (map tree_row_of rows))

-- author, committer, headers, message, number of parents, residue; the last over the one that is handed on
unfoldable pub changeset_marks : Commit → Bytes → List ResidueItem → List ResidueItem → ChangesetMarks
changeset_marks c description items given_items =
    let given = user_of_line c.author in
    record {
      author = part_unless c.author (line_of_user given.user given.time given.tz);
      committer = part_unless c.committer c.author;
      headers = part_unless c.headers [];
      message = part_unless c.message (message_of description);
      parents = if nat_le (length c.parents) 2 then None else Some (length c.parents);
      tree = residue_unless items given_items;
    }

abbrev pub with_extras : ChangesetView → UserDate → List Extra → ChangesetView
with_extras h given extras = record h { fields = record (h.fields) { date = Plain given.time given.tz extras } }

-- The marked changeset of a commit: the plain one over its two parents or its last link, with the marks as its extras. The residue is the
-- plain one where it is what the commit's first parent hands on, also where the changeset's first parent is a link.
unfoldable pub mark_changeset : List Block → CommitView → ChangesetView
mark_changeset blocks c =
    let plain = rule_changeset (parents_of_commit blocks c) c in
    let marks = changeset_marks c.value (plain.fields).description (residue_in c.rows) (handed_on blocks (c.value).parents plain.rows) in
    with_extras plain (user_of_line (c.value).author) (extras_of marks)
