-- The plain rules: the commit of a changeset, and the changeset of a commit, part by part. These rules are this project's own.
-- They look at the view, the views of its parents and the parents' partners, and at nothing else that is stored.
use Rattle.std.specs.Prelude.{Bool, true, false, not, ◌&&◌, if◌then◌else◌, List, [], ◌∷◌, ◌++◌, map, filter, Option, Some, None, option_map, unwrap_or, pos, bytes_eq}
use Rattle.std.specs.List.{find, filter_map, list_all}
use Rattle.std.specs.Option.{option_or}
use Rattle.text_model.specs.Lists.{first_of_each, in_order}
use Rattle.text_model.specs.Text.{Bytes, is_below}
use Rattle.text_model.specs.Id.{Id, null, is_null, blob_id}
use Rattle.hg_model.specs.Changeset.{DateLine, Plain, Raw}
use Rattle.hg_model.specs.Manifest.{Flag, Regular, Executable, Symlink, flag_text}
use Rattle.hg_model.specs.FileText.{plain_meta, file_order, manifest_order}
use Rattle.git_model.specs.Tree.{Mode, File, Exec, Link}
use Rattle.git_model.specs.Unfold.{FileRow}
use Rattle.git_model.specs.Residue.{ResidueItem, residue_of, carried, mode_with, row_of_item}
use Rattle.pair_model.specs.User.{line_of_user, user_of_line, message_of, description_of}
use Rattle.view_model.specs.Held.{file_row_of}
use Rattle.view_model.specs.View.{files_among, FileRevision, file_node, Row, rows_text, paths_of, ManifestParents, Over, manifest_node, ChangesetView, TreeRow, CommitView, root_of_rows}
use Rattle.pair_model.specs.Block.{Block, block_of_node, git_partner, not_null, Parents}

-- ---- from a changeset to a commit

abbrev pub mode_of_flag : Flag → Mode
mode_of_flag Regular = File
mode_of_flag Executable = Exec
mode_of_flag Symlink = Link

-- the body as a blob
abbrev pub tree_row_of : Row → TreeRow
tree_row_of row = record { path = row.path; mode = mode_of_flag row.flag; id = blob_id (row.revision).body; content = (row.revision).body }

-- what the tree of the first parent's partner has beside its files
abbrev pub old_residue : List Block → Id → List ResidueItem
old_residue blocks node = unwrap_or (option_map (λ b. residue_of (map file_row_of (b.commit).rows)) (block_of_node blocks node)) []

-- what of it fits the files of the changeset
abbrev pub carried_to : List Block → ChangesetView → List ResidueItem
carried_to blocks h = carried (old_residue blocks h.p) (map file_row_of (map tree_row_of h.rows))

abbrev pub tree_row_with : List ResidueItem → TreeRow → TreeRow
tree_row_with items row = record { path = row.path; mode = mode_with items row.path row.mode; id = row.id; content = row.content }

abbrev pub no_content : FileRow → TreeRow
no_content row = record { path = row.path; mode = row.mode; id = row.id; content = [] }

-- the files of the changeset and the rows of the items, in rising order of their paths
unfoldable pub tree_rows_with : List ResidueItem → List TreeRow → List TreeRow
tree_rows_with items rows = in_order (λ a b. is_below a.path b.path) (map (tree_row_with items) rows ++ map no_content (filter_map row_of_item items))

abbrev pub author_by : Bytes → DateLine → Bytes
author_by user (Plain time tz extras) = line_of_user user time tz
author_by user (Raw text) = line_of_user user (pos 0) (pos 0)

-- The commit with these rows: the partners of the parents, the line of user and date twice, no headers, the message of the description.
abbrev pub commit_with : List TreeRow → List Block → ChangesetView → CommitView
commit_with rows blocks h =
    let author = author_by (h.fields).user (h.fields).date in
    record {
      value = record {
        tree_id = root_of_rows rows;
        parents = map (git_partner blocks) (not_null (h.p ∷ h.q ∷ []));
        author = author;
        committer = author;
        headers = [];
        message = message_of (h.fields).description;
      };
      rows = rows;
    }

-- the commit of the files, with what the first parent's partner hands on
unfoldable pub rule_commit : List Block → ChangesetView → CommitView
rule_commit blocks h = commit_with (tree_rows_with (carried_to blocks h) (map tree_row_of h.rows)) blocks h

-- ---- from a commit to a changeset

abbrev pub flag_of_mode : Mode → Flag
flag_of_mode Exec = Executable
flag_of_mode Link = Symlink
flag_of_mode _ = Regular

-- the revision of a path in a parent
abbrev pub revision_at : List Row → Bytes → Option FileRevision
revision_at rows path = option_map (λ row. row.revision) (find (λ row. bytes_eq row.path path) rows)

abbrev pub with_body : Id → Option FileRevision → Option FileRevision
with_body id None = None
with_body id (Some r) = if bytes_eq (blob_id r.body) id then Some r else None

abbrev pub node_or_null : Option FileRevision → Id
node_or_null e = unwrap_or (option_map file_node e) null

-- two ids, and one and null where they are the same
abbrev pub one_or_two : Id → Id → Id × Id
one_or_two p q = if bytes_eq p q then (p, null) else (p, q)

-- a revision over those of the parents, wrapped in empty metadata where the body begins with a mark
abbrev pub new_revision : Option FileRevision → Option FileRevision → Bytes → FileRevision
new_revision e1 e2 body =
    let both = one_or_two (node_or_null e1) (node_or_null e2) in
    let order = file_order (plain_meta body) both.0 both.1 in
    record { p = order.0; q = order.1; meta = plain_meta body; body = body }

-- the first parent's revision where its body is the blob, else the second's where its is, else a new one
unfoldable pub ruled_revision : Option FileRevision → Option FileRevision → TreeRow → FileRevision
ruled_revision e1 e2 row = unwrap_or (option_or (with_body row.id e1) (with_body row.id e2)) (new_revision e1 e2 row.content)

abbrev pub ruled_row : Parents → TreeRow → Row
ruled_row ps row = record {
  path = row.path;
  flag = flag_of_mode row.mode;
  revision = ruled_revision (revision_at (ps.first).rows row.path) (revision_at (ps.second).rows row.path) row;
}

abbrev pub ruled_rows : Parents → List TreeRow → List Row
ruled_rows ps rows = map (ruled_row ps) (files_among rows)

abbrev pub over_pair : Id × Id → ManifestParents
over_pair both = Over (manifest_order both.0 both.1).0 (manifest_order both.0 both.1).1

-- the first parent's manifest where its lines are these, else a new one over the parents' manifests
unfoldable pub ruled_manifest : Parents → List Row → ManifestParents
ruled_manifest ps rows =
    if bytes_eq (rows_text rows) (rows_text (ps.first).rows) then (ps.first).manifest
    else over_pair (one_or_two ((ps.first).fields).manifest ((ps.second).fields).manifest)

-- a path's entry: its node and its flag, where it is there
abbrev pub entry_at : List Row → Bytes → Option (Id × Bytes)
entry_at rows path = option_map (λ row. (file_node row.revision, flag_text row.flag)) (find (λ row. bytes_eq row.path path) rows)

abbrev pub same_entry : Option (Id × Bytes) → Option (Id × Bytes) → Bool
same_entry None None = true
same_entry (Some a) (Some b) = bytes_eq a.0 b.0 && bytes_eq a.1 b.1
same_entry _ _ = false

-- the files of each parent that is there
abbrev pub parents_rows : Parents → List (List Row)
parents_rows ps = if is_null ps.p then [] else if is_null ps.q then (ps.first).rows ∷ [] else (ps.first).rows ∷ (ps.second).rows ∷ []

-- the paths whose entry differs from that of every parent, rising; without a parent all paths
unfoldable pub ruled_files : Parents → List Row → List Bytes
ruled_files ps rows =
    filter (λ path. list_all (λ other. not (same_entry (entry_at rows path) (entry_at other path))) (parents_rows ps))
    (in_order is_below (first_of_each bytes_eq (paths_of rows ++ paths_of (ps.first).rows ++ paths_of (ps.second).rows)))

-- entries, manifest, files, user and date of the author's line, no extras, the description of the message
unfoldable pub rule_changeset : Parents → CommitView → ChangesetView
rule_changeset ps c =
    let rows = ruled_rows ps c.rows in
    let manifest = ruled_manifest ps rows in
    let author = user_of_line (c.value).author in
    record {
      p = ps.p;
      q = ps.q;
      fields = record {
        manifest = manifest_node manifest rows;
        user = author.user;
        date = Plain author.time author.tz [];
        files = ruled_files ps rows;
        description = description_of (c.value).message;
      };
      manifest = manifest;
      rows = rows;
    }
