-- The changeset that a commit's marks name, the parents that a changeset's links name, and the commit that a changeset's marks name. Marks may be
-- forged: what they name is an unmarking only where marking it gives the same marks again. This rule is this project's own.
use Rattle.std.specs.Prelude.{◌≡◌, ℕ, zero, suc, Bool, false, not, ◌&&◌, ◌==◌, if◌then◌else◌, List, [], ◌∷◌, ◌++◌, map, Option, Some, None, option_map, unwrap_or, IsTrue, bytes_eq, decimal, ℤ}
use Rattle.std.specs.List.{find, filter_map, list_all, list_any, slice_split}
use Rattle.std.specs.Option.{option_or}
use Rattle.text_model.specs.Text.{Bytes}
use Rattle.text_model.specs.Id.{Id, null, is_null}
use Rattle.text_model.specs.Path.{is_fit_path}
use Rattle.hg_model.specs.Changeset.{Changeset, IsChangesetText, DateLine, Plain, Raw, Extra}
use Rattle.hg_model.specs.FileText.{copy_meta}
use Rattle.hg_model.specs.Revision.{Revision, Changesets, revision_of}
use Rattle.git_model.specs.Unfold.{FileRow}
use Rattle.git_model.specs.Residue.{ResidueItem, fits}
use Rattle.view_model.specs.Held.{file_row_of}
use Rattle.view_model.specs.View.{FileRevision, Row, ManifestParents, manifest_node, ChangesetView, TreeRow, CommitView, files_among, tree_paths, has_clash, root_of_rows}
use Rattle.pair_model.specs.MarkList.{extras_of, Mark, Rename, File, Manifest, Files, User, Date, RawDate, OneExtra, ChangesetMarks, item_paths, AreChangesetMarks}
use Rattle.pair_model.specs.User.{user_of_line, message_of, description_of}
use Rattle.pair_model.specs.Block.{Block, Parents}
use Rattle.pair_model.specs.Octopus.{parents_of_commit, is_link}
use Rattle.pair_model.specs.Rule.{author_by, tree_row_of, tree_rows_with, ruled_row, ruled_manifest, ruled_files}
use Rattle.partner_model.specs.Mark.{node_in_parents, handed_on}

-- ---- a commit's marks

-- the path of a mark of an entry
abbrev pub entry_path : Mark → Option Bytes
entry_path (Rename path source) = Some path
entry_path (File path p q meta) = Some path
entry_path _ = None

abbrev pub is_at : Bytes → Mark → Bool
is_at path m = elim (entry_path m) as (λ _. Bool) [ None ↦ false | Some other ↦ bytes_eq path other ]

abbrev pub renamed : Id → Bytes → Bytes → Option FileRevision
renamed node source body = if is_null node then None else Some (record { p = null; q = null; meta = Some (copy_meta source node); body = body })

-- the revision that a mark names, with the blob as its body; none where a copy's source is in no parent
abbrev pub revision_of_mark : Parents → Bytes → Mark → Option FileRevision
revision_of_mark ps body (Rename path source) = renamed (node_in_parents ps source) source body
revision_of_mark ps body (File path p q meta) = Some (record { p = p; q = q; meta = meta; body = body })
revision_of_mark ps body _ = None

abbrev pub row_with_revision : Row → FileRevision → Row
row_with_revision row r = record { path = row.path; flag = row.flag; revision = r }

-- a file by its mark, or by the rule
abbrev pub filled_row : Parents → List Mark → TreeRow → Option Row
filled_row ps marks of = elim (find (is_at of.path) marks) as (λ _. Option Row) [
  | None ↦ Some (ruled_row ps of)
  | Some m ↦ option_map (row_with_revision (ruled_row ps of)) (revision_of_mark ps of.content m)
]

abbrev pub all_some : {X : Type 0} → List (Option X) → Option (List X)
all_some [] = Some []
all_some (None ∷ xs) = None
all_some (Some x ∷ xs) = option_map (λ more. x ∷ more) (all_some xs)

-- each mark of an entry is at a path of the commit
abbrev pub are_paths_there : List Mark → List TreeRow → Bool
are_paths_there marks rows = list_all (λ path. list_any (bytes_eq path) (tree_paths rows)) (filter_map entry_path marks)

abbrev pub filled_rows : Parents → List Mark → List TreeRow → Option (List Row)
filled_rows ps marks rows = if are_paths_there marks rows then all_some (map (filled_row ps marks) rows) else None

abbrev pub manifest_mark : Mark → Option ManifestParents
manifest_mark (Manifest m) = Some m
manifest_mark _ = None

abbrev pub files_mark : Mark → Option (List Bytes)
files_mark (Files paths) = Some paths
files_mark _ = None

abbrev pub user_mark : Mark → Option Bytes
user_mark (User user) = Some user
user_mark _ = None

abbrev pub extra_mark : Mark → Option Extra
extra_mark (OneExtra e) = Some e
extra_mark _ = None

-- the date line of a raw line, or of numbers and extras
abbrev pub date_mark : List Extra → Mark → Option DateLine
date_mark extras (Date time tz) = Some (Plain time tz extras)
date_mark extras (RawDate text) = Some (Raw text)
date_mark extras _ = None

abbrev pub first_mark : {X : Type 0} → (Mark → Option X) → List Mark → Option X
first_mark of [] = None
first_mark of (m ∷ ms) = option_or (of m) (first_mark of ms)

-- the parts in their order: each by its mark, or by the rule over the parts before it
abbrev pub changeset_by_marks : Parents → CommitView → List Mark → List Row → ChangesetView
changeset_by_marks ps c marks rows =
    let manifest = unwrap_or (first_mark manifest_mark marks) (ruled_manifest ps rows) in
    let given = user_of_line (c.value).author in
    let extras = filter_map extra_mark marks in
    record {
      p = ps.p;
      q = ps.q;
      fields = record {
        manifest = manifest_node manifest rows;
        user = unwrap_or (first_mark user_mark marks) given.user;
        date = unwrap_or (first_mark (date_mark extras) marks) (Plain given.time given.tz extras);
        files = unwrap_or (first_mark files_mark marks) (ruled_files ps rows);
        description = description_of (c.value).message;
      };
      manifest = manifest;
      rows = rows;
    }

-- The changeset that the marks of a commit name. It has the commit's files alone: a commit's marks say nothing of what its tree has beside
-- them, which has to be what the first parent's partner hands on.
unfoldable pub filled_changeset : List Block → CommitView → List Mark → Option ChangesetView
filled_changeset blocks c marks =
    option_map (changeset_by_marks (parents_of_commit blocks c) c marks) (filled_rows (parents_of_commit blocks c) marks (files_among c.rows))

-- ---- a changeset's links

-- the form of link k of n
abbrev pub has_numbers : ℕ → ℕ → List Bytes → Bool
has_numbers k n (id ∷ number ∷ parents ∷ []) = bytes_eq number (decimal k) && bytes_eq parents (decimal n)
has_numbers k n _ = false

abbrev pub is_numbered : ℕ → ℕ → DateLine → Bool
is_numbered k n (Plain time tz (e ∷ [])) = has_numbers k n (slice_split (λ b. b == 58) e.value)
is_numbered k n _ = false

-- from the first parent of a changeset through links k down to 1 of n: the partners of all parents of the commit but the last
unfoldable pub Walks : List Revision → ℕ → ℕ → Id → List Id → Type 0
Walks known n zero node ids = ids ≡ node ∷ []
Walks known n (suc k) node ids =
    (r : Revision) × (revision_of known Changesets node ≡ Some r) × (x : Changeset) × IsChangesetText r.text x
    × IsTrue (is_link x r.p r.q && is_numbered (suc k) n x.date) × (front : List Id) × Walks known n k r.p front × (ids ≡ front ++ r.q ∷ [])

-- ---- a changeset's marks

-- the files of a changeset as rows of a tree
abbrev pub files_in : List Row → List FileRow
files_in rows = map file_row_of (map tree_row_of rows)

-- the extras of the changeset are those of the marks
abbrev pub HasMarks : ChangesetView → ChangesetMarks → Type 0
HasMarks h m = (time : ℤ) × (tz : ℤ) × ((h.fields).date ≡ Plain time tz (extras_of m)) × AreChangesetMarks m

-- the items fit the files, and their paths are fit and none lies below another
abbrev pub are_items_right : List FileRow → List ResidueItem → Bool
are_items_right files items = list_all (fits files) items && list_all (λ i. is_fit_path i.path) items && not (has_clash (item_paths items))

-- the items that the marks name, where they are right; without a mark what the first of the commit's parents hands on
abbrev pub residue_of_marks : List Block → List Id → List Row → Option (List ResidueItem) → Option (List ResidueItem)
residue_of_marks blocks parents rows None = Some (handed_on blocks parents rows)
residue_of_marks blocks parents rows (Some items) = if are_items_right (files_in rows) items then Some items else None

-- the parts in their order: each by its mark, or by the rule over the parts before it
abbrev pub commit_by_marks : List Id → ChangesetView → ChangesetMarks → List ResidueItem → CommitView
commit_by_marks parents h m items =
    let rows = tree_rows_with items (map tree_row_of h.rows) in
    let author = unwrap_or m.author (author_by (h.fields).user (h.fields).date) in
    record {
      value = record {
        tree_id = root_of_rows rows;
        parents = parents;
        author = author;
        committer = unwrap_or m.committer author;
        headers = unwrap_or m.headers [];
        message = unwrap_or m.message (message_of (h.fields).description);
      };
      rows = rows;
    }

-- the commit over these parents that the marks of a changeset name
unfoldable pub filled_commit : List Block → List Id → ChangesetView → ChangesetMarks → Option CommitView
filled_commit blocks parents h m = option_map (commit_by_marks parents h m) (residue_of_marks blocks parents h.rows m.tree)
