-- The changesets of the history that is made from a number. They are this project's own.
use Rattle.std.specs.Prelude.{ℕ, zero, suc, ◌-◌, ◌*◌, ◌==◌, nat_le, Bool, true, not, if◌then◌else◌, List, [], ◌∷◌, ◌++◌, length, filter, slice_get, Option, Some, None, option_map, unwrap_or, codes, decimal, ℤ, pos, negsuc, bytes_eq}
use Rattle.std.specs.Option.{option_or}
use Rattle.text_model.specs.Lists.{with_inserted}
use Rattle.text_model.specs.Text.{Bytes, lf, is_below}
use Rattle.text_model.specs.Id.{Id, null}
use Rattle.hg_model.specs.Changeset.{DateLine, Plain, Extra}
use Rattle.hg_model.specs.Manifest.{Flag, Regular, Executable}
use Rattle.hg_model.specs.FileText.{copy_meta}
use Rattle.view_model.specs.View.{FileRevision, file_node, Row, manifest_node, ChangesetView, changeset_node}
use Rattle.pair_model.specs.Block.{no_changeset, Parents}
use Rattle.pair_model.specs.Rule.{revision_at, new_revision, ruled_manifest, ruled_files}
use Rattle.make_model.specs.Numbers.{Numbers, numbers_of}

-- ---- parents

-- the changeset so many places back, where there are so many and it is wanted
abbrev pub back : Bool → ℕ → List ChangesetView → Option ChangesetView
back wanted n before = if wanted then (if nat_le n (length before) then slice_get before (length before - n) else None) else None

-- the changeset before, or the one before that where the number is 1 and there are so many
abbrev pub first_parent : ℕ → List ChangesetView → Option ChangesetView
first_parent number before = option_or (back (number == 1) 2 before) (back true 1 before)

-- the third changeset back where the number is 0 and there are so many
abbrev pub second_parent : ℕ → List ChangesetView → Option ChangesetView
second_parent number before = back (number == 0) 3 before

abbrev pub node_or_null : Option ChangesetView → Id
node_or_null v = unwrap_or (option_map changeset_node v) null

abbrev pub view_or_none : Option ChangesetView → ChangesetView
view_or_none v = unwrap_or v no_changeset

abbrev pub parents_of : Option ChangesetView → Option ChangesetView → Parents
parents_of first second = record { p = node_or_null first; q = node_or_null second; first = view_or_none first; second = view_or_none second }

unfoldable pub made_parents : ℕ → List ChangesetView → Parents
made_parents number before = parents_of (first_parent number before) (second_parent number before)

-- ---- files

-- `dK/fJ`
abbrev pub made_path : ℕ → ℕ → Bytes
made_path directory file = codes "d" ++ decimal directory ++ codes "/f" ++ decimal file

-- the number of the changeset as a line
abbrev pub made_body : ℕ → Bytes
made_body n = decimal n ++ lf ∷ []

abbrev pub made_flag : ℕ → Flag
made_flag number = if number == 0 then Executable else Regular

-- the first row, where there is one and its path is another
abbrev pub first_other : Bytes → List Row → Option Row
first_other path [] = None
first_other path (row ∷ rows) = if bytes_eq row.path path then None else Some row

-- where a row is given, a copy of its path and its revision without parents; else this revision
abbrev pub copy_or : FileRevision → Bytes → Option Row → FileRevision
copy_or r body None = r
copy_or r body (Some row) = record { p = null; q = null; meta = Some (copy_meta row.path (file_node row.revision)); body = body }

-- the first parent's first path is copied where the number is 0; else the rule makes a new revision over those of the parents
unfoldable pub made_revision : Parents → ℕ → Bytes → Bytes → FileRevision
made_revision ps number path body =
    copy_or (new_revision (revision_at (ps.first).rows path) (revision_at (ps.second).rows path) body) body
    (if number == 0 then first_other path (ps.first).rows else None)

-- the row among those of other paths, in rising order of the paths
unfoldable pub with_row : Row → List Row → List Row
with_row new rows = with_inserted (λ a b. is_below a.path b.path) new (filter (λ row. not (bytes_eq row.path new.path)) rows)

abbrev pub made_row : Parents → Numbers → ℕ → Row
made_row ps x n =
    let path = made_path x.directory x.file in
    record { path = path; flag = made_flag x.executable; revision = made_revision ps x.copied path (made_body n) }

-- ---- the changeset

abbrev pub made_user : ℕ → Bytes
made_user number =
    if number == 0 then codes "Ann <ann@x>" else if number == 1 then codes "bob" else if number == 2 then codes "carl@x" else codes "d<e>f"

-- seconds west of UTC
abbrev pub made_zone : ℕ → ℤ
made_zone number = if number == 0 then pos 0 else if number == 1 then pos 3600 else if number == 2 then negsuc 19799 else pos 90

abbrev pub made_extras : ℕ → List Extra
made_extras number = if number == 0 then record { key = codes "branch"; value = codes "stable" } ∷ [] else []

-- the changeset with these parents and these files: manifest and list of files are those that the rule gives
unfoldable pub changeset_over : Parents → List Row → Numbers → ℕ → ChangesetView
changeset_over ps rows x n =
    let manifest = ruled_manifest ps rows in
    record {
      p = ps.p;
      q = ps.q;
      fields = record {
        manifest = manifest_node manifest rows;
        user = made_user x.user;
        date = Plain (pos (1000 * n)) (made_zone x.zone) (made_extras x.branch);
        files = ruled_files ps rows;
        description = codes "c" ++ decimal n;
      };
      manifest = manifest;
      rows = rows;
    }

-- the changeset behind these
abbrev pub made_view : Numbers → List ChangesetView → ChangesetView
made_view x before =
    let ps = made_parents x.parents before in
    let n = length before in
    changeset_over ps (with_row (made_row ps x n) (ps.first).rows) x n

-- so many changesets from a seed, each over those before it
unfoldable pub made_history : ℕ → ℕ → List ChangesetView
made_history seed zero = []
made_history seed (suc n) = let before = made_history seed n in before ++ made_view (numbers_of seed n) before ∷ []
