-- What the rule lists: the files of a changeset and those of its parents.
use Rattle.std.specs.Prelude.{◌≡◌, Bool, not, true, false, List, [], map, Option, Some, None, unwrap_or, IsTrue}
use Rattle.text_model.specs.Lists.{rises}
use Rattle.text_model.specs.Text.{is_below}
use Rattle.text_model.specs.Id.{Id, is_null}
use Rattle.hg_model.specs.Manifest.{ManifestEntry}
use Rattle.view_model.specs.View.{Row, paths_of, entry_of_row}
use Rattle.pair_model.specs.Block.{Parents}
use Rattle.pair_known.specs.Rows.{RowValue, row_value}
use Rattle.file_rule.specs.declared.parents.Parent.{Parent}

-- the entry of a row
abbrev pub entry_of_value : RowValue → ManifestEntry
entry_of_value row = record { path = row.path; node = row.node; flag = row.flag }

-- the entries of a manifest; none where there is none
abbrev pub entries_or_none : Option (List ManifestEntry) → List ManifestEntry
entries_or_none m = unwrap_or m []

-- the entries are those of the parent with this id; the null id has none
abbrev pub AreParentEntries : Option (List ManifestEntry) → Id → List Row → Type 0
AreParentEntries None id rows = (is_null id ≡ true) × (rows ≡ [])
AreParentEntries (Some entries) id rows = (is_null id ≡ false) × (map entry_of_row rows ≡ entries)

-- the rows of a changeset, whose paths rise, and the entries of its parents
pub record AreListed (rows : List RowValue) (first second : Option (List ManifestEntry)) (ps : Parents) (hs : List Row) : Type 0 where
  pub of_rows : rows ≡ map row_value hs
  pub rising : IsTrue (rises is_below (paths_of hs))
  pub in_first : AreParentEntries first ps.p (ps.first).rows
  pub in_second : AreParentEntries second ps.q (ps.second).rows

-- The rows of a changeset, whose paths rise, and the entries of its parents, with which of these are there. One that isn't may have entries all
-- the same: the node of a link is a hash, which may be null.
pub record AreListedBy (rows : List RowValue) (has_first has_second : Bool) (first second : Option (List ManifestEntry)) (ps : Parents) (hs : List Row) : Type 0 where
  pub of_rows : rows ≡ map row_value hs
  pub rising : IsTrue (rises is_below (paths_of hs))
  pub there : (is_null ps.p ≡ not has_first) × (is_null ps.q ≡ not has_second)
  pub in_first : entries_or_none first ≡ map entry_of_row (ps.first).rows
  pub in_second : entries_or_none second ≡ map entry_of_row (ps.second).rows

-- the same of parents that a store lends
abbrev pub AreListedOver : List RowValue → Parent → Parent → Parents → List Row → Type 0
AreListedOver rows first second ps hs = AreListedBy rows first.is_there second.is_there (Some (first.manifest).now) (Some (second.manifest).now) ps hs
